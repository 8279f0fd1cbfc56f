-- What a maker records of its calls.
use Rattle.std.specs.Prelude.{List, [], Some}
use Rattle.tai_status.specs.Label.{Tai64n}
use Rattle.scan_table.specs.Slots.{Row}
use Rattle.scan_table.specs.Table.{new_table}
use Rattle.svc_host.specs.declared.host.HostOut.{HostOut}
use Rattle.svc_host.specs.Rounds.{HostState, IsScanned}
use Rattle.svc_host.specs.Calls.{Call, MadePart, MadePair, KeptTrace, EndedPart, ForgotSlot, WatchedOutputs}
use Rattle.svc_host.specs.Calls.{EndedOutput}
use Rattle.svc_host.specs.Calls.{AskedIsRead, CountedLost}
use Rattle.host_tests.specs.declared.kept_calls.Asked.{Asked}
use Rattle.host_tests.specs.declared.kept_calls.Asked.TheVariants as asked

abbrev pub call_of : Asked → Call
call_of (asked.Part id name made) = MadePart id name.items made
call_of (asked.Pair slot name fault) = MadePair slot name.items fault
call_of (asked.Trace id text kept) = KeptTrace id text.items kept
call_of (asked.Ended id) = EndedPart id
call_of (asked.Forgot slot) = ForgotSlot slot
call_of asked.Watched = WatchedOutputs
call_of (asked.EndedOutput slot at_once) = EndedOutput slot at_once
call_of (asked.IsRead slot is_read) = AskedIsRead slot is_read
call_of (asked.Lost slot has_logger count) = CountedLost slot has_logger count

-- a host without parts, over a maker that was asked nothing
abbrev pub unasked : HostState
unasked = record { table = new_table 0; parts = []; calls = Some [] }

-- Such a host has scanned these rows once: its maker was asked what a scan asks.
abbrev pub HasScannedOnce : List Row → Tai64n → HostState → Type 0
HasScannedOnce rows label host = (out : HostOut) × IsScanned unasked rows label out host
