use Rattle.std.proofs.Common.{◌≡◌, ◌-◌, ◌^◌, map}
use Rattle.std.specs.Prelude.{min, string_bytes}
use Rattle.std.specs.Fs.{dir_entry_name}
use Rattle.std.specs.List.{All}
use Rattle.cmd_svscan.specs.Listing.{IsListed, count_unread, read_of}
use Rattle.cmd_svscan.proofs.listing.names_in.Given as goal

-- the entries so far that could be read are named, and the others are counted
abbrev pub invariant-loop-entry : goal.invariant-loop-entry
invariant-loop-entry g l = record {
  listed : All IsListed l.yielded;
  names : map string_bytes l.names.items ≡ map dir_entry_name (read_of l.yielded);
  unnamed : l.unnamed ≡ min (count_unread l.yielded) (2 ^ 64 - 1);
}
