-- How a service's output waits, and when it is over.
use Rattle.std.specs.Prelude.{ℤ, pos, negsuc, Bool, true, false, not, Option, Some, None}
use Rattle.svc_system.specs.declared.output.FifoFault.{FifoFault}
use Rattle.svc_system.specs.declared.output.FifoFault.TheVariants.{Held, Unfit, Refused}

-- whether an output also watches for the moment when outputs may be ended: it does so until they may, and not
-- afterwards
abbrev pub is_watch_asked : (ends is_watched : Bool) → Bool
is_watch_asked true is_watched = false
is_watch_asked false is_watched = not is_watched

-- The most milliseconds to wait. An output that is to end does not wait. Once outputs may be ended, 20. Before that,
-- -1, which is without limit.
abbrev pub wait_millis : (ends is_watched : Bool) → ℤ
wait_millis true is_watched = pos 0
wait_millis false true = pos 20
wait_millis false false = negsuc 0

-- Whether an output is over. What can be read is read first. An output that is to end is over if there is nothing to
-- read, and any other one waits again.
abbrev pub is_over_after : (ends is_ready : Bool) → Option Bool
is_over_after ends true = Some false
is_over_after true false = Some true
is_over_after false false = None

-- A pipe may replace a FIFO that is not opened only if the folder can hold no FIFO at all.
abbrev pub may_be_pipe : FifoFault → Bool
may_be_pipe Unfit = true
may_be_pipe Held = false
may_be_pipe (Refused cause) = false
