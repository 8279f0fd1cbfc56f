use Rattle.std.proofs.Common.{◌≡◌, ◌-◌, ◌^◌, min, take}
use Rattle.mlog_script.specs.Script.{number}
use Rattle.mlog_script.proofs.word.number.Given as goal

abbrev pub invariant-loop-digit : goal.invariant-loop-digit
invariant-loop-digit l = l.number ≡ min (number (take l.digit-index l.digits)) (2 ^ 64 - 1)
