use Rattle.std.proofs.Common.{◌≡◌, ◌++◌, ◌≤◌, vec_len, vec_capacity}
use Rattle.svc_mail.specs.Ends.{IsSameReceiver, taken_by}
use Rattle.svc_tests.proofs.mail.take_all.Given as goal

abbrev pub invariant-loop-taken : goal.invariant-loop-taken
invariant-loop-taken g l =
    IsSameReceiver l.fn.receiver l.receiver × (taken_by l.receiver ≡ taken_by l.fn.receiver ++ l.into.items)
    × (vec_len l.into ≡ l._taken) × (l.count ≤ vec_capacity l.into)
