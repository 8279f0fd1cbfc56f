use Rattle.std.proofs.Common.{◌≡◌, ◌++◌, take}
use Rattle.svc_mail.specs.Ends.{IsSameSender, posted}
use Rattle.svc_tests.proofs.mail.post_all.Given as goal

abbrev pub invariant-loop-item : goal.invariant-loop-item
invariant-loop-item g l = IsSameSender l.fn.sender l.sender
    × (posted l.sender ≡ posted l.fn.sender ++ take l.item-index l.items)
