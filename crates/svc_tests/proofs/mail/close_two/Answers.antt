use Rattle.std.proofs.Common.{◌≡◌, ◌++◌, ap, sym, ◌∙◌, subst}
use Rattle.svc_mail.specs.History.{row_of}
use Rattle.svc_mail.specs.Ends.{posted, taken_by, box_of, senders_in}
use Rattle.svc_tests.proofs.Pair.{two_senders, pushed_two, row_first, row_second}
use Rattle.svc_tests.proofs.mail.close_two.Goals as goal

pub close-requires-clause-senders : goal.close-requires-clause-senders
close-requires-clause-senders g c =
    let both = pushed_two _ _ _ c.args.one c.args.two c.requires.room c.in_ok-push.ensures.items
    c.in_ok-push-2.ensures.items in
    two_senders c.args.mailbox _ c.args.one c.args.two both c.requires.one.0 c.requires.two.0 c.requires.one.1
    c.requires.two.1 c.requires.receiver.1

pub close-requires-in-Err-clause-senders : goal.close-requires-in-Err-clause-senders
close-requires-in-Err-clause-senders g c =
    let both = pushed_two _ _ _ c.args.one c.args.two c.requires.room c.in_ok-push.ensures.items
    c.in_ok-push-2.ensures.items in
    let back = c.in-Err.ensures.refused in
    let box = sym (ap box_of back.0) in
    two_senders c.in-Err.back.mailbox c.in-Err.back.senders.items c.args.one c.args.two (ap (λ v. v.items) back.1
    ∙ both) (c.requires.one.0 ∙ box) (c.requires.two.0 ∙ box) c.requires.one.1 c.requires.two.1
    (ap senders_in back.0 ∙ c.requires.receiver.1)

pub returns-in-Ok-clause-one : goal.returns-in-Ok-clause-one
returns-in-Ok-clause-one g c =
    let both = pushed_two _ _ _ c.args.one c.args.two c.requires.room c.in_ok-push.ensures.items
    c.in_ok-push-2.ensures.items in
    row_first _ c.args.one c.args.two c.args.receiver _ both c.requires.one.1 c.in-Ok.ensures.left

pub returns-in-Ok-clause-two : goal.returns-in-Ok-clause-two
returns-in-Ok-clause-two g c =
    let both = pushed_two _ _ _ c.args.one c.args.two c.requires.room c.in_ok-push.ensures.items
    c.in_ok-push-2.ensures.items in
    row_second _ c.args.one c.args.two c.args.receiver _ both c.requires.two.1 c.in-Ok.ensures.left

pub returns-in-Ok-close-clause-one : goal.returns-in-Ok-close-clause-one
returns-in-Ok-close-clause-one g c =
    let both = pushed_two _ _ _ c.args.one c.args.two c.requires.room c.in_ok-push.ensures.items
    c.in_ok-push-2.ensures.items in
    let back = c.in-Err.ensures.refused in
    subst (λ r. row_of 0 (taken_by r ++ c.in-Ok-close.left) ≡ posted c.args.one) back.2
    (row_first c.in-Err.back.senders.items c.args.one c.args.two c.in-Err.back.receiver _ (ap (λ v. v.items) back.1
    ∙ both) c.requires.one.1 c.in-Ok-close.ensures.left)

pub returns-in-Ok-close-clause-two : goal.returns-in-Ok-close-clause-two
returns-in-Ok-close-clause-two g c =
    let both = pushed_two _ _ _ c.args.one c.args.two c.requires.room c.in_ok-push.ensures.items
    c.in_ok-push-2.ensures.items in
    let back = c.in-Err.ensures.refused in
    subst (λ r. row_of 1 (taken_by r ++ c.in-Ok-close.left) ≡ posted c.args.two) back.2
    (row_second c.in-Err.back.senders.items c.args.one c.args.two c.in-Err.back.receiver _ (ap (λ v. v.items) back.1
    ∙ both) c.requires.two.1 c.in-Ok-close.ensures.left)
