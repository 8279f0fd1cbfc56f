use Rattle.std.proofs.Common.{◌++◌, sym, ◌∙◌, ap}
use Rattle.svc_mail.specs.History.{letters}
use Rattle.svc_mail.specs.Ends.{number_of, taken_by}
use Rattle.svc_mail.proofs.Histories.{of_sender-append, row_of-append}
use Rattle.svc_mail.proofs.Arrived.{names, each_once}
use Rattle.svc_mail.proofs.whole.every_letter_arrives.Goals as goal

pub returns-clause-rows : goal.returns-clause-rows
returns-clause-rows g c ss r left whole i s at = (whole.rows i s at).0 ∙ row_of-append (number_of s) (taken_by r) left

pub returns-clause-places : goal.returns-clause-places
returns-clause-places g c ss r left whole i s at = sym (of_sender-append (number_of s) (taken_by r) left)
    ∙ whole.places (number_of s) ∙ ap (letters (number_of s) 0) (sym (whole.rows i s at).0)

pub returns-clause-senders : goal.returns-clause-senders
returns-clause-senders g c ss r left whole = names _ (taken_by r ++ left) whole.among

pub returns-clause-once : goal.returns-clause-once
returns-clause-once g c ss r left whole = each_once (taken_by r ++ left) whole.places
