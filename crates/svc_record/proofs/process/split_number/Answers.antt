use Rattle.std.proofs.Common.{arith, ◌∙◌, sym}
use Rattle.svc_record.proofs.Spaces.{number_before, rest_behind, space_behind}
use Rattle.svc_record.proofs.process.split_number.Goals as goal

pub returns-in_err-at : goal.returns-in_err-at
returns-in_err-at c = record {
  only = λ number rest below is.
      let e = c.in_err-at.ensures.place ∙ space_behind number rest c.args.text.now is in
      absurd (cc e);
}

pub returns-in_err-number : goal.returns-in_err-number
returns-in_err-number c = record {
  only = λ number rest below is.
      let e = c.in_err-number.ensures.only number below
      (number_before number rest c.args.text.now c.in_ok-at.at is c.in_ok-at.ensures.place) in
      absurd (cc e);
}

pub returns : goal.returns
returns c = record {
  only = λ number rest below is.
      let e = c.in_ok-number.ensures.only number below
      (number_before number rest c.args.text.now c.in_ok-at.at is c.in_ok-at.ensures.place) in
      (cc e, rest_behind number rest c.args.text.now c.in_ok-at.at is c.in_ok-at.ensures.place);
}
