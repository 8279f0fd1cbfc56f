use Rattle.svc_system.proofs.Seconds.{digits_before}
use Rattle.svc_system.proofs.settings.seconds_in.Goals as goal

pub returns-in-Some-clause-only : goal.returns-in-Some-clause-only
returns-in-Some-clause-only c = λ seconds below is.
    c.read_number.ensures.only seconds below
    (digits_before seconds c.in-Some.digits.now c.args.text.now c.in-Some.ensures.some is)
