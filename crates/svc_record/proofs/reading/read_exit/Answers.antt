use Rattle.std.proofs.Common.{◌≡◌, refl}
use Rattle.svc_record.proofs.Moments.{marks_exit}
use Rattle.svc_record.proofs.reading.read_exit.Goals as goal

pub returns-in_default : goal.returns-in_default
returns-in_default c = λ exit so is.
    let found = c.moment_in.ensures.only (record { pid = exit.pid; label = exit.label })
    (record { pid = so.pid; label = so.label }) (marks_exit c.args.line.now exit is) in
    absurd (c.in_default.not-Some (record { pid = exit.pid; label = exit.label }) found)

pub returns-in-None : goal.returns-in-None
returns-in-None c = λ exit so is.
    let found = c.moment_in.ensures.only (record { pid = exit.pid; label = exit.label })
    (record { pid = so.pid; label = so.label }) (marks_exit c.args.line.now exit is) in
    let pid : exit.pid ≡ c.in-Some.pid = cc (found, c.in-Some.is, c.in-Some.pid-is) in
    let label : exit.label ≡ c.in-Some.label = cc (found, c.in-Some.is, c.in-Some.label-is) in
    c.in-None.ensures.none refl exit.ending so.ending (cc (is, pid, label))
