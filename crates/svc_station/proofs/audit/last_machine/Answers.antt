use Rattle.std.proofs.Common.{ap, sym, ◌∙◌}
use Rattle.sup_core.specs.History.{Opened, state_of}
use Rattle.sup_core.specs.Runs.{followed_by}
use Rattle.sup_trace.specs.Trace.{are_taken}
use Rattle.svc_station.specs.Ends.{known_to, told_by}
use Rattle.svc_station.proofs.Prefixes.{prefix_trans}
use Rattle.svc_station.proofs.Ended.{ended}
use Rattle.svc_station.proofs.audit.last_machine.Goals as goal

pub returns : goal.returns
returns c =
    let note = c.args.note in
    let log = known_to c.machine.new.self in
    let opening = ap (λ v. v.opening) c.machine.ensures.same.0 ∙ ap (λ v. v.opening) c.learn.ensures.same.0
    ∙ sym (ap (λ v. v.opening) c.requires.station) in
    let starts = prefix_trans (told_by note) _ log c.learn.ensures.told c.machine.ensures.own in
    let whole = ended note.opening (told_by note) log starts (ap (λ m. are_taken (Opened m) log) (sym opening)
    ∙ c.machine.ensures.taken) c.requires.gone in
    record {
      same = (
        c.machine.ensures.same.0 ∙ c.learn.ensures.same.0,
        c.machine.ensures.same.1
            ∙ c.learn.ensures.same.1,
      );
      own =
          prefix_trans (known_to c.args.reader.now) _ log c.learn.ensures.own c.machine.ensures.own;
      whole = whole;
      history = λ i. followed_by (Opened (opening i)) (whole i);
      machine = c.machine.ensures.reading
          ∙ (λ i. state_of (followed_by (Opened (opening i)) (whole i)));
    }
