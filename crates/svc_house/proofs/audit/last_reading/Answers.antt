use Rattle.std.proofs.Common.{◌≡◌, sym, ◌∙◌, subst}
use mathlib.Core.List.{IsPrefix}
use Rattle.svc_station.specs.Ends.{known_to, note_station, reader_station, told_by}
use Rattle.svc_station.proofs.Prefixes.{prefix_trans}
use Rattle.svc_house.proofs.Reading.{same-history, whole-history, whole-known}
use Rattle.svc_house.proofs.audit.last_reading.Given as given
use Rattle.svc_house.proofs.audit.last_reading.Goals as goal

same_station : (g : given.Over) (c : goal.In_ok-trace g) → note_station c.args.note ≡ reader_station c.trace.new.self
same_station g c = c.requires.station ∙ sym c.last_machine-machine.ensures.same.0 ∙ sym c.trace.ensures.same.0

whole : (g : given.Over) (c : goal.In_ok-trace g) → known_to c.trace.new.self ≡ told_by c.args.note
whole g c =
    whole-known c.args.note c.trace.new.self (same_station g c) c.requires.gone
    (subst (λ l. IsPrefix l (known_to c.trace.new.self)) c.last_machine-machine.ensures.whole c.trace.ensures.own)
    c.trace.ensures.taken

pub returns-clause-whole : goal.returns-clause-whole
returns-clause-whole g c = whole g c

pub returns-clause-replays : goal.returns-clause-replays
returns-clause-replays g c =
    c.in_ok-trace.ensures.replays ∙ whole-history c.args.note c.trace.new.self (same_station g c) (whole g c)

pub returns-clause-own : goal.returns-clause-own
returns-clause-own g c =
    prefix_trans (known_to c.args.reader.now) (known_to c.last_machine-machine.new.reader) (known_to c.trace.new.self)
    c.last_machine-machine.ensures.own c.trace.ensures.own

pub returns-clause-history : goal.returns-clause-history
returns-clause-history g c = same-history c.args.note c.trace.new.self (same_station g c) (whole g c)
