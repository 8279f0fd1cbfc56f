use Rattle.std.proofs.Common.{◌≡◌, rules, ap, ◌∙◌}
use Rattle.sup_trace.specs.Content.{replay_of}
use Rattle.sup_trace.proofs.After.{replay-trace_after}
use Rattle.svc_station.specs.Origins.{text_of}
use Rattle.svc_station.proofs.reader.Reader.trace.Goals as goal

pub returns-clause-replays : goal.returns-clause-replays
returns-clause-replays g c =
    let note = c.in_ok-note.note in
    let reading : c.in_ok-note.text ≡ text_of note = search rules in
    ap replay_of reading ∙ replay-trace_after note.opening note.room note.prefix.seen.log
