use Rattle.std.proofs.Common.{rules, refl, subst}
use Rattle.cmd_base.specs.Known.{known_files}
use Rattle.cmd_trace.specs.Traced.{WordEnds}
use Rattle.cmd_trace.proofs.Asking.{ends_asked, ends_without_words}
use Rattle.cmd_trace.proofs.command.run_trace.Goals as goal

pub returns-then-is_empty : goal.returns-then-is_empty
returns-then-is_empty g c = record {
  ends = ends_without_words (λ word. word.now) c.args.words.now (g.Z.Zone.ahead_at c.args.zone.now)
      (known_files (g.R.FileSource.file_at c.args.files.now) (g.R.FileSource.fault_at c.args.files.now))
      (g.R.ServicePlaces.place_at c.args.files.now)
      c.usage.result c.args.writer.now c.args.writer.now c.args.faults.now c.usage.new.faults (search rules)
      c.usage.ensures.status refl c.usage.ensures.reported;
}

pub returns-in-Ok-read_spec : goal.returns-in-Ok-read_spec
returns-in-Ok-read_spec g c =
    let ends = subst (λ times. WordEnds times
    (known_files (g.R.FileSource.file_at c.args.files.now) (g.R.FileSource.fault_at c.args.files.now))
    (g.R.ServicePlaces.place_at c.args.files.now)
    c.in-Ok.asked.file.now c.in-Ok-read_spec.at c.trace_word.result c.args.writer.now c.trace_word.new.writer
    c.args.faults.now c.trace_word.new.faults)
    c.zone_asked.ensures c.trace_word.ensures.ends in
    record {
      ends = ends_asked (λ word. word.now) c.args.words.now (g.Z.Zone.ahead_at c.args.zone.now)
          (known_files (g.R.FileSource.file_at c.args.files.now) (g.R.FileSource.fault_at c.args.files.now))
          (g.R.ServicePlaces.place_at c.args.files.now)
          c.trace_word.result c.args.writer.now c.trace_word.new.writer c.args.faults.now c.trace_word.new.faults
          (search rules)
          (record {
            file = c.in-Ok.asked.file.now;
            at = c.in-Ok-read_spec.at;
            local = c.in-Ok.asked.local;
            asked = (_, (c.in-Ok.ensures.asked, c.in-Ok-read_spec.ensures.named));
            ends = ends;
          });
    }
