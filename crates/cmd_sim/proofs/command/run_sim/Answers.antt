use Rattle.std.proofs.Common.{refl}
use Rattle.cmd_base.specs.Console.{console}
use Rattle.cmd_sim.proofs.Words.{no_words, wrong_word}
use Rattle.cmd_sim.proofs.command.run_sim.Goals as goal

pub returns-in_default : goal.returns-in_default
returns-in_default g c = record {
  ends = wrong_word (λ word. word.now) c.args.words.now _ c.usage.result
      (console c.args.reader.now c.args.writer.now c.args.faults.now)
      (console c.args.reader.now c.args.writer.now c.usage.new.faults) c.in-len1.len_below c.in-len1.len_at_least
      c.in_default.not-table
      (record {
        status_is = c.usage.ensures.status;
        unread = refl;
        unwritten = refl;
        reported = c.usage.ensures.reported;
      });
  headline = no_words (λ word. word.now) c.args.words.now c.in-len1.len_at_least;
}
