use Rattle.std.proofs.Common.{arith}
use Rattle.mlog_files.proofs.Goings.{over_full, steps_on-append, standing_on-append}
use Rattle.mlog_files.proofs.Counting.{text_counts}
use Rattle.mlog_files.proofs.Cutting.{each_text, text_steps}
use Rattle.mlog_files.proofs.laws.steps_of_a_text.Goals as goal

pub returns : goal.returns
returns c = record {
  cut = each_text;
  steps = λ size keep log text pieces rest room is_cut. text_steps size keep log text pieces rest (omega (arith, room))
      room is_cut;
  over_full = λ size keep log s text sized over. (over_full size keep log s text sized over).0;
  counts = text_counts;
  turns = λ size keep log xs ys. (steps_on-append size keep log xs ys, standing_on-append size keep log xs ys);
}
