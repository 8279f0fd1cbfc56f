use Rattle.mlog_core.proofs.Parts.{found_part, whole_part}
use Rattle.mlog_core.proofs.front.plain_front.Goals as goal

pub returns-in-Some-clause-plain : goal.returns-in-Some-clause-plain
returns-in-Some-clause-plain c = (found_part c.args.bytes.now c.in-Some.at c.in-Some.ensures.0 c.in-Some.ensures.1).0

pub returns-in-Some-clause-newline : goal.returns-in-Some-clause-newline
returns-in-Some-clause-newline c =
    λ ends. (
      c.in-Some.ensures.0.high,
      (found_part c.args.bytes.now c.in-Some.at c.in-Some.ensures.0 c.in-Some.ensures.1).1,
    )

pub returns-in-None-clause-plain : goal.returns-in-None-clause-plain
returns-in-None-clause-plain c = whole_part c.args.bytes.now c.in-None.ensures
