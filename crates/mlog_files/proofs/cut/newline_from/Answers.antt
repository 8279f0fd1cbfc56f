use Rattle.mlog_files.proofs.Places.{nowhere_in, found_in}
use Rattle.mlog_files.proofs.cut.newline_from.Goals as goal

pub returns-in-Some : goal.returns-in-Some
returns-in-Some c = found_in c.args.bytes.now c.args.from c.args.to c.in-Some.at c.requires c.in-Some.ensures.0
    c.in-Some.ensures.1

pub returns-in-None : goal.returns-in-None
returns-in-None c = nowhere_in c.args.bytes.now c.args.from c.args.to c.requires c.in-None.ensures
