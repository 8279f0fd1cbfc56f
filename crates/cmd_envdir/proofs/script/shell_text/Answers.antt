use Rattle.tai_status.specs.Words.{texts}
use Rattle.cmd_envdir.proofs.Making.{if_written}
use Rattle.cmd_envdir.proofs.script.shell_text.Goals as goal

pub returns : goal.returns
returns g c =
    if_written c.text_of.result (λ text. text.items) c.the_last_file_decides.ensures c.args.files.now
    c.args.target.now (texts c.args.program.now) c.as_slice.ensures.distinct c.text_of.ensures
