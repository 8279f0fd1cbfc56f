use Rattle.svscan_rounds.proofs.Ordering.{entry-said}
use Rattle.svscan_rounds.proofs.rows.entry_of.Goals as goal

pub returns : goal.returns
returns g c =
    entry-said (g.F.Folder.at c.args.folder.now) c.args.name.now _ _ _ _ c.in_ok-is_dir.ensures c.in_ok-has_log.ensures
    c.in_ok-down.ensures c.in_ok-log_down.ensures
