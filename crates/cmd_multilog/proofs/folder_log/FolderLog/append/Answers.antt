use Rattle.std.proofs.Common.{take}
use Rattle.cmd_multilog.proofs.Folders.{extends_files}
use Rattle.cmd_multilog.proofs.folder_log.FolderLog.append.Goals as goal

pub returns-clause-ok : goal.returns-clause-ok
returns-clause-ok g c =
    let piece = take c.in_ok-count.count c.args.piece.now in
    let done = extends_files (g.F.LogFolder.folder c.self.inside.folder) (g.F.LogFolder.folder c.append.new.self) piece
    c.in_ok-count.ensures.ok in
    rw (← c.self.view_is) done
