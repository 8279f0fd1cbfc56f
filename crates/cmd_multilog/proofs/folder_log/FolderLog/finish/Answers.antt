use Rattle.std.proofs.Common.{rules, ◌≡◌, subst, sym, List, ℕ}
use Rattle.cmd_multilog.specs.Names.{with_name}
use Rattle.cmd_multilog.specs.Folder.{IsKept}
use Rattle.cmd_multilog.proofs.Folders.{kept-synced, kept-renamed, kept-begun-or, finish_begins_or}
use Rattle.cmd_multilog.proofs.folder_log.FolderLog.finish.Goals as goal

pub invariant_of-self-in-Ok : goal.invariant_of-self-in-Ok
invariant_of-self-in-Ok g c =
    let f = g.F.LogFolder.folder in
    let names = c.self.inside.olds.names.items in
    let name = c.as_slice.result.now in
    let synced = kept-synced (f c.self.inside.folder) (f c.sync.new.self) names c.self.inside.length
    c.in_ok-sync.ensures.ok c.self.invariant in
    let renamed = kept-renamed (f c.sync.new.self) (f c.rename.new.self) name names c.self.inside.length 0
    c.in_ok-rename.ensures.ok synced in
    let put : c.insert.new.self.names.items ≡ with_name name names = search rules in
    kept-begun-or c.open_current.result (f c.sync.new.self) (f c.rename.new.self) (f c.open_current.new.self) name
    c.insert.new.self.names.items c.in_ok-rename.ensures.ok
    c.open_current.ensures.ok c.open_current.ensures.err
    (subst (λ (t : List (List ℕ)). IsKept (f c.rename.new.self) t 0) (sym put) renamed)

pub returns-clause-begun : goal.returns-clause-begun
returns-clause-begun g c =
    let f = g.F.LogFolder.folder in
    rw (← c.self.view_is) (finish_begins_or c.open_current.result (f c.self.inside.folder) (f c.sync.new.self)
    (f c.rename.new.self) (f c.open_current.new.self) c.as_slice.result.now
    c.in_ok-sync.ensures.ok c.in_ok-rename.ensures.ok c.open_current.ensures.ok)
