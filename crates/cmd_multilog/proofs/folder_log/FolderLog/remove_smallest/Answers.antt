use Rattle.std.proofs.Common.{rules, ◌≡◌, ◌<◌, subst, sym, List, ℕ, length, get_or}
use Rattle.cmd_multilog.specs.Folder.{IsKept}
use Rattle.cmd_multilog.proofs.Folders.{kept-removed-first}
use Rattle.cmd_multilog.proofs.folder_log.FolderLog.remove_smallest.Goals as goal

pub invariant_of-self-2 : goal.invariant_of-self-2
invariant_of-self-2 g c =
    let f = g.F.LogFolder.folder in
    let names = c.self.inside.olds.names.items in
    let first = c.as_slice.result.now in
    let some : 0 < length names = search rules in
    let is : first ≡ get_or names 0 first = search rules in
    subst (λ (t : List (List ℕ)). IsKept (f c.remove.new.self) t c.self.inside.length) (sym c.remove-2.ensures.items)
    (kept-removed-first (f c.self.inside.folder) (f c.remove.new.self) first names c.self.inside.length
    c.in_ok-remove.ensures.ok some is c.self.invariant)
