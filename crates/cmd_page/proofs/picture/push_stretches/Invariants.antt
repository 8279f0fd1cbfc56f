use Rattle.std.proofs.Common.{◌≡◌, ◌++◌, take}
use Rattle.std.specs.List.{flat_map}
use Rattle.cmd_page.specs.Picture.{stretch_text}
use Rattle.cmd_page.proofs.picture.push_stretches.Given as goal

abbrev pub invariant-loop-stretch : goal.invariant-loop-stretch
invariant-loop-stretch g l =
    l.out.items ≡ l.fn.out.items ++ flat_map (stretch_text l.now) (take l.stretch-index l.stretches)
