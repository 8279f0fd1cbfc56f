use Rattle.std.proofs.Common.{◌≡◌, ◌++◌, take}
use Rattle.std.specs.List.{flat_map}
use Rattle.cmd_page.specs.Escape.{visible_char}
use Rattle.cmd_page.proofs.escape.push_all_visible.Given as goal

abbrev pub invariant-loop-character : goal.invariant-loop-character
invariant-loop-character g l =
    l.out.items ≡ l.fn.out.items ++ flat_map visible_char (take l.character-index l.characters)
