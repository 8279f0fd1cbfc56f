use Rattle.std.proofs.Common.{◌≡◌, ◌++◌, take}
use Rattle.std.specs.Prelude.{flat_map}
use Rattle.cmd_envdir.specs.Quoting.{word_text}
use Rattle.tai_status.specs.Words.{texts}
use Rattle.cmd_envdir.proofs.script.push_words.Given as goal

-- the words so far are added
abbrev pub invariant-loop-word : goal.invariant-loop-word
invariant-loop-word g l = l.text.items ≡ l.fn.text.items ++ flat_map word_text (texts (take l.word-index l.words))
