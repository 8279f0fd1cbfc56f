-- What is left of a reader in blocks.
use Rattle.std.specs.Prelude.{ℕ, List, Option, slice_range}
use Rattle.std.specs.Io.KnownBytes.{prepend_known}
use Rattle.svc_host.specs.declared.growing_reader.ReadBlock.{ReadBlock}

-- the bytes of a block that were not given yet
abbrev pub held_in : ReadBlock → List ℕ
held_in block = slice_range block.bytes.items block.begin block.end

-- those, followed by the bytes that the inner reader has left, if these are known
abbrev pub left_of : ReadBlock → (rest : Option (List ℕ)) → Option (List ℕ)
left_of block rest = prepend_known (held_in block) rest
