-- Paths on this system.
use Rattle.std.specs.Prelude.{ℕ, List, ◌++◌, codes, decimal}

-- a name in the folder that is open under a descriptor
abbrev pub path_by_descriptor : (descriptor : ℕ) (name : List ℕ) → List ℕ
path_by_descriptor descriptor name = codes "/proc/self/fd/" ++ decimal descriptor ++ codes "/" ++ name
