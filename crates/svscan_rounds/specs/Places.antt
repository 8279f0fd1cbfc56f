-- The place of the one service of supervise: a folder, and a name in it that a service may have.
use Rattle.std.specs.Prelude.{◌≡◌, ◌⊎◌, ℕ, List, ◌∷◌, ◌++◌, codes}

-- The path that consists of the folder, a slash and the name leads to the service in DIR. The two are DIR cut at its
-- last slash; or DIR is a name in the root or in the working directory; or else they are DIR itself and a slash, as
-- for `.`.
abbrev pub LeadsTo : (dir folder name : List ℕ) → Type 0
LeadsTo dir folder name =
    (dir ≡ folder ++ 47 ∷ name)
    ⊎ ((dir ≡ 47 ∷ name) × (folder ≡ codes "/"))
    ⊎ ((dir ≡ name) × (folder ≡ codes "."))
    ⊎ ((dir ≡ folder) × (name ≡ codes "/"))
