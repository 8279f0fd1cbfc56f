-- What the words of svscan ask for: `svscan [DIR [N]]`.
use Rattle.std.specs.Prelude.{◌≡◌, ℕ, ◌<◌, ◌^◌, List, [], ◌∷◌, codes, decimal, Option, None, MatchOption}

-- The word is the decimal text of a number of rounds, 1 to 4294967295.
pub record ReportsRounds (word : List ℕ) (number : ℕ) : Type 0 where
  pub is : word ≡ decimal number
  pub some : 0 < number
  pub below : number < 2 ^ 32

-- The words ask for this folder and this many rounds; None is for rounds without limit.
abbrev pub Asks : (words : List (List ℕ)) (folder : List ℕ) (limit : Option ℕ) → Type 0
Asks [] folder limit = (folder ≡ codes ".") × (limit ≡ None)
Asks (dir ∷ []) folder limit = (folder ≡ dir) × (limit ≡ None)
Asks (dir ∷ number ∷ []) folder limit = (folder ≡ dir) × MatchOption limit ⊥ (λ rounds. ReportsRounds number rounds)
Asks (dir ∷ number ∷ other ∷ words) folder limit = ⊥

-- The words ask for nothing.
abbrev pub AskNothing : (words : List (List ℕ)) → Type 0
AskNothing words = (folder : List ℕ) (limit : Option ℕ) → Asks words folder limit → ⊥
