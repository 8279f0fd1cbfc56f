-- What some command lines ask for, each computed from the definition.
use Rattle.std.specs.Prelude.{◌≡◌, List, ℕ, [], ◌∷◌, Bool, true, false, codes, Option, Some, None}
use Rattle.trace_words.specs.Words.{Request, asked_of}

-- The words ask for this.
abbrev pub asking : List ℕ → Option (List ℕ) → Bool → Option Request
asking file at local = Some (record { file = file; at = at; local = local })

-- Command lines that are taken: `t`, `t --break byte:d`, `--break=byte:d t`, `-- --break`, `--local t`,
-- `t --break byte:d --local`, `-- --local`.
pub record TakesLines : Type 0 where
  pub file_alone : asked_of (codes "t" ∷ []) ≡ asking (codes "t") None false
  pub break_behind_file : asked_of (codes "t" ∷ codes "--break" ∷ codes "byte:d" ∷ [])
      ≡ asking (codes "t") (Some (codes "byte:d")) false
  pub break_before_file : asked_of (codes "--break=byte:d" ∷ codes "t" ∷ [])
      ≡ asking (codes "t") (Some (codes "byte:d")) false
  pub file_behind_dashes : asked_of (codes "--" ∷ codes "--break" ∷ []) ≡ asking (codes "--break") None false
  pub local_before_file : asked_of (codes "--local" ∷ codes "t" ∷ []) ≡ asking (codes "t") None true
  pub local_behind_break : asked_of (codes "t" ∷ codes "--break" ∷ codes "byte:d" ∷ codes "--local" ∷ [])
      ≡ asking (codes "t") (Some (codes "byte:d")) true
  pub local_behind_dashes : asked_of (codes "--" ∷ codes "--local" ∷ []) ≡ asking (codes "--local") None false

-- Command lines that are refused: no word; two files; a break twice; a break without its value; an option with another
-- name; help; `--local` with no file, twice, and with a value.
pub record RefusesLines : Type 0 where
  pub no_word : asked_of [] ≡ None
  pub two_files : asked_of (codes "t" ∷ codes "u" ∷ []) ≡ None
  pub break_twice : asked_of (codes "--break" ∷ codes "byte:d" ∷ codes "--break" ∷ codes "byte:u" ∷ codes "t" ∷ [])
      ≡ None
  pub break_without_value : asked_of (codes "t" ∷ codes "--break" ∷ []) ≡ None
  pub unknown_option : asked_of (codes "t" ∷ codes "-x" ∷ []) ≡ None
  pub help_flag : asked_of (codes "--help" ∷ []) ≡ None
  pub local_alone : asked_of (codes "--local" ∷ []) ≡ None
  pub local_twice : asked_of (codes "--local" ∷ codes "t" ∷ codes "--local" ∷ []) ≡ None
  pub local_with_value : asked_of (codes "--local=yes" ∷ codes "t" ∷ []) ≡ None
