-- What words ask for, by what a parse of them gave.
use Rattle.std.proofs.Common.{◌≡◌, ◌∙◌, List, ℕ, Bool, [], ◌∷◌, Option, Some, None, codes, refl}
use Rattle.clap.specs.Words.{IsAmong, Row, fault_of, first_of, matches_of}
use Rattle.clap.specs.Kinds.{Kinds}
use Rattle.clap.specs.declared.error.kind.ErrorKind.{ErrorKind}
use Rattle.trace_words.specs.Words.{asked_of, given_by, is_set, trace_line}

-- if no step of the parse fails, words ask for what its rows give
asked-given : (words : List (List ℕ)) → fault_of trace_line words ≡ [] → asked_of words ≡ given_by words
unfolding asked_of
asked-given words none = rw none refl

pub asked-found : (words : List (List ℕ)) (rows : List Row) (file : List ℕ) (at : Option (List ℕ)) (local : Bool)
    → fault_of trace_line words ≡ [] → rows ≡ matches_of trace_line words → Some file ≡ first_of (codes "FILE") rows
    → at ≡ first_of (codes "break") rows → local ≡ is_set (first_of (codes "local") rows)
    → asked_of words ≡ Some (record { file = file; at = at; local = local })
asked-found words rows file at local none is found broken flagged =
    asked-given words none ∙ rw (← is, ← found, broken, flagged) refl

pub asked-without_file : (words : List (List ℕ)) (rows : List Row) → fault_of trace_line words ≡ []
    → rows ≡ matches_of trace_line words → None ≡ first_of (codes "FILE") rows → asked_of words ≡ None
asked-without_file words rows none is found = asked-given words none ∙ rw (← is, ← found) refl

-- if a step of the parse fails, they ask for nothing
pub asked-refused : (words : List (List ℕ)) (kind : ErrorKind) → IsAmong kind (fault_of trace_line words)
    → asked_of words ≡ None
unfolding asked_of
asked-refused words kind among = go (fault_of trace_line words) refl among
  where
    go : (kinds : Kinds) → fault_of trace_line words ≡ kinds → IsAmong kind kinds → asked_of words ≡ None
    go [] e among = absurd among
    go (k ∷ ks) e among = rw e refl
