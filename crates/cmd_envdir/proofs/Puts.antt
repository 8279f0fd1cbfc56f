-- An entry of an environment, by the place of its first `=`.
use Rattle.std.proofs.Common.{◌≡◌, ℕ, ◌<◌, ◌==◌, true, false, List, length, refl, sym, ap, ◌∙◌, arith, subst}
use Rattle.std.proofs.Common.{Bor, Some, min}
use Rattle.std.specs.Prelude.{Result, Ok, Err, OnOk}
use Rattle.std.proofs.lemmas.List.{length-take}
use Rattle.std.proofs.lemmas.Str.Pattern.{IsSplitOnceResult, split_once_first}
use Rattle.std.specs.Prelude.{nat_lt, ◌&&◌, if◌then◌else◌}
use Rattle.std.specs.List.{before_first, after_first}
use Rattle.std.specs.Str.{IsUtf8, is_utf8}
use Rattle.std.proofs.lemmas.Bool.{lt-ltb}
use Rattle.std.proofs.lemmas.Str.{IsUtf8-from_is_utf8, is_utf8-from_IsUtf8}
use Rattle.env_title.specs.Env.{Binding, put}
use Rattle.cmd_envdir.specs.System.{entry_put, equals_in}

-- an entry that is not text
pub not_text : (variables : List Binding) (entry : List ℕ) → (IsUtf8 entry → ⊥) → variables ≡ entry_put variables entry
not_text variables entry none =
    elim (is_utf8 entry) as (λ b. is_utf8 entry ≡ b → variables
    ≡ (if b && (nat_lt 0 (equals_in entry) && nat_lt (equals_in entry) (length entry))
    then put variables (before_first (λ x. x == 61) entry) (after_first (λ x. x == 61) entry) else variables)) [
      | true ↦ λ is. absurd (none (IsUtf8-from_is_utf8 entry is))
      | false ↦ λ _. refl
    ] refl

-- an entry with a name, a `=` and a value
pub named : (variables : List Binding) (entry name value : List ℕ) → IsUtf8 entry → 0 < equals_in entry
    → equals_in entry < length entry → name ≡ before_first (λ x. x == 61) entry
    → value ≡ after_first (λ x. x == 61) entry → put variables name value ≡ entry_put variables entry
named variables entry name value text some within name_is value_is =
    rw (
      is_utf8-from_IsUtf8 entry text,
      lt-ltb 0 (equals_in entry) some,
      lt-ltb (equals_in entry) (length entry) within,
      name_is,
      value_is,
    ) refl

-- what is true if a call succeeds
pub on_ok_map : {A E P Q : Type 0} (r : Result A E) → (P → Q) → OnOk r P → OnOk r Q
on_ok_map (Ok a) f p = f p
on_ok_map (Err e) f p = tt

-- an entry that is split at its first `=` into a name and a value
pub split : (variables : List Binding) (text entry n v : List ℕ) (name value : Bor (List ℕ)) → text ≡ entry
    → IsUtf8 entry
    → IsSplitOnceResult 61 text (Some (name, value)) → 0 < length name.now → n ≡ name.now → v ≡ value.now
    → put variables n v ≡ entry_put variables entry
split variables text entry n v name value same is_text parts some n_is v_is =
    let first = split_once_first 61 text (Some (name, value)) parts (omega arith) in
    let short : length name.now ≡ min (equals_in text) (length text) = ap length first.1
    ∙ length-take (equals_in text) text in
    named variables text n v (subst IsUtf8 (sym same) is_text) (omega (arith, some, short)) first.0 (n_is ∙ first.1)
    (v_is ∙ first.2)
    ∙ ap (entry_put variables) same
