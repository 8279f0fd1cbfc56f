-- Files in memory.
use Rattle.std.proofs.Common.{◌≡◌, ℕ, suc, ◌+◌, ◌<◌, ◌≤◌, Bool, true, false, List, [], ◌∷◌, ◌++◌, length, take, drop}
use Rattle.std.proofs.Common.{get_or, refl, sym, ap, ◌∙◌, arith, append_assoc, append-nil}
use Rattle.std.proofs.Math.Seq.{take-suc, drop-cons, drop-length}
use Rattle.std.proofs.lemmas.List.{take_all}
use Rattle.std.specs.Cmp.Lexicographic.{slice_cmp}
use Rattle.std.specs.Ordering.{is_lt, nat_cmp}
use Rattle.mlog_files.specs.Files.{Old, Files, files_after, append_steps, with_old}

pub appended_files : (bytes : List ℕ) (files : Files)
    → files_after (append_steps bytes) files ≡ record { current = files.current ++ bytes; olds = files.olds }
appended_files [] files =
    ap (λ (t : List ℕ). record { current = t; olds = files.olds }) (sym (append-nil files.current))
appended_files (b ∷ bs) files =
    appended_files bs (record { current = files.current ++ b ∷ []; olds = files.olds })
    ∙ ap (λ (t : List ℕ). record { current = t; olds = files.olds }) (append_assoc files.current (b ∷ []) bs)

-- One place further.
pub passed : (old : Old) (olds : List Old) (at : ℕ) (d : Old) → at < length olds
    → is_lt (slice_cmp nat_cmp (get_or olds at d).name old.name) ≡ true
    → with_old old olds ≡ take at olds ++ with_old old (drop at olds)
    → with_old old olds ≡ take (at + 1) olds ++ with_old old (drop (at + 1) olds)
passed old olds at d within less kept =
    let x = get_or olds at d in
    let e : suc at ≡ at + 1 = omega arith in
    let step : with_old old (x ∷ drop (suc at) olds) ≡ x ∷ with_old old (drop (suc at) olds) = rw less refl in
    kept ∙ ap (λ (t : List Old). take at olds ++ with_old old t) (drop-cons olds at d within)
    ∙ ap (λ (t : List Old). take at olds ++ t) step
    ∙ sym (append_assoc (take at olds) (x ∷ []) (with_old old (drop (suc at) olds)))
    ∙ ap (λ (t : List Old). t ++ with_old old (drop (suc at) olds)) (sym (take-suc olds at d within))
    ∙ ap (λ (n : ℕ). take n olds ++ with_old old (drop n olds)) e

-- The place is found.
pub found_place : (old : Old) (olds : List Old) (at : ℕ) (d : Old) → at < length olds
    → is_lt (slice_cmp nat_cmp (get_or olds at d).name old.name) ≡ false
    → with_old old olds ≡ take at olds ++ with_old old (drop at olds)
    → with_old old olds ≡ take at olds ++ old ∷ drop at olds
found_place old olds at d within more kept =
    let x = get_or olds at d in
    let step : with_old old (x ∷ drop (suc at) olds) ≡ old ∷ x ∷ drop (suc at) olds = rw more refl in
    let cut = drop-cons olds at d within in
    kept ∙ ap (λ (t : List Old). take at olds ++ with_old old t) cut
    ∙ ap (λ (t : List Old). take at olds ++ t) step
    ∙ ap (λ (t : List Old). take at olds ++ old ∷ t) (sym cut)

-- The place is after all old files.
pub last_place : (old : Old) (olds : List Old) → with_old old olds ≡ take (length olds) olds
    ++ with_old old (drop (length olds) olds)
    → with_old old olds ≡ take (length olds) olds ++ old ∷ drop (length olds) olds
last_place old olds kept =
    let none : drop (length olds) olds ≡ [] = drop-length olds in
    kept ∙ ap (λ (t : List Old). take (length olds) olds ++ with_old old t) none
    ∙ ap (λ (t : List Old). take (length olds) olds ++ old ∷ t) (sym none)

pub reported_below : (truth : Bool) (olds : List Old) (at : ℕ) (d old : Old) (here name : List ℕ) → d ≡ get_or olds at d
    → here ≡ d.name → old.name ≡ name
    → is_lt (slice_cmp nat_cmp here name) ≡ truth → is_lt (slice_cmp nat_cmp (get_or olds at d).name old.name) ≡ truth
reported_below truth olds at d old here name is named same below =
    ap (λ (o : Old). is_lt (slice_cmp nat_cmp o.name old.name)) (sym is)
    ∙ ap (λ (t : List ℕ). is_lt (slice_cmp nat_cmp t old.name)) (sym named)
    ∙ ap (λ (t : List ℕ). is_lt (slice_cmp nat_cmp here t)) same ∙ below

pub short_name : (name : List ℕ) → length name ≤ 25 → take 25 name ≡ name
short_name name short = take_all 25 name short
