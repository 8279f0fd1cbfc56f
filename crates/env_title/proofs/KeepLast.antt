-- The last items of a list that grows.
use Rattle.std.proofs.Common.{◌≡◌, ℕ, suc, take, append_assoc, ◌+◌, ◌-◌, ◌<◌, ◌≤◌, List, ◌++◌, length, drop}
use Rattle.std.proofs.Common.{sym, ◌∙◌, ap, arith, length-append, length-drop}
use Rattle.std.proofs.lemmas.List.{drop-append-le, drop-drop, take_rest}
use Rattle.circular_buffer.specs.Buffer.{keep_last}
use Rattle.memchr.specs.Find.{Nowhere, Passes, is_byte}
use Rattle.env_title.specs.Title.{TitleParts, without_nul}
use Rattle.env_title.proofs.First.{nul-none, nul-some}

abbrev pub title_of : List ℕ → ℕ → TitleParts
title_of items len = record { items = items; len = len }

-- Items that were dropped before make no difference.
pub keep_last-append : (n : ℕ) (xs ys : List ℕ) → keep_last n (keep_last n xs ++ ys) ≡ keep_last n (xs ++ ys)
keep_last-append n xs ys =
    let out = length xs - n in
    let cut : out + (length (drop out xs ++ ys) - n) ≡ length (xs ++ ys) - n =
    omega (arith, length-append (drop out xs) ys, length-append xs ys, length-drop out xs) in
    ap (λ zs. drop (length (drop out xs ++ ys) - n) zs) (sym (drop-append-le out xs ys (omega arith)))
    ∙ drop-drop (length (drop out xs ++ ys) - n) out (xs ++ ys)
    ∙ ap (λ k. drop k (xs ++ ys)) cut

pub keep_last-short : (n : ℕ) (xs : List ℕ) → length xs ≤ n → keep_last n xs ≡ xs
keep_last-short n xs short = let none : length xs - n ≡ 0 = omega arith in ap (λ k. drop k xs) none

pub length-keep_last : (n : ℕ) (xs : List ℕ) → n ≤ length xs → length (keep_last n xs) ≡ n
length-keep_last n xs long = omega (arith, length-drop (length xs - n) xs)

-- A run of bytes before a NUL is shown, and the NUL is ignored.
pub run-shown : (n : ℕ) (items start rest all : List ℕ) (at : ℕ) → at < length rest → Passes (is_byte 0) rest at
    → Nowhere (Passes (is_byte 0) rest) 0 at
    → keep_last n (items ++ without_nul rest) ≡ keep_last n (start ++ without_nul all)
    → keep_last n (keep_last n (items ++ take at rest)
    ++ without_nul (take (length (drop at rest) - 1) (drop 1 (drop at rest))))
    ≡ keep_last n (start ++ without_nul all)
run-shown n items start rest all at within is before shown =
    let next : at + 1 ≡ suc at = omega arith in
    let behind : take (length (drop at rest) - 1) (drop 1 (drop at rest)) ≡ drop (suc at) rest =
    take_rest (drop at rest) 1 ∙ drop-drop 1 at rest ∙ ap (λ k. drop k rest) next in
    ap (λ t. keep_last n (keep_last n (items ++ take at rest) ++ without_nul t)) behind
    ∙ keep_last-append n (items ++ take at rest) (without_nul (drop (suc at) rest))
    ∙ ap (keep_last n) (append_assoc items (take at rest) (without_nul (drop (suc at) rest)))
    ∙ ap (λ t. keep_last n (items ++ t)) (sym (nul-some rest at within is before))
    ∙ shown

pub rest-shown : (n : ℕ) (items start rest all : List ℕ) → Nowhere (Passes (is_byte 0) rest) 0 (length rest)
    → keep_last n (items ++ without_nul rest) ≡ keep_last n (start ++ without_nul all)
    → keep_last n (items ++ rest) ≡ keep_last n (start ++ without_nul all)
rest-shown n items start rest all none shown = ap (λ t. keep_last n (items ++ t)) (sym (nul-none rest none)) ∙ shown

pub same_title : {items others : List ℕ} {len other : ℕ} → items ≡ others → len ≡ other
    → title_of items len ≡ title_of others other
same_title same equal = λ i. title_of (same i) (equal i)
