-- The steps of a text are those of its cut.
use Rattle.std.proofs.Common.{◌≡◌, ℕ, zero, suc, ◌+◌, ◌<◌, ◌≤◌, ◌==◌, nat_lt, Bool, true, false, List, [], ◌∷◌, ◌++◌}
use Rattle.std.proofs.Common.{length, take, Option, Some, None, refl, sym, ap, ◌∙◌, arith, append_assoc, append-nil}
use Rattle.std.specs.List.{flat_map}
use Rattle.tai_status.specs.Label.{Tai64n, greatest}
use Rattle.tai_status.specs.Lines.{Sent}
use Rattle.mlog_files.specs.Cut.{fills, is_full, IsPiece, IsOpen, AreCut, IsCut}
use Rattle.mlog_files.specs.Files.{Step, Append, appends}
use Rattle.mlog_files.specs.Steps.{Marks, label_given, last_reading, finish_steps, marks_after, steps_of}
use Rattle.mlog_files.specs.Going.{Standing, begun, finish_under, stands_under, finish_at, finished_at, steps_on}
use Rattle.mlog_files.specs.Going.{standing_on}
use Rattle.mlog_files.specs.Laws.{HasCut}
use Rattle.mlog_files.proofs.Goings.{steps_on-append, byte_open, byte_cut}
use Rattle.mlog_files.proofs.Putting.{room_left}

-- One more byte before a piece.
full_more : (size n : ℕ) (s t : Sent) (rest : List Sent) → is_full size n (s ∷ t ∷ rest)
    ≡ is_full size (n + 1) (t ∷ rest)
full_more size n s t rest =
    let sum : n + suc (suc (length rest)) ≡ n + 1 + suc (length rest) = omega arith in
    let both : nat_lt 0 (suc (suc (length rest))) ≡ true = grind arith in
    let one : nat_lt 0 (suc (length rest)) ≡ true = grind arith in
    rw (sum, both, one) refl

not_empty : {A : Type 0} (size n : ℕ) → is_full size n [] ≡ true → A
not_empty size n is = let e : false ≡ true = is in cc

-- If no prefix of a piece fills the file, no prefix of its rest fills it after the first byte.
later_front : (size n : ℕ) (s : Sent) (rest : List Sent) (most : ℕ)
    → ((k : ℕ) → k < most + 1 → is_full size n (take k (s ∷ rest)) ≡ false)
    → most ≤ length rest + 1 → (k : ℕ) → k < most → is_full size (n + 1) (take k rest) ≡ false
later_front size n s rest most none fits zero within = refl
later_front size n s [] most none fits (suc k) within = refl
later_front size n s (t ∷ rest) most none fits (suc k) within =
    sym (full_more size n s t (take k rest)) ∙ none (suc (suc k)) (omega (arith, within))

piece_tail : (size n : ℕ) (s t : Sent) (rest : List Sent) → IsPiece size n (s ∷ t ∷ rest)
    → (fills size (n + 1) (s.byte == 10) ≡ false) × IsPiece size (n + 1) (t ∷ rest)
piece_tail size n s t rest p = (
  p.least 1 (omega arith),
  record {
    full = sym (full_more size n s t rest) ∙ p.full;
    least = later_front size n s (t ∷ rest) (suc (length rest)) (λ k within. p.least k (omega (arith, within)))
        (omega arith);
  },
)

open_tail : (size n : ℕ) (s : Sent) (rest : List Sent) → IsOpen size n (s ∷ rest)
    → (fills size (n + 1) (s.byte == 10) ≡ false) × IsOpen size (n + 1) rest
open_tail size n s rest o = (
  o.open_yet 1 (omega arith),
  record {
    open_yet = λ k within. later_front size n s rest (length rest + 1) (λ k less. o.open_yet k (omega (arith, less)))
        (omega arith) k (omega (arith, within));
  },
)

-- A text after which the file is not full is appended.
open_text : (size keep : ℕ) (log : Standing) (rest : List Sent) → log.count < size → IsOpen size log.count rest
    → steps_on size keep (Some log) rest ≡ appends rest
open_text size keep log [] room o = refl
open_text size keep log (s ∷ rest) room o =
    let now : Standing = record { count = log.count + 1; marks = log.marks } in
    let tail = open_tail size log.count s rest o in
    (byte_open size keep log s rest room tail.0).0
    ∙ ap (λ (t : List Step). Append s.byte ∷ t)
    (open_text size keep now rest (room_left size log.count 1 _ tail.0) tail.1)

-- A piece that fills the file is appended, and finishes it.
piece_text : (size keep : ℕ) (log : Standing) (piece : List Sent) → log.count < size → IsPiece size log.count piece
    → (steps_on size keep (Some log) piece ≡ appends piece ++ finish_at keep log.marks (last_reading greatest piece))
    × (standing_on size keep (Some log) piece ≡ finished_at keep log.marks (last_reading greatest piece))
piece_text size keep log [] room p = not_empty size log.count p.full
piece_text size keep log (s ∷ []) room p = byte_cut size keep log s room p.full
piece_text size keep log (s ∷ t ∷ rest) room p =
    let now : Standing = record { count = log.count + 1; marks = log.marks } in
    let tail = piece_tail size log.count s t rest p in
    let one = byte_open size keep log s (t ∷ rest) room tail.0 in
    let later = piece_text size keep now (t ∷ rest) (room_left size log.count 1 _ tail.0) tail.1 in
    (one.0 ∙ ap (λ (xs : List Step). Append s.byte ∷ xs) later.0, one.1 ∙ later.1)

-- what comes after a piece, by the label that the piece gets
after_piece : (size keep : ℕ) (marks : Marks) (piece : List Sent) (pieces : List (List Sent)) (rest later : List Sent)
    (label : Option Tai64n)
    → ((given : Tai64n) → steps_on size keep (Some (begun keep marks given)) later
    ≡ steps_of keep (marks_after keep marks given) pieces rest)
    → (appends piece ++ finish_under keep marks label) ++ steps_on size keep (stands_under keep marks label) later
    ≡ elim label [
      | None ↦ appends piece
      | Some given ↦ appends piece ++ finish_steps keep marks given
          ++ steps_of keep (marks_after keep marks given) pieces rest
    ]
after_piece size keep marks piece pieces rest later None next = append-nil (appends piece ++ [])
    ∙ append-nil (appends piece)
after_piece size keep marks piece pieces rest later (Some given) next =
    ap (λ (t : List Step). (appends piece ++ finish_steps keep marks given) ++ t) (next given)

pub cut_steps : (size keep : ℕ) (log : Standing) (pieces : List (List Sent)) (rest : List Sent) → 0 < size
    → log.count < size
    → AreCut size log.count pieces rest
    → steps_on size keep (Some log) (flat_map (λ (piece : List Sent). piece) pieces ++ rest)
    ≡ steps_of keep log.marks pieces rest
cut_steps size keep log [] rest sized room c = open_text size keep log rest room c
cut_steps size keep log (piece ∷ pieces) rest sized room c =
    let later = flat_map (λ (p : List Sent). p) pieces ++ rest in
    let one = piece_text size keep log piece room c.0 in
    let label = label_given log.marks.last (last_reading greatest piece) in
    ap (steps_on size keep (Some log)) (append_assoc piece (flat_map (λ (p : List Sent). p) pieces) rest)
    ∙ steps_on-append size keep (Some log) piece later
    ∙ ap (λ (t : List Step). t ++ steps_on size keep (standing_on size keep (Some log) piece) later) one.0
    ∙ ap (λ (r : Option Standing). (appends piece ++ finish_at keep log.marks (last_reading greatest piece))
    ++ steps_on size keep r later) one.1
    ∙ after_piece size keep log.marks piece pieces rest later label
    (λ given. cut_steps size keep (begun keep log.marks given) pieces rest sized sized c.1)

pub text_steps : (size keep : ℕ) (log : Standing) (text : List Sent) (pieces : List (List Sent)) (rest : List Sent)
    → 0 < size → log.count < size
    → IsCut size log.count text pieces rest → steps_on size keep (Some log) text ≡ steps_of keep log.marks pieces rest
text_steps size keep log text pieces rest sized room c =
    ap (steps_on size keep (Some log)) c.whole ∙ cut_steps size keep log pieces rest sized room c.each

nothing_full : (size n k : ℕ) → is_full size n (take k []) ≡ false
nothing_full size n zero = refl
nothing_full size n (suc k) = refl

earlier_front : (size n : ℕ) (s : Sent) (rest : List Sent) (most : ℕ) → fills size (n + 1) (s.byte == 10) ≡ false
    → ((k : ℕ) → k < most → is_full size (n + 1) (take k rest) ≡ false) → (k : ℕ) → k < most + 1
    → is_full size n (take k (s ∷ rest)) ≡ false
earlier_front size n s rest most first none zero within = refl
earlier_front size n s rest most first none (suc zero) within = first
earlier_front size n s [] most first none (suc (suc k)) within = first
earlier_front size n s (t ∷ rest) most first none (suc (suc k)) within =
    full_more size n s t (take k rest) ∙ none (suc k) (omega (arith, within))

piece_more : (size n : ℕ) (s : Sent) (piece : List Sent) → fills size (n + 1) (s.byte == 10) ≡ false
    → IsPiece size (n + 1) piece → IsPiece size n (s ∷ piece)
piece_more size n s [] none p = not_empty size (n + 1) p.full
piece_more size n s (t ∷ rest) none p = record {
  full = full_more size n s t rest ∙ p.full;
  least = λ k within. earlier_front size n s (t ∷ rest) (suc (length rest)) none p.least k (omega (arith, within));
}

open_more : (size n : ℕ) (s : Sent) (rest : List Sent) → fills size (n + 1) (s.byte == 10) ≡ false
    → IsOpen size (n + 1) rest → IsOpen size n (s ∷ rest)
open_more size n s rest none o = record {
  open_yet = λ k within.
      earlier_front size n s rest (length rest + 1) none (λ j less. o.open_yet j (omega (arith, less))) k
      (omega (arith, within));
}

open_cut : (size n : ℕ) (s : Sent) (text : List Sent) (pieces : List (List Sent)) (rest : List Sent)
    → fills size (n + 1) (s.byte == 10) ≡ false
    → IsCut size (n + 1) text pieces rest → HasCut size n (s ∷ text)
open_cut size n s text [] rest none c = record {
  pieces = [];
  rest = s ∷ rest;
  is_cut = record { whole = ap (λ (t : List Sent). s ∷ t) c.whole; each = open_more size n s rest none c.each };
}
open_cut size n s text (piece ∷ pieces) rest none c = record {
  pieces = (s ∷ piece) ∷ pieces;
  rest = rest;
  is_cut = record {
    whole = ap (λ (t : List Sent). s ∷ t) c.whole;
    each =
        (piece_more size n s piece none c.each.0, c.each.1);
  };
}

alone : (size n : ℕ) (s : Sent) (k : ℕ) → k < 1 → is_full size n (take k (s ∷ [])) ≡ false
alone size n s zero within = refl
alone size n s (suc k) within = absurd (omega (arith, within))

one_piece : (size n : ℕ) (s : Sent) → fills size (n + 1) (s.byte == 10) ≡ true → IsPiece size n (s ∷ [])
one_piece size n s full = record { full = full; least = λ k within. alone size n s k within }

cut_at : (size n : ℕ) (s : Sent) (text : List Sent) (full : Bool) → fills size (n + 1) (s.byte == 10) ≡ full
    → HasCut size 0 text → HasCut size (n + 1) text → HasCut size n (s ∷ text)
cut_at size n s text true full now later = record {
  pieces = (s ∷ []) ∷ now.pieces;
  rest = now.rest;
  is_cut = record {
    whole = ap (λ (t : List Sent). s ∷ t) now.is_cut.whole;
    each =
        (one_piece size n s full, now.is_cut.each);
  };
}
cut_at size n s text false none now later = open_cut size n s text later.pieces later.rest none later.is_cut

pub each_text : (size n : ℕ) (text : List Sent) → HasCut size n text
each_text size n [] =
    record {
      pieces = [];
      rest = [];
      is_cut =
          record { whole = refl; each = record { open_yet = λ k within. nothing_full size n k } };
    }
each_text size n (s ∷ text) =
    cut_at size n s text (fills size (n + 1) (s.byte == 10)) refl (each_text size 0 text) (each_text size (n + 1) text)
