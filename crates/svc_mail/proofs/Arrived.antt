-- What the whole history says of each of its letters.
use Rattle.std.proofs.Common.{◌≡◌, ◌≢◌, ℕ, zero, suc, ◌+◌, ◌≤◌, ◌<◌, eq-eqb, ne_eqb, cond, List, [], ◌∷◌, sym, refl, ap}
use Rattle.std.proofs.Common.{◌∙◌, subst, Some, arith}
use Rattle.std.specs.Prelude.{slice_get}
use mathlib.Core.Logic.{dite}
use native.Mathlib.Decide.{ℕ_discrete}
use Rattle.svc_mail.specs.declared.letter.Letter.{Letter}
use Rattle.svc_mail.specs.History.{letter, letters, of_sender, row_of, IsHistory, IsAmong}
use Rattle.svc_mail.specs.Whole.{NamesASender, IsEachOnce}
use Rattle.svc_mail.proofs.Lengths.{sender_below, among_rest}

module _ {T : Type 0} where
  pub names : (all : ℕ) (log : List (Letter T)) → IsAmong all log → NamesASender all log
  names all [] h i l e = absurd cc
  names all (x ∷ log) h zero l e = let s : x ≡ l = cc in
      subst (λ (y : Letter T). y.sender < all) s (sender_below all x log h)
  names all (x ∷ log) h (suc i) l e = names all log (among_rest all x log h) i l e

  cons_same : (k : ℕ) (x : Letter T) (l : List (Letter T)) → x.sender ≡ k → of_sender k (x ∷ l) ≡ x ∷ of_sender k l
  cons_same k x l e = ap (λ b. cond b (x ∷ of_sender k l) (of_sender k l)) (eq-eqb x.sender k e)

  cons_other : (k : ℕ) (x : Letter T) (l : List (Letter T)) → x.sender ≢ k → of_sender k (x ∷ l) ≡ of_sender k l
  cons_other k x l ne = ap (λ b. cond b (x ∷ of_sender k l) (of_sender k l)) (ne_eqb x.sender k ne)

  -- the letters of a sender, from place p on
  abbrev RunsFrom : ℕ → ℕ → List (Letter T) → Type 0
  RunsFrom k p log = (row : List T) × (of_sender k log ≡ letters k p row)

  first_place : (k p : ℕ) (x : Letter T) (l : List (Letter T)) → x.sender ≡ k → RunsFrom k p (x ∷ l) → (x.place ≡ p)
      × RunsFrom k (p + 1) l
  first_place k p x l e h = step h.0 (sym (cons_same k x l e) ∙ h.1)
    where
      step : (row : List T) → x ∷ of_sender k l ≡ letters k p row → (x.place ≡ p) × RunsFrom k (p + 1) l
      step [] q = absurd cc
      step (y ∷ ys) q = let s : x ≡ letter k p y = cc in let t : of_sender k l ≡ letters k (p + 1) ys = cc in
          (ap (λ (z : Letter T). z.place) s, (ys, t))

  runs_past : (k p : ℕ) (x : Letter T) (l : List (Letter T)) → x.sender ≢ k → RunsFrom k p (x ∷ l) → RunsFrom k p l
  runs_past k p x l ne h = (h.0, sym (cons_other k x l ne) ∙ h.1)

  -- a letter that comes later has no lower place
  from_place : (k p : ℕ) (l : List (Letter T)) → RunsFrom k p l → (j : ℕ) (b : Letter T) → slice_get l j ≡ Some b
      → b.sender ≡ k → p ≤ b.place
  from_place k p [] h j b e is = absurd cc
  from_place k p (x ∷ l) h zero b e is =
      let s : x ≡ b = cc in
      let at = (first_place k p x l (ap (λ (z : Letter T). z.sender) s ∙ is) h).0 in
      let same : x.place ≡ b.place = ap (λ (z : Letter T). z.place) s in omega arith
  from_place k p (x ∷ l) h (suc j) b e is =
      dite (ℕ_discrete x.sender k)
      (λ q. let le = from_place k (p + 1) l (first_place k p x l q h).1 j b e is in omega arith)
      (λ ne. from_place k p l (runs_past k p x l ne h) j b e is)

  -- each sender's letters have consecutive places, from some place on
  abbrev AllRun : List (Letter T) → Type 0
  AllRun log = (k : ℕ) → (p : ℕ) × RunsFrom k p log

  all_run_rest : (x : Letter T) (l : List (Letter T)) → AllRun (x ∷ l) → AllRun l
  all_run_rest x l h k =
      dite (ℕ_discrete x.sender k)
      (λ e. ((h k).0 + 1, (first_place k (h k).0 x l e (h k).1).1))
      (λ ne. ((h k).0, runs_past k (h k).0 x l ne (h k).1))

  -- therefore no later letter is the first one again
  not_again : (x : Letter T) (l : List (Letter T)) → AllRun (x ∷ l) → (j : ℕ) (b : Letter T) → slice_get l j ≡ Some b
      → b.sender ≡ x.sender → b.place ≢ x.place
  not_again x l h j b e same place =
      let k : ℕ = x.sender in
      let first = first_place k (h k).0 x l refl (h k).1 in
      let at : x.place ≡ (h k).0 = first.0 in
      let le : (h k).0 + 1 ≤ b.place = from_place k ((h k).0 + 1) l first.1 j b e same in absurd (omega arith)

  once : (log : List (Letter T)) → AllRun log → IsEachOnce log
  once [] h i j a b ea eb s p = absurd cc
  once (x ∷ l) h zero zero a b ea eb s p = refl
  once (x ∷ l) h zero (suc j) a b ea eb s p =
      let is : x ≡ a = cc in
      absurd (not_again x l h j b eb (sym s ∙ sym (ap (λ (z : Letter T). z.sender) is)) (sym p
      ∙ sym (ap (λ (z : Letter T). z.place) is)))
  once (x ∷ l) h (suc i) zero a b ea eb s p =
      let is : x ≡ b = cc in
      absurd (not_again x l h i a ea (s ∙ sym (ap (λ (z : Letter T). z.sender) is)) (p
      ∙ sym (ap (λ (z : Letter T). z.place) is)))
  once (x ∷ l) h (suc i) (suc j) a b ea eb s p = ap suc (once l (all_run_rest x l h) i j a b ea eb s p)

  pub each_once : (log : List (Letter T)) → IsHistory log → IsEachOnce log
  each_once log h = once log (λ k. (0, (row_of k log, h k)))
