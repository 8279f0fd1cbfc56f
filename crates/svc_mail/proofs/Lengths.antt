-- The rows of all senders determine the length of a history.
use Rattle.std.proofs.Common.{◌≡◌, ◌≢◌, ℕ, zero, suc, ◌+◌, ◌≤◌, ◌<◌, eq-eqb, ne_eqb, cond, List, [], ◌∷◌, length, map}
use Rattle.std.proofs.Common.{sym, refl, ap, ◌∙◌, lt_of_not-le, arith}
use mathlib.Core.Logic.{dite}
use native.Mathlib.Decide.{ℕ_discrete, dec_le}
use Rattle.svc_mail.specs.declared.letter.Letter.{Letter}
use Rattle.svc_mail.specs.History.{of_sender, row_of, IsAmong}

module _ {T : Type 0} where
  row_cons_same : (k : ℕ) (x : Letter T) (l : List (Letter T)) → x.sender ≡ k → row_of k (x ∷ l) ≡ x.item ∷ row_of k l
  row_cons_same k x l e =
      ap (λ b. map (λ (y : Letter T). y.item) (cond b (x ∷ of_sender k l) (of_sender k l))) (eq-eqb x.sender k e)

  row_cons_other : (k : ℕ) (x : Letter T) (l : List (Letter T)) → x.sender ≢ k → row_of k (x ∷ l) ≡ row_of k l
  row_cons_other k x l ne =
      ap (λ b. map (λ (y : Letter T). y.item) (cond b (x ∷ of_sender k l) (of_sender k l))) (ne_eqb x.sender k ne)

  -- how many letters the first n senders have
  abbrev total : ℕ → List (Letter T) → ℕ
  total zero l = 0
  total (suc n) l = length (row_of n l) + total n l

  total_nil : (n : ℕ) (l : List (Letter T)) → l ≡ [] → total n l ≡ 0
  total_nil zero l e = refl
  total_nil (suc n) l e = let a = total_nil n l e in let b : length (row_of n l) ≡ 0 =
      ap (λ m. length (row_of n m)) e in omega arith

  total_past : (n : ℕ) (x : Letter T) (l : List (Letter T)) → n ≤ x.sender → total n (x ∷ l) ≡ total n l
  total_past zero x l le = refl
  total_past (suc n) x l le =
      let ne : x.sender ≢ n = λ e. omega arith in
      let le' : n ≤ x.sender = omega arith in
      let a : length (row_of n (x ∷ l)) ≡ length (row_of n l) = ap length (row_cons_other n x l ne) in
      let b = total_past n x l le' in omega arith

  total_in : (n : ℕ) (x : Letter T) (l : List (Letter T)) → x.sender < n → total n (x ∷ l) ≡ suc (total n l)
  total_in zero x l lt = absurd (omega arith)
  total_in (suc n) x l lt =
      dite (ℕ_discrete x.sender n)
      (λ e. let le : n ≤ x.sender = omega arith in
      let a : length (row_of n (x ∷ l)) ≡ suc (length (row_of n l)) = ap length (row_cons_same n x l e) in
      let b = total_past n x l le in omega arith)
      (λ ne. let lt' : x.sender < n = omega arith in
      let a : length (row_of n (x ∷ l)) ≡ length (row_of n l) = ap length (row_cons_other n x l ne) in
      let b = total_in n x l lt' in omega arith)

  pub sender_below : (n : ℕ) (x : Letter T) (l : List (Letter T)) → IsAmong n (x ∷ l) → x.sender < n
  sender_below n x l h =
      elim (dec_le n x.sender) [
        | yes le ↦ let e : x.item ∷ row_of x.sender l ≡ [] =
            sym (row_cons_same x.sender x l refl) ∙ h x.sender le in absurd cc
        | no none ↦ lt_of_not-le none
      ]

  pub among_rest : (n : ℕ) (x : Letter T) (l : List (Letter T)) → IsAmong n (x ∷ l) → IsAmong n l
  among_rest n x l h k le = let lt = sender_below n x l h in let ne : x.sender ≢ k = λ e. omega arith in
      sym (row_cons_other k x l ne) ∙ h k le

  length_is : (n : ℕ) (l : List (Letter T)) → IsAmong n l → length l ≡ total n l
  length_is n [] h = sym (total_nil n [] refl)
  length_is n (x ∷ l) h = ap suc (length_is n l (among_rest n x l h)) ∙ sym (total_in n x l (sender_below n x l h))

  total_alike : (n : ℕ) (l m : List (Letter T)) → ((k : ℕ) → k < n → row_of k l ≡ row_of k m) → total n l ≡ total n m
  total_alike zero l m h = refl
  total_alike (suc n) l m h =
      let here : n < suc n = omega arith in
      let a : length (row_of n l) ≡ length (row_of n m) = ap length (h n here) in
      let b = total_alike n l m (λ k lt. let lt' : k < suc n = omega arith in h k lt') in omega arith

  pub same_length : (n : ℕ) (l m : List (Letter T)) → IsAmong n l → IsAmong n m
      → ((k : ℕ) → k < n → row_of k l ≡ row_of k m) → length l ≡ length m
  same_length n l m a b h = length_is n l a ∙ total_alike n l m h ∙ sym (length_is n m b)
