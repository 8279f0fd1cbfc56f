-- The two senders of a mailbox, for the tests.
use Rattle.std.proofs.Common.{◌≡◌, ℕ, zero, suc, ◌<◌, List, [], ◌∷◌, ◌++◌, length, refl, sym, ap, ◌∙◌, subst, Some}
use Rattle.std.proofs.Common.{length-append, arith}
use Rattle.std.specs.Prelude.{slice_get, All}
use Rattle.svc_mail.specs.declared.letter.Letter.{Letter}
use Rattle.svc_mail.specs.declared.sender.Sender.{Sender}
use Rattle.svc_mail.specs.declared.receiver.Receiver.{Receiver}
use Rattle.svc_mail.specs.declared.mailbox.Mailbox.{Mailbox}
use Rattle.svc_mail.specs.History.{row_of}
use Rattle.svc_mail.specs.Ends.{home, number_of, box_of, posted, senders_in, AreAllSenders, AreNewSenders, IsNewSender}
use Rattle.svc_mail.specs.Ends.{IsWholeHistory}

module _ {T A : Type 0} where
  pub two_senders : (m : Mailbox T A) (ss : List (Sender T A)) (a b : Sender T A) → ss ≡ a ∷ b ∷ [] → home a ≡ box_of m
      → home b ≡ box_of m → number_of a ≡ 0 → number_of b ≡ 1 → senders_in m ≡ 2 → AreAllSenders m ss
  two_senders m ss a b is ha hb na nb n = subst (λ l. AreAllSenders m l) (sym is) (each, number)
    where
      each : All (λ s. home s ≡ box_of m) (a ∷ b ∷ [])
      each zero d lt = ha
      each (suc zero) d lt = hb
      each (suc (suc k)) d lt = absurd (omega arith)

      number : (k : ℕ) → k < senders_in m → (i : ℕ) × (s : Sender T A) × (slice_get (a ∷ b ∷ []) i ≡ Some s)
          × (number_of s ≡ k)
      number zero lt = (0, a, refl, na)
      number (suc zero) lt = (1, b, refl, nb)
      number (suc (suc k)) lt = absurd (omega arith)

  -- the two that were opened, taken from the end
  pub opened_two : (m : Mailbox T A) (ss : List (Sender T A)) (capacity : ℕ) (l : List (Sender T A)) (a b : Sender T A)
      → length ss ≡ 2 → AreNewSenders capacity 2 (box_of m) ss → ss ≡ (l ++ a ∷ []) ++ b ∷ []
      → IsNewSender capacity 2 (box_of m) 0 a × IsNewSender capacity 2 (box_of m) 1 b
  opened_two m ss capacity [] a b n h e = let h' = subst (AreNewSenders capacity 2 (box_of m)) e h in
      (h' 0 a refl, h' 1 b refl)
  opened_two m ss capacity (x ∷ []) a b n h e = absurd (omega (arith, ap length e))
  opened_two m ss capacity (x ∷ y ∷ l) a b n h e =
      absurd (omega (arith, ap length e, length-append (l ++ a ∷ []) (b ∷ [])))

  pub row_first : (ss : List (Sender T A)) (a b : Sender T A) (r : Receiver T A) (log : List (Letter T))
      → ss ≡ a ∷ b ∷ [] → number_of a ≡ 0 → IsWholeHistory ss r log → row_of 0 log ≡ posted a
  row_first ss a b r log is na h =
      sym (subst (λ (k : ℕ). posted a ≡ row_of k log) na (h.rows 0 a (ap (λ l. slice_get l 0) is)).0)

  pub row_second : (ss : List (Sender T A)) (a b : Sender T A) (r : Receiver T A) (log : List (Letter T))
      → ss ≡ a ∷ b ∷ [] → number_of b ≡ 1 → IsWholeHistory ss r log → row_of 1 log ≡ posted b
  row_second ss a b r log is nb h =
      sym (subst (λ (k : ℕ). posted b ≡ row_of k log) nb (h.rows 1 b (ap (λ l. slice_get l 1) is)).0)

  -- pushed onto an empty vector, one after the other
  pub pushed_two : (none first both : List (Sender T A)) (a b : Sender T A) → none ≡ [] → first ≡ none ++ a ∷ []
      → both ≡ first ++ b ∷ [] → both ≡ a ∷ b ∷ []
  pushed_two none first both a b e f g = g ∙ ap (λ l. l ++ b ∷ []) (f ∙ ap (λ l. l ++ a ∷ []) e)
