-- The one sender of a mailbox, for the tests.
use Rattle.std.proofs.Common.{◌≡◌, ℕ, zero, suc, ◌<◌, List, [], ◌∷◌, ◌++◌, refl, sym, ap, ◌∙◌, subst, Some, arith}
use Rattle.std.specs.Prelude.{slice_get, All}
use Rattle.svc_mail.specs.declared.sender.Sender.{Sender}
use Rattle.svc_mail.specs.declared.mailbox.Mailbox.{Mailbox}
use Rattle.svc_mail.specs.Ends.{home, number_of, box_of, senders_in, AreAllSenders}

module _ {T A : Type 0} where
  pub one_sender : (m : Mailbox T A) (ss : List (Sender T A)) (s : Sender T A) → ss ≡ s ∷ [] → home s ≡ box_of m
      → number_of s ≡ 0 → senders_in m ≡ 1 → AreAllSenders m ss
  one_sender m ss s is at first n = subst (λ l. AreAllSenders m l) (sym is) (each, number)
    where
      each : All (λ s. home s ≡ box_of m) (s ∷ [])
      each zero d lt = at
      each (suc k) d lt = absurd (omega arith)

      number : (k : ℕ) → k < senders_in m → (i : ℕ) × (t : Sender T A) × (slice_get (s ∷ []) i ≡ Some t)
          × (number_of t ≡ k)
      number zero lt = (0, s, refl, first)
      number (suc k) lt = absurd (omega arith)

  -- pushed onto an empty vector
  pub pushed_one : (none one : List (Sender T A)) (s t : Sender T A) → none ≡ [] → one ≡ none ++ s ∷ [] → s ≡ t
      → one ≡ t ∷ []
  pushed_one none one s t e f g = f ∙ ap (λ l. l ++ s ∷ []) e ∙ ap (λ x. x ∷ []) g
