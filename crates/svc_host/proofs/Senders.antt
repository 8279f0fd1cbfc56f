-- The senders of a newly opened mailbox, taken off the end of the list.
use Rattle.std.proofs.Common.{◌≡◌, ℕ, zero, suc, List, [], ◌∷◌, ◌++◌, length, refl, sym, subst, Some}
use Rattle.std.specs.Prelude.{slice_get}
use Rattle.svc_mail.specs.declared.sender.Sender.{Sender}
use Rattle.svc_mail.specs.Ends.{AreNewSenders, IsNewSender}

at_end : {A : Type 0} (front : List A) (x : A) → slice_get (front ++ x ∷ []) (length front) ≡ Some x
at_end [] x = refl
at_end (y ∷ front) x = at_end front x

at_front : {A : Type 0} (front : List A) (x y : A) (k : ℕ) → slice_get front k ≡ Some y
    → slice_get (front ++ x ∷ []) k ≡ Some y
at_front [] x y k is = absurd (cc is)
at_front (z ∷ front) x y zero is = is
at_front (z ∷ front) x y (suc k) is = at_front front x y k is

module _ {T A : Type 0} (capacity senders : ℕ) (box : _) (all front : List (Sender T A)) (last : Sender T A)
    (new : AreNewSenders capacity senders box all) (is : all ≡ front ++ last ∷ []) where
  pub last_sender : IsNewSender capacity senders box (length front) last
  last_sender =
      new (length front) last (subst (λ l. slice_get l (length front) ≡ Some last) (sym is) (at_end front last))

  pub front_senders : AreNewSenders capacity senders box front
  front_senders k sender at =
      new k sender (subst (λ l. slice_get l k ≡ Some sender) (sym is) (at_front front last sender k at))
