-- Why words are not an order.
use Rattle.std.proofs.Common.{◌≡◌, ℕ, Option, Some, None, Result, Ok, Err, subst}
use Rattle.std.specs.Prelude.{MatchOption, IsOkUnless, IsErrOf}
use Rattle.cmd_svc.specs.declared.order.SvcFault.{SvcFault}
use Rattle.cmd_svc.specs.declared.order.SvcFault.TheVariants.{UnknownLetter, OutOfMemory}

same_letter : {T : Type 0} (a b : ℕ) (r : Result T SvcFault) → r ≡ Err (UnknownLetter a) → r ≡ Err (UnknownLetter b)
    → a ≡ b
same_letter a b r h k = cc

never_both : {T : Type 0} (b : ℕ) (r : Result T SvcFault) → r ≡ Err OutOfMemory → r ≡ Err (UnknownLetter b) → ⊥
never_both b r h k = cc

not_memory : {T : Type 0} (a : ℕ) (r : Result T SvcFault) → r ≡ Err (UnknownLetter a) → IsOkUnless r OutOfMemory → ⊥
not_memory {T} a r h k =
    let wrong : UnknownLetter a ≡ OutOfMemory = subst (λ (s : Result T SvcFault). IsOkUnless s OutOfMemory) h k in cc

-- The letter that was refused is the first that is unknown.
pub letter-refused : {T : Type 0} (unknown : Option ℕ) (r : Result T SvcFault) (letter : ℕ) (P : Type 0) (Q : ℕ
    → Type 0)
    → MatchOption unknown (IsOkUnless r OutOfMemory) (λ first. IsErrOf r (UnknownLetter first))
    → r ≡ Err (UnknownLetter letter) → Q letter → MatchOption unknown P Q
letter-refused None r letter P Q why is q = absurd (not_memory letter r is why)
letter-refused (Some first) r letter P Q why is q = subst Q (same_letter letter first r is why) q

-- If there was no memory, no letter is unknown.
pub memory-lacks : {T : Type 0} (unknown : Option ℕ) (r : Result T SvcFault) (P : Type 0) (Q : ℕ → Type 0)
    → MatchOption unknown (IsOkUnless r OutOfMemory) (λ first. IsErrOf r (UnknownLetter first))
    → r ≡ Err OutOfMemory → P → MatchOption unknown P Q
memory-lacks None r P Q why is p = p
memory-lacks (Some first) r P Q why is p = absurd (never_both first r is why)

never_served : {T : Type 0} (order : T) (b : ℕ) (r : Result T SvcFault) → r ≡ Ok order → r ≡ Err (UnknownLetter b) → ⊥
never_served order b r h k = cc

-- If there is an order, no letter is unknown.
pub order-serves : {T : Type 0} (unknown : Option ℕ) (r : Result T SvcFault) (order : T) (P : Type 0) (Q : ℕ → Type 0)
    → MatchOption unknown (IsOkUnless r OutOfMemory) (λ first. IsErrOf r (UnknownLetter first))
    → r ≡ Ok order → P → MatchOption unknown P Q
order-serves None r order P Q why is p = p
order-serves (Some first) r order P Q why is p = absurd (never_served order first r is why)
