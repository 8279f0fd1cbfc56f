use Rattle.std.proofs.Common.{List, ◌≡◌, ◌^◌, ◌<◌, ℕ, decimal, None, Some, Result, Ok, Err, arith, sym, ◌∙◌, ap}
use Rattle.std.specs.Result.{OkIff, result_ok}
use Rattle.sup_core.specs.Reading.{pid_of_text}
use Rattle.sup_core.proofs.Spelling.{SpellsPid, pid_of_text-found, pid_of_text-only, none_spelt}
use Rattle.sup_core.proofs.reading.read_pid.Goals as goal

pub returns-in_err-number : goal.returns-in_err-number
returns-in_err-number c =
    let text = c.args.text.now in
    let none : None ≡ pid_of_text text =
    none_spelt (SpellsPid text) _ (pid_of_text-found text) λ pid h.
    let below = h.below in
    let e = c.in_err-number.ensures.only pid (omega (arith, below)) h.is in
    cc e in
    cc none

pub returns-then-number-eq0 : goal.returns-then-number-eq0
returns-then-number-eq0 c =
    let text = c.args.text.now in
    none_spelt (SpellsPid text) _ (pid_of_text-found text) λ pid h.
    let below = h.below in
    let e = c.in_ok-number.ensures.only pid (omega (arith, below)) h.is in
    let same : c.in_ok-number.number ≡ pid = cc e in
    omega (arith, same, h.some, c.if-number-eq0.true)

reported : {E : Type 0} (text : List ℕ) (number : ℕ) (fits : Result ℕ E) → text ≡ decimal number → 0 < number
    → ((n : ℕ) → n < 2 ^ 64 → text ≡ decimal n → number ≡ n)
    → OkIff fits (number < 2 ^ 32) number → result_ok fits ≡ pid_of_text text
reported text number (Ok pid) is some only h =
    let same = h.1 in
    let below = h.0 in
    ap Some same ∙ sym (pid_of_text-only text number (record { some = some; below = below; is = is }))
reported text number (Err e) is some only h =
    none_spelt (SpellsPid text) _ (pid_of_text-found text) λ pid reports.
    let below = reports.below in
    let same = only pid (omega (arith, below)) reports.is in
    h (omega (arith, below, same))

pub returns : goal.returns
returns c =
    let number = c.in_ok-number.number in
    c.ok.ensures.value ∙ reported c.args.text.now number c.try_from.result c.in_ok-number.ensures.found
    (let some = c.if-number-eq0.false in omega (arith, some))
    (λ n below is. let e = c.in_ok-number.ensures.only n below is in cc e)
    c.try_from.ensures
