use Rattle.std.proofs.Common.{◌≡◌, None, sym, rules, ap, ◌∙◌}
use Rattle.sup_core.specs.Text.{byte_text}
use Rattle.sup_core.specs.Reading.{byte_of_text}
use Rattle.sup_core.proofs.Spelling.{SpellsByte, byte_of_text-found, byte_of_text-only, none_spelt}
use Rattle.sup_core.proofs.reading.read_byte.Goals as goal

pub returns-in_err-byte-clause-exact : goal.returns-in_err-byte-clause-exact
returns-in_err-byte-clause-exact c =
    let text = c.args.text.now in
    let none : None ≡ byte_of_text text =
    none_spelt (SpellsByte text) _ (byte_of_text-found text) λ byte h. let e = c.in_err-byte.ensures byte h.below h.is
    in
    cc e in
    cc none

pub returns-then-is_byte_text-clause-exact : goal.returns-then-is_byte_text-clause-exact
returns-then-is_byte_text-clause-exact c =
    sym (byte_of_text-only c.args.text.now c.in_ok-byte.byte (record { below = search rules; is = search rules }))

pub returns-else-is_byte_text-clause-exact : goal.returns-else-is_byte_text-clause-exact
returns-else-is_byte_text-clause-exact c =
    let text = c.args.text.now in
    none_spelt (SpellsByte text) _ (byte_of_text-found text) λ byte h.
    let e = c.in_ok-byte.ensures byte h.below h.is in
    let same : c.in_ok-byte.byte ≡ byte = cc e in
    let is : text ≡ byte_text c.in_ok-byte.byte = h.is ∙ ap byte_text (sym same) in
    let yes = c.is_byte_text.ensures.1 is in
    cc (yes, c.if-is_byte_text.false)
