-- The texts of events and of answers have no newline.
use Rattle.std.proofs.Common.{◌≡◌, ℕ, zero, suc, ◌/◌, ◌%◌, ◌==◌, ◌&&◌, Bool, true, false, not, List, [], ◌∷◌, ◌++◌}
use Rattle.std.proofs.Common.{refl, ◌∙◌, arith, decimal, codes}
use Rattle.std.specs.Prelude.{if◌then◌else◌, nat_le, slice_index}
use Rattle.std.specs.List.{AllByRecursion, join_with_byte}
use Rattle.std.proofs.lemmas.Bool.Decides.{nat_tests}
use Rattle.std.proofs.lemmas.List.Folds.{list_all-append}
use Rattle.hex.specs.Hex.{encode_with, encode_lower, lower_digits}
use Rattle.tai_status.specs.Label.{Tai64n, packed, label_text}
use Rattle.tai_status.specs.Phase.{phase_name}
use Rattle.tai_status.specs.LineReader.{IsPlain}
use Rattle.sup_core.specs.declared.asks.Ask.{Ask}
use Rattle.sup_core.specs.declared.asks.Ask.TheVariants.{Signal, Start, Write}
use Rattle.sup_core.specs.declared.asks.Reply.{Reply}
use Rattle.sup_core.specs.declared.asks.Reply.TheVariants.{Held, Took}
use Rattle.sup_core.specs.declared.asks.Sig.{Sig}
use Rattle.sup_core.specs.declared.event.Event.{Event}
use Rattle.sup_core.specs.declared.event.Event.TheVariants.{Byte, Started, StartFailed, Death, Clock}
use Rattle.tai_status.specs.declared.phase.Phase.{Phase}
use Rattle.sup_core.specs.Text.{byte_text, event_fields, event_text, signal_name, ask_text, asks_text, reply_text}
use Rattle.sup_core.specs.Text.{answer_text}
use Rattle.sup_core.proofs.Lines.{avoids-solid, decimal-solid, phase_name-solid}

abbrev is_plain_byte : ℕ → Bool
is_plain_byte byte = not (byte == 10)

pub plain-append : (xs ys : List ℕ) → IsPlain xs → IsPlain ys → IsPlain (xs ++ ys)
plain-append xs ys p q = list_all-append is_plain_byte xs ys ∙ rw (p, q) refl

pub plain-cons : (byte : ℕ) (bytes : List ℕ) → is_plain_byte byte ≡ true → IsPlain bytes → IsPlain (byte ∷ bytes)
plain-cons byte bytes p q = rw p q

pub plain-join : (parts : List (List ℕ)) → AllByRecursion IsPlain parts → IsPlain (join_with_byte 32 parts)
plain-join [] h = refl
plain-join (part ∷ []) h = h.0
plain-join (part ∷ next ∷ rest) h =
    plain-append part (32 ∷ join_with_byte 32 (next ∷ rest)) h.0
    (plain-cons 32 (join_with_byte 32 (next ∷ rest)) refl (plain-join (next ∷ rest) h.1))

-- Numbers

pub plain-decimal : (n : ℕ) → IsPlain (decimal n)
plain-decimal n = avoids-solid 10 (decimal n) (omega arith) (decimal-solid n)

-- Hexadecimal digits

plain_digit_of : (digits : List ℕ) (k : ℕ) → IsPlain digits → is_plain_byte (slice_index digits k) ≡ true
plain_digit_of [] k p = refl
plain_digit_of (d ∷ ds) zero p = (grind (arith))
plain_digit_of (d ∷ ds) (suc k) p = plain_digit_of ds k (grind (arith))

plain_digit : (k : ℕ) → is_plain_byte (slice_index lower_digits k) ≡ true
plain_digit k = plain_digit_of lower_digits k refl

pub plain-encode_lower : (bytes : List ℕ) → IsPlain (encode_lower bytes)
unfolding encode_with
plain-encode_lower [] = refl
plain-encode_lower (byte ∷ bytes) =
    plain-cons (slice_index lower_digits (byte / 16)) (slice_index lower_digits (byte % 16) ∷ encode_lower bytes)
    (plain_digit (byte / 16))
    (plain-cons (slice_index lower_digits (byte % 16)) (encode_lower bytes) (plain_digit (byte % 16))
    (plain-encode_lower bytes))

pub plain-label_text : (label : Tai64n) → IsPlain (label_text label)
plain-label_text label = plain-cons 64 (encode_lower (packed label)) refl (plain-encode_lower (packed label))

-- Events

printable_plain : (byte : ℕ) → (nat_le 0x21 byte && nat_le byte 0x7e) ≡ true → is_plain_byte byte ≡ true
printable_plain byte h = grind (arith, nat_tests)

pub plain-byte_text : (byte : ℕ) → IsPlain (byte_text byte)
plain-byte_text byte =
    elim (nat_le 0x21 byte && nat_le byte 0x7e) as (λ b. (nat_le 0x21 byte && nat_le byte 0x7e) ≡ b
    → IsPlain (if b then byte ∷ [] else encode_lower (byte ∷ []))) [
      | true ↦ λ is. plain-cons byte [] (printable_plain byte is) refl
      | false ↦ λ is. plain-encode_lower (byte ∷ [])
    ] refl

plain-event_fields : (event : Event) → AllByRecursion IsPlain (event_fields event)
plain-event_fields (Byte byte) = (refl, (plain-byte_text byte, tt))
plain-event_fields (Started pid label) = (refl, (plain-decimal pid, (plain-label_text label, tt)))
plain-event_fields (StartFailed label) = (refl, (plain-label_text label, tt))
plain-event_fields (Death label) = (refl, (plain-label_text label, tt))
plain-event_fields (Clock label) = (refl, (plain-label_text label, tt))

pub plain-event_text : (event : Event) → IsPlain (event_text event)
plain-event_text event = plain-join (event_fields event) (plain-event_fields event)

-- Answers

pub plain-signal_name : (sig : Sig) → IsPlain (signal_name sig)
plain-signal_name sig = grind (arith)

pub plain-ask_text : (ask : Ask) → IsPlain (ask_text ask)
plain-ask_text (Signal sig pid) =
    plain-append (signal_name sig ++ codes ":") (decimal pid)
    (plain-append (signal_name sig) (codes ":") (plain-signal_name sig) refl) (plain-decimal pid)
plain-ask_text Start = refl
plain-ask_text (Write bytes) = plain-append (codes "record:") (encode_lower bytes) refl (plain-encode_lower bytes)

plain-asks_text : (asks : List Ask) → IsPlain (asks_text asks)
plain-asks_text [] = refl
plain-asks_text (ask ∷ asks) =
    plain-append (32 ∷ ask_text ask) (asks_text asks) (plain-cons 32 (ask_text ask) refl (plain-ask_text ask))
    (plain-asks_text asks)

pub plain-reply_text : (reply : Reply) → IsPlain (reply_text reply)
plain-reply_text Held = refl
plain-reply_text (Took asks) = plain-append (codes "took") (asks_text asks) refl (plain-asks_text asks)

pub plain-phase_name : (phase : Phase) → IsPlain (phase_name phase)
plain-phase_name phase = avoids-solid 10 (phase_name phase) (omega arith) (phase_name-solid phase)

pub plain-answer_text : (reply : Reply) (phase : Phase) → IsPlain (answer_text reply phase)
plain-answer_text reply phase =
    plain-append (reply_text reply ++ codes " -> ") (phase_name phase)
    (plain-append (reply_text reply) (codes " -> ") (plain-reply_text reply) refl) (plain-phase_name phase)
