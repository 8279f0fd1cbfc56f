-- Where the number and the time are in a line.
use Rattle.std.proofs.Common.{◌≡◌, ℕ, ◌+◌, ◌-◌, List, [], ◌∷◌, ◌++◌, length, decimal, codes}
use Rattle.std.proofs.Common.{refl, ap, ◌∙◌, arith, append_assoc}
use Rattle.tai_status.specs.Label.{Tai64n, label_text, packed}
use Rattle.hex.specs.Hex.{lower_digits}
use Rattle.hex.proofs.HexLemmas.{length-encode_with}
use Rattle.sup_core.specs.Reading.{fields}
use Rattle.sup_core.proofs.Lines.{avoids-solid, decimal-solid, split-first}
use Rattle.svc_record.specs.Exits.{ending_words, exit_text, signal_word}
use Rattle.svc_record.specs.Moments.{Marks}
use Rattle.svc_record.specs.declared.ending.Ending.{Ending}
use Rattle.svc_record.specs.declared.ending.Ending.TheVariants.{Status, Signal, Unknown}
use Rattle.svc_record.specs.declared.exit.Exit.{Exit}

pub label_length : (label : Tai64n) → length (label_text label) ≡ 25
label_length label =
    let digits = length-encode_with lower_digits (packed label) in
    let twelve : length (packed label) ≡ 12 = refl in
    omega (arith, digits, twelve)

-- The words that say how a process ended begin with a space.
record Spaced (words : List ℕ) : Type 0 where
  pub rest : List ℕ
  pub is : words ≡ 32 ∷ rest

spaced : (ending : Ending) → Spaced (ending_words ending)
spaced (Status code) = record { rest = codes "status " ++ decimal code; is = refl }
spaced (Signal number) = record { rest = codes "signal " ++ signal_word number; is = refl }
spaced Unknown = record { rest = codes "unknown"; is = refl }

regrouped : (a b c d e : List ℕ) → a ++ b ++ c ++ d ++ e ≡ a ++ (b ++ (c ++ (d ++ e)))
regrouped a b c d e = simp append_assoc

grouped : (a b c d e : List ℕ) → a ++ b ++ c ++ d ++ e ≡ (a ++ b ++ c) ++ d ++ e
grouped a b c d e = simp append_assoc

-- The line of an exit has its process at the beginning and its time at the end.
pub marks_exit : (line : List ℕ) (exit : Exit) → line ≡ exit_text exit
    → Marks line (record { pid = exit.pid; label = exit.label })
marks_exit line exit is =
    let pid = decimal exit.pid in
    let words = spaced exit.ending in
    let tail = codes " " ++ (label_text exit.label ++ 10 ∷ []) in
    let text : line ≡ pid ++ 32 ∷ (words.rest ++ tail) =
    is ∙ regrouped pid (ending_words exit.ending) (codes " ") (label_text exit.label) (10 ∷ [])
    ∙ ap (λ (w : List ℕ). pid ++ (w ++ tail)) words.is in
    let split : fields line ≡ pid ∷ fields (words.rest ++ tail) =
    ap fields text
    ∙ split-first 32 pid (words.rest ++ tail) (avoids-solid 32 pid (omega arith) (decimal-solid exit.pid)) in
    record {
      rest = fields (words.rest ++ tail);
      begins = split;
      front = pid ++ ending_words exit.ending ++ codes " ";
      ends = is ∙ grouped pid (ending_words exit.ending) (codes " ") (label_text exit.label) (10 ∷ []);
    }
