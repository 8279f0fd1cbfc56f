-- How the value of a label is read (prometheus.io/docs/instrumenting/exposition_formats). Between its quotes, `\\` is a
-- backslash, `\"` a quote and `\n` a newline, and every other byte is itself. No quote, newline or lone backslash is
-- there.
use Rattle.std.specs.Prelude.{◌≢◌, ℕ, List, [], ◌∷◌}
use Rattle.cmd_report.specs.Metrics.{label_text}

pub data ReadsAs : (written text : List ℕ) → Type 0 where
  Nothing : ReadsAs [] []
  Plain : (byte : ℕ) → byte ≢ 92 → byte ≢ 34 → byte ≢ 10 → (written text : List ℕ) → ReadsAs written text
      → ReadsAs (byte ∷ written) (byte ∷ text)
  Backslash : (written text : List ℕ) → ReadsAs written text → ReadsAs (92 ∷ 92 ∷ written) (92 ∷ text)
  Quote : (written text : List ℕ) → ReadsAs written text → ReadsAs (92 ∷ 34 ∷ written) (34 ∷ text)
  Newline : (written text : List ℕ) → ReadsAs written text → ReadsAs (92 ∷ 110 ∷ written) (10 ∷ text)

-- The written value of a label reads as its text.
abbrev pub LabelsRead : Type 0
LabelsRead = (text : List ℕ) → ReadsAs (label_text text) text
