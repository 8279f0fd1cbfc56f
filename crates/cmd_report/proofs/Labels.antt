-- Labels read as the texts that they were written from.
use Rattle.std.proofs.Common.{◌≡◌, ◌≢◌, ℕ, ◌==◌, true, false, List, [], ◌∷◌, ◌++◌, refl, sym, ◌∙◌, subst}
use Rattle.std.proofs.lemmas.Bool.Decides.{Decides-eqb}
use Rattle.cmd_report.specs.Metrics.{label_byte, label_text}
use Rattle.cmd_report.specs.Label.{ReadsAs}
use Rattle.cmd_report.specs.Label.ReadsAs.{Nothing, Plain, Backslash, Quote, Newline}

apart : (x y : ℕ) → (x == y) ≡ false → x ≢ y
apart x y e = λ same. let both : true ≡ false = sym ((Decides-eqb x y).1 same) ∙ e in absurd (cc)

plain : (byte : ℕ) → (byte == 92) ≡ false → (byte == 34) ≡ false → (byte == 10) ≡ false → label_byte byte ≡ byte ∷ []
unfolding label_byte
plain byte a b c = rw (a, b, c) refl

reads_special : (byte special : ℕ) (written text : List ℕ) → (byte == special) ≡ true
    → ReadsAs (label_byte special ++ written) (special ∷ text) → ReadsAs (label_byte byte ++ written) (byte ∷ text)
reads_special byte special written text is reads =
    subst (λ (b : ℕ). ReadsAs (label_byte b ++ written) (b ∷ text)) (sym ((Decides-eqb byte special).0 is)) reads

-- one byte more
reads_byte : (byte : ℕ) (written text : List ℕ) → ReadsAs written text
    → ReadsAs (label_byte byte ++ written) (byte ∷ text)
unfolding label_byte
reads_byte byte written text reads =
    elim (byte == 92) as (λ t. (byte == 92) ≡ t → ReadsAs (label_byte byte ++ written) (byte ∷ text)) [
      | true ↦ λ is. reads_special byte 92 written text is (Backslash written text reads)
      | false ↦ λ a. elim (byte == 34) as (λ t. (byte == 34) ≡ t → ReadsAs (label_byte byte ++ written) (byte ∷ text)) [
        | true ↦ λ is. reads_special byte 34 written text is (Quote written text reads)
        | false ↦ λ b. elim (byte == 10) as (λ t.
            (byte == 10) ≡ t → ReadsAs (label_byte byte ++ written) (byte ∷ text)) [
              | true ↦ λ is. reads_special byte 10 written text is (Newline written text reads)
              | false ↦ λ c. subst (λ (w : List ℕ). ReadsAs (w ++ written) (byte ∷ text)) (sym (plain byte a b c))
                  (Plain byte (apart byte 92 a) (apart byte 34 b) (apart byte 10 c) written text reads)
            ] refl
      ] refl
    ] refl

pub reads_label : (text : List ℕ) → ReadsAs (label_text text) text
reads_label [] = Nothing
reads_label (byte ∷ text) = reads_byte byte (label_text text) text (reads_label text)
