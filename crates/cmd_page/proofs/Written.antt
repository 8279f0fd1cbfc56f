-- Written text reads as the text that it was written for.
use Rattle.std.proofs.Common.{◌≡◌, ◌≢◌, ℕ, ◌==◌, true, false, List, [], ◌∷◌, ◌++◌, flat_map, refl, sym, ◌∙◌, subst}
use Rattle.std.proofs.lemmas.Bool.Decides.{Decides-eqb}
use Rattle.cmd_page.specs.Escape.{entity, escaped, visible, ReadsAs}
use Rattle.cmd_page.specs.Escape.ReadsAs.{Nothing, Plain, Ampersand, Less, Greater, Quote, Apostrophe}

apart : (x y : ℕ) → (x == y) ≡ false → x ≢ y
apart x y e = λ same. let both : true ≡ false = sym ((Decides-eqb x y).1 same) ∙ e in absurd (cc)

plain : (byte : ℕ) → (byte == 38) ≡ false → (byte == 60) ≡ false → (byte == 62) ≡ false → (byte == 34) ≡ false
    → (byte == 39) ≡ false → entity byte ≡ byte ∷ []
unfolding entity
plain byte a b c d e = rw (a, b, c, d, e) refl

special : (byte meant : ℕ) (written text : List ℕ) → (byte == meant) ≡ true
    → ReadsAs (entity meant ++ written) (meant ∷ text) → ReadsAs (entity byte ++ written) (byte ∷ text)
special byte meant written text is reads =
    subst (λ (b : ℕ). ReadsAs (entity b ++ written) (b ∷ text)) (sym ((Decides-eqb byte meant).0 is)) reads

-- one byte more
reads_byte : (byte : ℕ) (written text : List ℕ) → ReadsAs written text → ReadsAs (entity byte ++ written) (byte ∷ text)
unfolding entity
reads_byte byte written text reads =
    elim (byte == 38) as (λ t. (byte == 38) ≡ t → ReadsAs (entity byte ++ written) (byte ∷ text)) [
      | true ↦ λ is. special byte 38 written text is (Ampersand written text reads)
      | false ↦ λ a. elim (byte == 60) as (λ t. (byte == 60) ≡ t → ReadsAs (entity byte ++ written) (byte ∷ text)) [
        | true ↦ λ is. special byte 60 written text is (Less written text reads)
        | false ↦ λ b. elim (byte == 62) as (λ t. (byte == 62) ≡ t → ReadsAs (entity byte ++ written) (byte ∷ text)) [
          | true ↦ λ is. special byte 62 written text is (Greater written text reads)
          | false ↦ λ c. elim (byte == 34) as (λ t. (byte == 34) ≡ t → ReadsAs (entity byte ++ written) (byte ∷ text)) [
            | true ↦ λ is. special byte 34 written text is (Quote written text reads)
            | false ↦ λ d. elim (byte == 39) as (λ t.
                (byte == 39) ≡ t → ReadsAs (entity byte ++ written) (byte ∷ text)) [
                  | true ↦ λ is. special byte 39 written text is (Apostrophe written text reads)
                  | false ↦ λ e. subst (λ (w : List ℕ). ReadsAs (w ++ written) (byte ∷ text))
                      (sym (plain byte a b c d e))
                      (Plain byte (apart byte 38 a) (apart byte 60 b) (apart byte 62 c) (apart byte 34 d)
                      (apart byte 39 e) written text reads)
                ] refl
          ] refl
        ] refl
      ] refl
    ] refl

reads_entities : (text : List ℕ) → ReadsAs (flat_map entity text) text
reads_entities [] = Nothing
reads_entities (byte ∷ text) = reads_byte byte (flat_map entity text) text (reads_entities text)

pub reads_text : (text : List ℕ) → ReadsAs (escaped text) (visible text)
reads_text text = reads_entities (visible text)
