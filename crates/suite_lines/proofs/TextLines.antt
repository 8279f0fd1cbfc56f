-- Lines as the code makes them, from texts that are shown.
use Rattle.std.proofs.Common.{◌≡◌, ℕ, List, ◌++◌, Result, Ok, Err, codes, decimal, append_assoc, ap, ◌∙◌}
use Rattle.std.specs.Prelude.{IfOk}

pub part_made : {L E : Type 0} (bytes : L → List ℕ) (r : Result L E) (shown part answer : List ℕ) → shown ≡ part
    → IfOk r (λ line. bytes line ≡ shown ++ (codes " " ++ answer))
    → IfOk r (λ line. bytes line ≡ part ++ codes " " ++ answer)
part_made bytes (Err e) shown part answer is made = tt
part_made bytes (Ok line) shown part answer is made =
    made ∙ ap (λ (text : List ℕ). text ++ (codes " " ++ answer)) is ∙ simp append_assoc

pub counts_made : {L E : Type 0} (bytes : L → List ℕ) (r : Result L E) (a b c d started restarted dropped refused : ℕ)
    → a ≡ started → b ≡ restarted → c ≡ dropped → d ≡ refused
    → IfOk r (λ line. bytes line
    ≡ codes "scan: " ++ (decimal a
    ++ (codes " started, "
    ++ (decimal b
    ++ (codes " restarted, " ++ (decimal c ++ (codes " dropped, " ++ (decimal d ++ codes " refused"))))))))
    → IfOk r (λ line. bytes line
    ≡ codes "scan: " ++ decimal started ++ codes " started, " ++ decimal restarted ++ codes " restarted, "
    ++ decimal dropped ++ codes " dropped, " ++ decimal refused ++ codes " refused")
counts_made bytes (Err e) a b c d started restarted dropped refused ia ib ic id made = tt
counts_made bytes (Ok line) a b c d started restarted dropped refused ia ib ic id made =
    made
    ∙ ap (λ (n : ℕ). codes "scan: "
    ++ (decimal n
    ++ (codes " started, "
    ++ (decimal b
    ++ (codes " restarted, " ++ (decimal c ++ (codes " dropped, " ++ (decimal d ++ codes " refused")))))))) ia
    ∙ ap (λ (n : ℕ). codes "scan: "
    ++ (decimal started
    ++ (codes " started, "
    ++ (decimal n
    ++ (codes " restarted, " ++ (decimal c ++ (codes " dropped, " ++ (decimal d ++ codes " refused")))))))) ib
    ∙ ap (λ (n : ℕ). codes "scan: "
    ++ (decimal started
    ++ (codes " started, "
    ++ (decimal restarted
    ++ (codes " restarted, " ++ (decimal n ++ (codes " dropped, " ++ (decimal d ++ codes " refused")))))))) ic
    ∙ ap (λ (n : ℕ). codes "scan: "
    ++ (decimal started
    ++ (codes " started, "
    ++ (decimal restarted
    ++ (codes " restarted, " ++ (decimal dropped ++ (codes " dropped, " ++ (decimal n ++ codes " refused")))))))) id
    ∙ simp append_assoc
