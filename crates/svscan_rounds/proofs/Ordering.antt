-- Names in byte order.
use Rattle.std.proofs.Common.{◌≡◌, ℕ, ◌+◌, ◌<◌, List, [], ◌∷◌, ◌++◌, length, map, arith, subst, sym, ap, ◌∙◌, String}
use Rattle.std.proofs.Common.{Option, Some, None, Result, Ok, Err, IfOk, IfSome}
use Rattle.std.proofs.lemmas.List.Elements.{All-push}
use Rattle.scan_table.specs.Slots.{Row}
use Rattle.svscan_rounds.specs.declared.rows.Entry.{Entry}
use Rattle.std.proofs.lemmas.List.{length-map, get_or-map, append-nil}
use Rattle.std.specs.Prelude.{string_bytes, string_cmp, IsSorted, codes, ◌&&◌, Bool, true}
use Rattle.svscan_rounds.specs.Rows.{AreInOrder, AreAsSaid, Standing, entries_of, is_directory, is_there, row_of}

-- texts in order, by their bytes
pub in_order : {Z : Type 0} (names : List (String Z)) → IsSorted string_cmp names → AreInOrder (map string_bytes names)
in_order [] h = λ k d low within. absurd (omega (arith, within))
in_order {Z} (name ∷ names) h = λ k d low within.
    let texts : length (map string_bytes (name ∷ names)) ≡ length (name ∷ names) =
    length-map (name ∷ names) string_bytes in
    let far : k + 1 < length (name ∷ names) = subst (λ (n : ℕ). k + 1 < n) texts within in
    let near : k < length (name ∷ names) = omega (arith, far) in
    let later = get_or-map string_bytes (name ∷ names) (k + 1) name d far in
    let sooner = get_or-map string_bytes (name ∷ names) k name d near in
    rw (later, sooner) (h k name low far)

-- what holds for a list also holds for an equal list in a result
pub if_ok-same : {T E : Type 0} (P : List (List ℕ) → Type 0) (f : T → List (List ℕ)) (r : Result T E)
    (names : List (List ℕ)) → IfOk r (λ rows. f rows ≡ names)
    → P names → IfOk r (λ rows. P (f rows))
if_ok-same P f (Ok rows) names h p = subst P (sym h) p
if_ok-same P f (Err e) names h p = tt

-- a row says what is at the paths of its entry
pub entry-said : (at : Option (List ℕ → Standing)) (name : List ℕ) (a b c d : Bool)
    → IfSome at (λ at. a ≡ (true && is_directory (at (name ++ []))))
    → IfSome at (λ at. b ≡ (a && is_directory (at (name ++ codes "/log"))))
    → IfSome at (λ at. c ≡ (a && is_there (at (name ++ codes "/down"))))
    → IfSome at (λ at. d ≡ (b && is_there (at (name ++ codes "/log/down"))))
    → IfSome (entries_of at)
    (λ said. record { is_dir = a; has_log = b; down = c; log_down = d } ≡ said name)
entry-said None name a b c d p q r s = tt
entry-said (Some at) name a b c d p q r s =
    let dir : a ≡ is_directory (at name) = p ∙ ap (λ n. is_directory (at n)) (append-nil name) in
    let log : b ≡ (is_directory (at name) && is_directory (at (name ++ codes "/log"))) =
    q ∙ ap (λ x. x && is_directory (at (name ++ codes "/log"))) dir in
    let down : c ≡ (is_directory (at name) && is_there (at (name ++ codes "/down"))) =
    r ∙ ap (λ x. x && is_there (at (name ++ codes "/down"))) dir in
    let log_down : d ≡ ((is_directory (at name) && is_directory (at (name ++ codes "/log")))
    && is_there (at (name ++ codes "/log/down"))) =
    s ∙ ap (λ x. x && is_there (at (name ++ codes "/log/down"))) log in
    λ i. record { is_dir = dir i; has_log = log i; down = down i; log_down = log_down i }

-- a row is as it was said
pub row-said : (said : Option (List ℕ → Entry)) (name bytes : List ℕ) (entry : Entry) (row : Row)
    → row ≡ row_of name entry → bytes ≡ name
    → IfSome said (λ s. entry ≡ s bytes) → IfSome said (λ s. row ≡ row_of row.name (s row.name))
row-said None name bytes entry row is same h = tt
row-said (Some s) name bytes entry row is same h =
    let n : row.name ≡ name = ap (λ (r : Row). r.name) is in
    let e : entry ≡ s row.name = h ∙ ap s (same ∙ sym n) in
    is ∙ ap (λ (m : List ℕ). row_of m entry) (sym n) ∙ ap (row_of row.name) e

-- one more row
pub as_said-push : (said : Option (List ℕ → Entry)) (rows : List Row) (row : Row) → AreAsSaid said rows
    → IfSome said (λ s. row ≡ row_of row.name (s row.name)) → AreAsSaid said (rows ++ row ∷ [])
as_said-push None rows row h k = tt
as_said-push (Some s) rows row h k = All-push (λ (r : Row). r ≡ row_of r.name (s r.name)) rows row h k
