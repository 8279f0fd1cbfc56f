-- An index with one more name.
use Rattle.std.proofs.Common.{◌≡◌, ◌≢◌, ℕ, ◌+◌, ◌-◌, ◌<◌, ◌≤◌, List, [], length, get_or, sym, ap, ◌∙◌, arith, inl, inr}
use Rattle.std.proofs.Common.{Err}
use Rattle.std.specs.List.{insert, AllPairs}
use Rattle.std.specs.declared.cmp.Ordering.TheVariants.{Less}
use Rattle.std.proofs.lemmas.Bool.{cases_lt}
use Rattle.std.proofs.lemmas.List.{get_or_default}
use Rattle.std.proofs.lemmas.List.Edits.{length-insert, get_or-insert_at, get_or-insert_below, get_or-insert_above}
use Rattle.scan_table.specs.Slots.{name_order}
use Rattle.scan_table.specs.Index.{IsIndex, name_at, IsSearched}
use Rattle.scan_table.proofs.Orders.{above-below, below-differs}

-- the places of an index after a new one is added: those before it, its own, and those after it
data Place (index : List ℕ) (at : ℕ) (new : ℕ) (k : ℕ) : Type 0 where
  Before : k < at → get_or (insert index at new) k 0 ≡ get_or index k 0 → Place index at new k
  Here : k ≡ at → get_or (insert index at new) k 0 ≡ new → Place index at new k
  After : (old : ℕ) → k ≡ old + 1 → at ≤ old → get_or (insert index at new) k 0 ≡ get_or index old 0
      → Place index at new k

place_of : (index : List ℕ) (at new k : ℕ) → at ≤ length index → Place index at new k
place_of index at new k fits =
    elim (cases_lt k at) [
      | (inl below) ↦ Before below (get_or-insert_below index at new 0 k below fits)
      | (inr above) ↦ elim (cases_lt at k) [
        | (inl after) ↦
            let e : k ≡ (k - 1) + 1 = omega arith in
            After (k - 1) e (omega arith) (ap (λ n. get_or (insert index at new) n 0) e
            ∙ get_or-insert_above index at new 0 (k - 1) (omega arith) fits)
        | (inr same) ↦
            let e : k ≡ at = omega arith in
            Here e (ap (λ n. get_or (insert index at new) n 0) e ∙ get_or-insert_at index at new 0 fits)
      ]
    ]

-- two names that compare in this way are those at two places
stands : (names : List (List ℕ)) (m : List ℕ) (j k p q : ℕ) → get_or m j 0 ≡ p → get_or m k 0 ≡ q
    → name_order (get_or names p []) (get_or names q []) ≡ Less →
    name_order (name_at names m j) (name_at names m k) ≡ Less
stands names m j k p q e f less =
    ap (λ x. name_order (get_or names x []) (name_at names m k)) e
    ∙ ap (λ x. name_order (get_or names p []) (get_or names x [])) f ∙ less

-- If a new name is put between the smaller and the greater ones, the index stays an index.
pub index-insert : (names : List (List ℕ)) (index : List ℕ) (at : ℕ) (name : List ℕ) → IsIndex names index
    → get_or names (length index) [] ≡ name →
    IsSearched names index name (Err at) → IsIndex names (insert index at (length index))
index-insert names index at name is named searched =
    let more : length (insert index at (length index)) ≡ length index + 1 =
    length-insert index at (length index) searched.0 in
    record {
      within = λ k b.
          let b' : k < length index + 1 = omega (arith, more) in
          elim (place_of index at (length index) k searched.0) [
            | (Before below read) ↦ omega (arith, more, read, is.within k (omega (arith, searched.0)))
            | (Here here read) ↦ omega (arith, more, read)
            | (After old e above read) ↦ omega (arith, more, read, is.within old (omega (arith, b', e)))
          ];
      rising = λ j k before b.
          let b' : k < length index + 1 = omega (arith, more) in
          elim (place_of index at (length index) j searched.0) [
            | (Before below read) ↦ elim (place_of index at (length index) k searched.0) [
              | (Before below' read') ↦ stands names _ j k _ _ read read'
                  (is.rising j k before (omega (arith, searched.0)))
              | (Here here' read') ↦ stands names _ j k _ _ read read' (ap (name_order (name_at names index j)) named
                  ∙ searched.1 j below)
              | (After old e above read') ↦ stands names _ j k _ _ read read'
                  (is.rising j old (omega arith) (omega arith))
            ]
            | (Here at-j read) ↦ elim (place_of index at (length index) k searched.0) [
              | (Before below' read') ↦ absurd (omega arith)
              | (Here at-k read') ↦ absurd (omega arith)
              | (After old e above read') ↦ stands names _ j k _ _ read read'
                  (ap (λ x. name_order x (name_at names index old)) named
                  ∙ above-below (name_at names index old) name (searched.2 old above (omega arith)))
            ]
            | (After old e above read) ↦ elim (place_of index at (length index) k searched.0) [
              | (Before below' read') ↦ absurd (omega arith)
              | (Here here' read') ↦ absurd (omega arith)
              | (After old' e' above' read') ↦ stands names _ j k _ _ read read'
                  (is.rising old old' (omega arith) (omega arith))
            ]
          ];
      all = λ place b.
          let b' : place < length index + 1 = omega (arith, more) in
          elim (cases_lt place (length index)) [
            | (inl old) ↦
                let found = is.all place old in
                elim (cases_lt found.0 at) [
                  | (inl below) ↦ (
                    found.0,
                    omega (arith, more, found.1),
                    get_or-insert_below index at (length index) 0 found.0 below searched.0 ∙ found.2,
                  )
                  | (inr above) ↦ (
                    found.0 + 1,
                    omega (arith, more, found.1),
                    get_or-insert_above index at (length index) 0 found.0 above searched.0 ∙ found.2,
                  )
                ]
            | (inr last) ↦
                let e : length index ≡ place = omega arith in
                (at, omega (arith, more, searched.0), get_or-insert_at index at (length index) 0 searched.0 ∙ e)
          ];
    }

-- The names of an index of all names are distinct.
pub index-distinct : (names : List (List ℕ)) (index : List ℕ) → IsIndex names index → length index ≡ length names
    → AllPairs (λ a b. a ≢ b) names
index-distinct names index is whole i j d before b =
    let at-i = is.all i (omega (arith, whole)) in
    let at-j = is.all j (omega (arith, whole)) in
    let read-i : name_at names index at-i.0 ≡ get_or names i d = ap (λ p. get_or names p []) at-i.2
    ∙ get_or_default names i [] d (omega arith) in
    let read-j : name_at names index at-j.0 ≡ get_or names j d = ap (λ p. get_or names p []) at-j.2
    ∙ get_or_default names j [] d b in
    λ same.
    elim (cases_lt at-i.0 at-j.0) [
      | (inl below) ↦ below-differs _ _ (is.rising at-i.0 at-j.0 below at-j.1) (read-i ∙ same ∙ sym read-j)
      | (inr above) ↦ elim (cases_lt at-j.0 at-i.0) [
        | (inl below) ↦ below-differs _ _ (is.rising at-j.0 at-i.0 below at-i.1) (read-j ∙ sym same ∙ sym read-i)
        | (inr below) ↦
            let e : at-i.0 ≡ at-j.0 = omega arith in
            let f : i ≡ j = sym at-i.2 ∙ ap (λ k. get_or index k 0) e ∙ at-j.2 in
            absurd (omega arith)
      ]
    ]
