-- What a step shows, in the words of the clauses.
use Rattle.std.specs.Prelude.{All}
use Rattle.std.proofs.Common.{◌≡◌, ℕ, ◌<◌, List, [], ◌∷◌, ◌++◌, length, map, sym, refl, ap, ◌∙◌, subst, append_assoc}
use Rattle.std.proofs.Common.{length-append, arith}
use Rattle.std.proofs.lemmas.List.{append-nil, map_push}
use Rattle.crossbeam_queue.specs.Fifo.{Held}
use Rattle.svc_mail.specs.declared.letter.Letter.{Letter}
use Rattle.svc_mail.specs.declared.rule.Knows.{Knows}
use Rattle.svc_mail.specs.History.{row_of, IsHistory, StartsWith, IsAmong}
use mathlib.Core.Option.{some}
use lib.ListN.{get_elem?}
use Rattle.svc_mail.specs.Kept.{poster, taker, MayBe, IsWhole, IsSettled}
use Rattle.svc_mail.proofs.Lengths.{same_length}

pub no_items : {X : Type 0} (items : List X) → length items ≡ 0 → items ≡ []
no_items [] e = refl
no_items (x ∷ xs) e = absurd (omega arith)

module _ {T : Type 0} where
  -- if the box holds nothing, what was taken is the whole history
  pub taken_all : (v : Knows T) → Held 0 (λ items. IsWhole v (v.taken ++ items)) → IsWhole v v.taken
  taken_all v h = subst (λ l. IsWhole v l) (ap (λ l. v.taken ++ l) (no_items h.0 h.1) ∙ append-nil v.taken) h.2

  -- the receiver knows this, in the clause's words
  pub found_empty : (v : Knows T) → Held 0 (λ items. IsWhole v (v.taken ++ items)) → IsHistory v.taken
      × IsAmong v.all v.taken × StartsWith v.taken v.seen × All (StartsWith v.taken) v.heard
  found_empty v h = let a = taken_all v h in (a.0, a.1, a.2, a.4)

  -- if all senders have ended, the length of the history is known
  pub settles : (v : Knows T)
      → ((k : ℕ) → k < v.all → (i : ℕ) × (row : List T) × (seen : List (Letter T))
      × (get_elem? v.ended i ≡ some (k, row, seen))) → IsSettled v
  settles v each l m a b = same_length v.all l m a.1 b.1 (λ k lt. let e = each k lt in sym (a.3 e.0 k e.1 e.2 e.3).0
      ∙ (b.3 e.0 k e.1 e.2 e.3).0)

  -- what is known later was known before
  pub earlier : (v w : Knows T) (t log : List (Letter T)) → w ≡ taker v.all v.made t v.ended w.seen v.heard
      → StartsWith w.seen v.seen → IsWhole w log → IsWhole v log
  earlier v w t log e s h =
      let h' : IsWhole (taker v.all v.made t v.ended w.seen v.heard) log = subst (λ u. IsWhole u log) e h in
      (h'.0, h'.1, (s.0 ++ h'.2.0, h'.2.1 ∙ ap (λ l. l ++ h'.2.0) s.1 ∙ append_assoc v.seen s.0 h'.2.0), h'.3, h'.4)

  -- nothing is left after as many letters were taken as were left
  pub drained : (v w : Knows T) (letters : List (Letter T)) (left : ℕ) → IsSettled v
      → w ≡ taker v.all v.made (v.taken ++ letters) v.ended w.seen v.heard → StartsWith w.seen v.seen
      → length letters ≡ left → Held left (λ items. IsWhole v (v.taken ++ items)) → (items : List (Letter T))
      → IsWhole w (w.taken ++ items) → IsWhole v (v.taken ++ letters)
  drained v w letters left settled e s n first items last =
      let t : w.taken ≡ v.taken ++ letters = ap (λ (u : Knows T). u.taken) e in
      let last' : IsWhole v ((v.taken ++ letters) ++ items) =
      earlier v w (v.taken ++ letters) ((v.taken ++ letters) ++ items) e s
      (subst (λ l. IsWhole w (l ++ items)) t last) in
      let q : length (v.taken ++ first.0) ≡ length ((v.taken ++ letters) ++ items) =
      settled (v.taken ++ first.0) ((v.taken ++ letters) ++ items) first.2 last' in
      let m : length first.0 ≡ left = first.1 in
      let none_left : length items ≡ 0 =
      omega (
        arith,
        length-append v.taken first.0,
        length-append (v.taken ++ letters) items,
        length-append v.taken letters,
      ) in
      subst (λ l. IsWhole v l) (ap (λ l. (v.taken ++ letters) ++ l) (no_items items none_left)
      ∙ append-nil (v.taken ++ letters)) last'

  -- nothing is left if the box was found empty
  pub emptied : (v w : Knows T) (letters : List (Letter T))
      → w ≡ taker v.all v.made (v.taken ++ letters) v.ended w.seen v.heard → StartsWith w.seen v.seen
      → Held 0 (λ items. IsWhole w (w.taken ++ items)) → IsWhole v (v.taken ++ letters)
  emptied v w letters e s h =
      earlier v w (v.taken ++ letters) (v.taken ++ letters) e s
      (subst (λ l. IsWhole w l) (ap (λ (u : Knows T). u.taken) e) (taken_all w h))

  -- what a sender knows after a step
  pub poster_again : (w : Knows T) (all n m : ℕ) (row : List T) (seen : List (Letter T))
      (heard : List (List (Letter T)))
      → w ≡ poster all n row seen heard → n ≡ m → w ≡ poster w.all m w.row w.seen w.heard
  poster_again w all n m row seen heard e same =
      e ∙ (λ i. poster (sym e i).all (same i) (sym e i).row (sym e i).seen (sym e i).heard)

  -- what the receiver knows after a step
  pub taker_again : (w : Knows T) (all made : ℕ) (taken : List (Letter T)) (ended : List (ℕ × List T × List (Letter T)))
      (seen : List (Letter T))
      (heard : List (List (Letter T))) → w ≡ taker all made taken ended seen heard → made ≡ all → ended ≡ []
      → w ≡ taker w.all w.all w.taken [] w.seen w.heard
  taker_again w all made taken ended seen heard e same none =
      e ∙ (λ i. taker (sym e i).all ((same ∙ sym (ap (λ (u : Knows T). u.all) e)) i) (sym e i).taken (none i)
      (sym e i).seen (sym e i).heard)

  -- if the box was full, the sender knows it, in the clause's words
  pub found_full : (v : Knows T) (held room number : ℕ)
      → Held held (λ items. (taken : List (Letter T)) × MayBe v taken (taken ++ items)) → held ≡ room
      → v.number ≡ number
      → (taken items : List (Letter T)) × (length items ≡ room) × IsHistory (taken ++ items)
      × IsAmong v.all (taken ++ items)
      × (v.row ≡ row_of number (taken ++ items)) × StartsWith (taken ++ items) v.seen × All (StartsWith taken) v.heard
  found_full v held room number h same is = (
    h.2.0,
    h.0,
    h.1 ∙ same,
    h.2.1.0,
    h.2.1.1,
    h.2.1.2 ∙ ap (λ n. row_of n (h.2.0 ++ h.0)) is,
    h.2.1.3,
    h.2.1.4,
  )

  -- after one more sender has ended
  pub ended_more : {S : Type 0} (known : S → ℕ × List T × List (Letter T)) (first v w after : Knows T) (ss : List S)
      (s : S)
      → v ≡ taker first.all first.made first.taken (map known ss) first.seen first.heard
      → after ≡ taker v.all v.made v.taken (v.ended ++ (w.number, w.row, w.seen) ∷ []) v.seen v.heard
      → (w.number, w.row, w.seen) ≡ known s
      → after ≡ taker first.all first.made first.taken (map known (ss ++ s ∷ [])) first.seen first.heard
  ended_more known first v w after ss s so_far step is =
      let more : map known ss ++ (w.number, w.row, w.seen) ∷ [] ≡ map known (ss ++ s ∷ []) =
      ap (λ r. map known ss ++ r ∷ []) is ∙ sym (map_push known ss s) in
      step
      ∙ (λ i. taker (so_far i).all (so_far i).made (so_far i).taken ((so_far i).ended ++ (w.number, w.row, w.seen) ∷ [])
      (so_far i).seen (so_far i).heard)
      ∙ ap (λ ended. taker first.all first.made first.taken ended first.seen first.heard) more

  -- after one more letter was taken
  pub taken_more : (first v w : Knows T) (letters more : List (Letter T)) (x : Letter T)
      → v ≡ taker first.all first.made (first.taken ++ letters) first.ended v.seen first.heard
      → w ≡ taker v.all v.made (v.taken ++ x ∷ []) v.ended w.seen v.heard → more ≡ letters ++ x ∷ []
      → w ≡ taker first.all first.made (first.taken ++ more) first.ended w.seen first.heard
  taken_more first v w letters more x so_far step is =
      let taken : (first.taken ++ letters) ++ x ∷ [] ≡ first.taken ++ more = append_assoc first.taken letters (x ∷ [])
      ∙ ap (λ l. first.taken ++ l) (sym is) in
      step ∙ (λ i. taker (so_far i).all (so_far i).made ((so_far i).taken ++ x ∷ []) (so_far i).ended w.seen
      (so_far i).heard)
      ∙ ap (λ t. taker first.all first.made t first.ended w.seen first.heard) taken

  pub starts_through : (log middle front : List (Letter T)) → StartsWith log middle → StartsWith middle front
      → StartsWith log front
  starts_through log middle front a b = (b.0 ++ a.0, a.1 ∙ ap (λ l. l ++ a.0) b.1 ∙ append_assoc front b.0 a.0)
