-- What rounds found: each service is left, or a look found it.
use Rattle.std.proofs.Common.{◌≡◌, ℕ, List, [], ◌∷◌, ◌++◌, ◌⊎◌, refl, sym, ◌∙◌, subst, inl, inr, append-nil, Option}
use Rattle.svc_client.specs.Calls.{Call}
use Rattle.cmd_wait.specs.Finding.{Awaited, finding_of}
use Rattle.cmd_wait.specs.Watching.{Watched}
use Rattle.cmd_wait.specs.Words.{Order}
use Rattle.cmd_wait.specs.Rounds.{Look, LooksAt, seen, left_at, left_by, Waits, none, more, looks_of, IsAmong}
use Rattle.cmd_wait.specs.Rounds.{IsFound}
use Rattle.cmd_wait.specs.declared.finding.Goal.{Goal}
use Rattle.cmd_wait.specs.declared.finding.Finding.{Finding}
use Rattle.cmd_wait.specs.declared.finding.Finding.TheVariants.{Reached, Waiting, Failed}

found-first : (goal : Goal) (one : Awaited) (xs ys : List Look) → IsFound goal one xs
    → IsFound goal one (xs ++ ys)
found-first goal one [] ys h = absurd h
found-first goal one (x ∷ xs) ys (inl h) = inl h
found-first goal one (x ∷ xs) ys (inr h) = inr (found-first goal one xs ys h)

found-later : (goal : Goal) (one : Awaited) (xs ys : List Look) → IsFound goal one ys
    → IsFound goal one (xs ++ ys)
found-later goal one [] ys h = h
found-later goal one (x ∷ xs) ys h = inr (found-later goal one xs ys h)

among-later : (one : Awaited) (xs ys : List Awaited) → IsAmong one ys → IsAmong one (xs ++ ys)
among-later one [] ys h = h
among-later one (x ∷ xs) ys h = inr (among-later one xs ys h)

-- one look: it found the service, or left it
here : (goal : Goal) (look : Look) (looks : List Look) (one : Awaited) (finding : Finding)
    → finding_of goal look.service.mark look.sighting ≡ finding → look.service ≡ one
    → IsFound goal one (look ∷ looks) ⊎ IsAmong one (left_at look.service finding ++ left_by goal looks)
here goal look looks one Reached is e =
    inl (inl (e, subst (λ (other : Awaited). finding_of goal other.mark look.sighting ≡ Reached) e is))
here goal look looks one Waiting is e = inr (inl e)
here goal look looks one (Failed fault) is e = inr (inl e)

-- looks
pub found-or-left : (goal : Goal) (looks : List Look) (one : Awaited) → IsAmong one (seen looks)
    → IsFound goal one looks ⊎ IsAmong one (left_by goal looks)
found-or-left goal [] one h = absurd h
found-or-left goal (look ∷ looks) one (inl e) = here goal look looks one (finding_of goal look.service.mark look.sighting) refl e
found-or-left goal (look ∷ looks) one (inr h) = elim (found-or-left goal looks one h) [
  | inl found ↦ inl (inr found)
  | inr left ↦ inr (among-later one (left_at look.service (finding_of goal look.service.mark look.sighting)) (left_by goal looks) left)
]

-- a round
pub round-found : (goal : Goal) (services left : List Awaited) (a b : Option (List Call))
    (h : LooksAt goal services left [] a b) (one : Awaited)
    → IsAmong one services → IsFound goal one h.looks ⊎ IsAmong one left
round-found goal services left a b h one among =
    let all : services ≡ seen h.looks = h.split ∙ append-nil (seen h.looks) in
    elim (found-or-left goal h.looks one (subst (λ (l : List Awaited). IsAmong one l) all among)) [
      | inl found ↦ inl found
      | inr still ↦ inr (subst (λ (l : List Awaited). IsAmong one l) (sym h.left_is) still)
    ]

-- rounds
pub waits-found : {order : Order} {begin : ℕ} {services : List Awaited} {old : Watched} {left : List Awaited}
    {now : Watched} (w : Waits order begin services old left now) (one : Awaited)
    → IsAmong one services → IsFound order.goal one (looks_of w) ⊎ IsAmong one left
waits-found none one among = inr among
waits-found {order = order} (more w r) one among = elim (waits-found w one among) [
  | inl found ↦ inl (found-first order.goal one (looks_of w) r.takes.looked.looks found)
  | inr still ↦ elim (round-found order.goal _ _ _ _ r.takes.looked one still) [
    | inl found ↦ inl (found-later order.goal one (looks_of w) r.takes.looked.looks found)
    | inr after ↦ inr after
  ]
]

-- rounds, and a last one that leaves nothing
pub all-found : {order : Order} {begin : ℕ} {services : List Awaited} {old : Watched} {left : List Awaited}
    {now : Watched} (w : Waits order begin services old left now)
    (a b : Option (List Call)) (h : LooksAt order.goal left [] [] a b) (one : Awaited)
    → IsAmong one services → IsFound order.goal one (looks_of w ++ h.looks)
all-found {order = order} {left = left} w a b h one among = elim (waits-found w one among) [
  | inl found ↦ found-first order.goal one (looks_of w) h.looks found
  | inr still ↦ elim (round-found order.goal left [] a b h one still) [
    | inl found ↦ found-later order.goal one (looks_of w) h.looks found
    | inr nothing ↦ absurd nothing
  ]
]
