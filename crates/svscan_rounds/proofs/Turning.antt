-- Rounds, one after the other.
use Rattle.std.proofs.Common.{◌≡◌, ℕ, ◌+◌, ◌<◌, ◌≤◌, List, [], ◌∷◌, ◌++◌, length, flat_map, Option, Some, None, refl}
use Rattle.std.proofs.Common.{sym, ap, ◌∙◌, subst, append-nil, append_assoc, Bool, true, arith, inl, inr, length-append}
use Rattle.std.specs.Prelude.{All, IfSome, ◌-◌, map}
use Rattle.std.proofs.lemmas.List.Elements.{All-push}
use Rattle.std.proofs.lemmas.Grind.{flat_map-append}
use Rattle.tai_status.specs.Counted.{Device}
use Rattle.svscan_rounds.specs.Calls.{Call, Heard, Ended}
use Rattle.svscan_rounds.specs.Orders.{order_of, order_at}
use Rattle.svscan_rounds.specs.declared.service_set.Remaining.{Remaining}
use Rattle.svscan_rounds.specs.declared.orders.Order.{Order}
use Rattle.std.proofs.lemmas.List.{map-append}
use Rattle.tai_status.specs.Extended.{Extended}
use Rattle.svscan_rounds.specs.declared.orders.Order.TheVariants as order
use Rattle.svscan_rounds.specs.Rounds.{Effects, Round, GoesOn, Makes, Runs, EndsBy, ReportsAll, Turn, IsFollowed, Rests}
use Rattle.svscan_rounds.specs.Rounds.{Leaves, EndsAll, Close, Ends, EndsAsAsked, LeavesAsAsked, effects}
use Rattle.svscan_rounds.specs.Rounds.{calls_of, lines_of, calls_of_turn, calls_of_rest, calls_of_close}
use Rattle.svscan_rounds.specs.Rounds.{lines_along, listed_after, listed_along}
use Rattle.svscan_rounds.specs.Rounds.{lines_of_close, remaining_report, unlogged_report}
use Rattle.svscan_rounds.proofs.Reporting.{extended-then, extended-none, reports-then}

-- how many rounds are left after this many
abbrev pub IsLeft : (limit left : Option ℕ) (count : ℕ) → Type 0
IsLeft None left count = left ≡ None
IsLeft (Some n) None count = ⊥
IsLeft (Some n) (Some m) count = (0 < m) × (m + count ≡ n)

-- svscan continues after each of the rounds so far, each with its rest
pub record IsUnderWay (folder : List ℕ) (limit left : Option ℕ) (is_listed : Bool) (old now : Effects) : Type 0 where
  pub turns : List Turn
  pub followed : All IsFollowed turns
  pub calls : Extended old.calls now.calls (flat_map (calls_of_turn folder) turns)
  pub reported : ReportsAll (lines_along folder true turns) old.faults now.faults
  pub listed_is : is_listed ≡ listed_along true turns
  pub left_is : IsLeft limit left (length turns)

pub flat_map-push : {X A : Type 0} (f : X → List A) (xs : List X) (x : X) → flat_map f (xs ++ x ∷ []) ≡ flat_map f xs ++ f x
flat_map-push f xs x = flat_map-append f xs (x ∷ []) ∙ ap (λ l. flat_map f xs ++ l) (append-nil (f x))

-- the lines of one more turn
lines_along-push : (folder : List ℕ) (was : Bool) (turns : List Turn) (turn : Turn)
    → lines_along folder was (turns ++ turn ∷ [])
    ≡ lines_along folder was turns ++ lines_of folder (listed_along was turns) turn.round
lines_along-push folder was [] turn = append-nil (lines_of folder was turn.round)
lines_along-push folder was (first ∷ turns) turn =
    let after = listed_after was first.round in
    ap (λ l. lines_of folder was first.round ++ l) (lines_along-push folder after turns turn)
    ∙ sym (append_assoc (lines_of folder was first.round) (lines_along folder after turns)
    (lines_of folder (listed_along after turns) turn.round))

listed_along-push : (was : Bool) (turns : List Turn) (turn : Turn)
    → listed_along was (turns ++ turn ∷ []) ≡ listed_after (listed_along was turns) turn.round
listed_along-push was [] turn = refl
listed_along-push was (first ∷ turns) turn = listed_along-push (listed_after was first.round) turns turn

all_left : (limit : Option ℕ) → IfSome limit (λ rounds. 0 < rounds) → IsLeft limit limit 0
all_left None some = refl
all_left (Some n) some = (some, omega arith)

-- no round was made yet
pub way_none : (folder : List ℕ) (limit : Option ℕ) (old : Effects) → IfSome limit (λ rounds. 0 < rounds)
    → IsUnderWay folder limit limit true old old
way_none folder limit old some = record {
  turns = [];
  followed = (λ k d less. absurd (omega (arith, less)));
  calls = extended-none old.calls;
  reported = refl;
  listed_is = refl;
  left_is = all_left limit some;
}

-- the lines of the next round
reports_of : (folder : List ℕ) (limit left : Option ℕ) (was : Bool) (old mid now : Effects) (round : Round)
    → (way : IsUnderWay folder limit left was old mid) → Makes folder was round mid now
    → ReportsAll (lines_of folder (listed_along true way.turns) round) mid.faults now.faults
reports_of folder limit left was old mid now round way makes =
    subst (λ (b : Bool). ReportsAll (lines_of folder b round) mid.faults now.faults) way.listed_is makes.reported

-- one more round after which svscan continues, and its rest
pub way_more : (folder : List ℕ) (limit left after : Option ℕ) (was is : Bool) (old mid now new : Effects) (round : Round)
    → IsUnderWay folder limit left was old mid
    → Makes folder was round mid now → is ≡ listed_after was round → GoesOn round → Rests order.Round now.calls new.calls → new.faults ≡ now.faults
    → ((count : ℕ) → IsLeft limit left count → IsLeft limit after (count + 1))
    → IsUnderWay folder limit after is old new
way_more folder limit left after was is old mid now new round way makes listed on rests same less =
    let turn : Turn = record { round = round; rest = rests.rest } in
    record {
      turns = way.turns ++ turn ∷ [];
      followed = All-push IsFollowed way.turns turn way.followed (on, rests.decides);
      calls = subst (λ (l : List Call). Extended old.calls new.calls l)
          (sym (flat_map-push (calls_of_turn folder) way.turns turn))
          (extended-then old.calls mid.calls new.calls _ _ way.calls
          (extended-then mid.calls now.calls new.calls _ _ makes.calls rests.calls));
      reported = subst (λ (d : Device). ReportsAll (lines_along folder true (way.turns ++ turn ∷ [])) old.faults d)
          (sym same)
          (subst (λ (l : List (List ℕ)). ReportsAll l old.faults now.faults)
          (sym (lines_along-push folder true way.turns turn))
          (reports-then _ _ old.faults mid.faults now.faults way.reported
          (reports_of folder limit left was old mid now round way makes)));
      listed_is = listed ∙ ap (λ (b : Bool). listed_after b round) way.listed_is
          ∙ sym (listed_along-push true way.turns turn);
      left_is = subst (λ (n : ℕ). IsLeft limit after n) (sym (length-append way.turns (turn ∷ [])))
          (less (length way.turns) way.left_is);
    }

-- the last round, and the close
pub way_closes : (folder : List ℕ) (limit left : Option ℕ) (was : Bool) (status : ℕ) (old mid now new : Effects) (round : Round)
    (close : Close)
    → (way : IsUnderWay folder limit left was old mid) → Makes folder was round mid now
    → Extended now.calls new.calls (calls_of_close close)
    → ReportsAll (lines_of_close close) now.faults new.faults → EndsBy limit (length way.turns + 1) round close status
    → Runs folder limit status old new
way_closes folder limit left was status old mid now new round close way makes closed reported ends = record {
  turns = way.turns;
  last = round;
  close = close;
  followed = way.followed;
  calls = extended-then old.calls mid.calls new.calls _ _ way.calls
      (extended-then mid.calls now.calls new.calls _ _ makes.calls closed);
  reported = reports-then _ _ old.faults mid.faults new.faults way.reported
      (reports-then _ _ mid.faults now.faults new.faults
      (reports_of folder limit left was old mid now round way makes) reported);
  ends = ends;
}

within : (limit left : Option ℕ) (count : ℕ) → IsLeft limit left count → IfSome limit (λ rounds. count + 1 ≤ rounds)
within None left count is = tt
within (Some n) None count is = absurd is
within (Some n) (Some m) count is = omega arith

-- svscan does not continue after the last round
pub way_fails : (folder : List ℕ) (limit left : Option ℕ) (was : Bool) (old mid now new : Effects) (round : Round)
    → IsUnderWay folder limit left was old mid
    → Makes folder was round mid now → (GoesOn round → ⊥) → EndsAll now new → Runs folder limit 111 old new
way_fails folder limit left was old mid now new round way makes off ended =
    way_closes folder limit left was 111 old mid now new round (Ends ended.left ended.unlogged) way makes ended.calls
    ended.reported
    (inr (refl, off, within limit left (length way.turns) way.left_is))

last : (limit : Option ℕ) (count : ℕ) → IsLeft limit (Some 1) count → limit ≡ Some (count + 1)
last None count is = absurd cc
last (Some n) count is = let e : n ≡ count + 1 = omega arith in ap Some e

-- it was the last round that was asked for
pub way_done : (folder : List ℕ) (limit : Option ℕ) (was : Bool) (old mid now new : Effects) (round : Round)
    → IsUnderWay folder limit (Some 1) was old mid
    → Makes folder was round mid now → GoesOn round → EndsAll now new → Runs folder limit 0 old new
way_done folder limit was old mid now new round way makes on ended =
    way_closes folder limit (Some 1) was 0 old mid now new round (Ends ended.left ended.unlogged) way makes ended.calls
    ended.reported
    (inl (refl, on, last limit (length way.turns) way.left_is))

-- the end of all services was asked for in the rest
pub way_report : (folder : List ℕ) (limit left : Option ℕ) (was : Bool) (old mid now rested new : Effects) (round : Round)
    → IsUnderWay folder limit left was old mid
    → Makes folder was round mid now → GoesOn round → Rests order.End now.calls rested.calls → rested.faults ≡ now.faults
    → EndsAll rested new
    → Runs folder limit 0 old new
way_report folder limit left was old mid now rested new round way makes on rests same ended =
    way_closes folder limit left was 0 old mid now new round (EndsAsAsked rests.rest ended.left ended.unlogged) way makes
    (extended-then now.calls rested.calls new.calls _ _ rests.calls ended.calls)
    (subst (λ (d : Device). ReportsAll (lines_of_close (EndsAsAsked rests.rest ended.left ended.unlogged)) d new.faults)
    same ended.reported)
    (refl, on, rests.decides)

-- svscan's own end was asked for in the rest
pub way_left : (folder : List ℕ) (limit left : Option ℕ) (was : Bool) (old mid now rested new : Effects) (round : Round)
    → IsUnderWay folder limit left was old mid
    → Makes folder was round mid now → GoesOn round → Rests order.Leave now.calls rested.calls → rested.faults ≡ now.faults
    → Leaves rested new
    → Runs folder limit 0 old new
way_left folder limit left was old mid now rested new round way makes on rests same leaves =
    way_closes folder limit left was 0 old mid now new round (LeavesAsAsked rests.rest leaves.unlogged) way makes
    (extended-then now.calls rested.calls new.calls _ _ rests.calls leaves.calls)
    (subst (λ (d : Device). ReportsAll (map unlogged_report leaves.unlogged) d new.faults) same leaves.reported)
    (refl, on, rests.decides)

-- one fewer round is left
pub left-less : (limit : Option ℕ) (m : ℕ) → (m ≡ 1 → ⊥) → (count : ℕ) → IsLeft limit (Some m) count
    → IsLeft limit (Some (m - 1)) (count + 1)
left-less None m more count is = absurd cc
left-less (Some n) m more count is = (omega arith, omega arith)

pub left-none : (limit : Option ℕ) → (count : ℕ) → IsLeft limit None count → IsLeft limit None (count + 1)
left-none None count is = is
left-none (Some n) count is = is

-- a round was taken off those that are left
pub less-some : (limit left after : Option ℕ) (m : ℕ) → left ≡ Some m → after ≡ Some (m - 1) → (m ≡ 1 → ⊥)
    → (count : ℕ) → IsLeft limit left count → IsLeft limit after (count + 1)
less-some limit left after m is is_after more count h =
    subst (λ (o : Option ℕ). IsLeft limit o (count + 1)) (sym is_after)
    (left-less limit m more count (subst (λ (o : Option ℕ). IsLeft limit o count) is h))

-- there is no limit
pub less-none : (limit left after : Option ℕ) → left ≡ None → after ≡ left → (count : ℕ) → IsLeft limit left count
    → IsLeft limit after (count + 1)
less-none limit left after is same count h =
    subst (λ (o : Option ℕ). IsLeft limit o (count + 1)) (sym (same ∙ is))
    (left-none limit count (subst (λ (o : Option ℕ). IsLeft limit o count) is h))

-- Within a rest

-- only bytes came that ask for nothing
abbrev pub heard_byte : ℕ → Call
heard_byte byte = Heard (Some byte)

pub record HasPassed (old now : Option (List Call)) : Type 0 where
  pub passed : List ℕ
  pub nothing : All (λ byte. order_of byte ≡ None) passed
  pub calls : Extended old now (map heard_byte passed)

pub passed-none : (old : Option (List Call)) → HasPassed old old
passed-none old = record {
  passed = [];
  nothing = (λ k d less. absurd (omega (arith, less)));
  calls =
      extended-none old;
}

pub passed-more : (old mid new : Option (List Call)) (byte : ℕ) → HasPassed old mid
    → Extended mid new (Heard (Some byte) ∷ [])
    → order_of byte ≡ None → HasPassed old new
passed-more old mid new byte so_far heard is = record {
  passed = so_far.passed ++ byte ∷ [];
  nothing = All-push (λ b. order_of b ≡ None) so_far.passed byte so_far.nothing is;
  calls = subst (λ (l : List Call). Extended old new l) (sym (map-append heard_byte so_far.passed (byte ∷ [])))
      (extended-then old mid new _ _ so_far.calls heard);
}

pub passed-rests : (order : Order) (old mid new : Option (List Call)) (last : Option ℕ) → HasPassed old mid
    → Extended mid new (Heard last ∷ []) → order_at last ≡ Some order → Rests order old new
passed-rests order old mid new last so_far heard is = record {
  rest = record { passed = so_far.passed; last = last };
  decides = record { passed = so_far.nothing; last = is };
  calls = extended-then old mid new _ _ so_far.calls heard;
}

-- Within the end of all services

-- each time some still ran, and were reported
abbrev pub still_left : List Remaining → Call
still_left some = Ended (Some some)

pub record IsEnding (old now : Effects) : Type 0 where
  pub left : List (List Remaining)
  pub calls : Extended old.calls now.calls (map still_left left)
  pub reported : ReportsAll (flat_map (map remaining_report) left) old.faults now.faults

pub ending-none : (old : Effects) → IsEnding old old
ending-none old = record { left = []; calls = extended-none old.calls; reported = refl }

pub ending-more : (old mid new : Effects) (some : List Remaining) → IsEnding old mid
    → Extended mid.calls new.calls (Ended (Some some) ∷ [])
    → ReportsAll (map remaining_report some) mid.faults new.faults → IsEnding old new
ending-more old mid new some so_far ended reported = record {
  left = so_far.left ++ some ∷ [];
  calls = subst (λ (l : List Call). Extended old.calls new.calls l)
      (sym (map-append still_left so_far.left (some ∷ [])))
      (extended-then old.calls mid.calls new.calls _ _ so_far.calls ended);
  reported = subst (λ (l : List (List ℕ)). ReportsAll l old.faults new.faults)
      (sym (flat_map-push (map remaining_report) so_far.left some))
      (reports-then _ _ old.faults mid.faults new.faults so_far.reported reported);
}

pub ending-ends : (old mid now new : Effects) → IsEnding old mid → Extended mid.calls now.calls (Ended None ∷ [])
    → now.faults ≡ mid.faults
    → Leaves now new → EndsAll old new
ending-ends old mid now new so_far ended same leaves = record {
  left = so_far.left;
  unlogged = leaves.unlogged;
  calls = extended-then old.calls mid.calls new.calls _ _ so_far.calls
      (extended-then mid.calls now.calls new.calls _ _ ended leaves.calls);
  reported = reports-then _ _ old.faults mid.faults new.faults so_far.reported
      (subst (λ (d : Device). ReportsAll (map unlogged_report leaves.unlogged) d new.faults) same leaves.reported);
}
