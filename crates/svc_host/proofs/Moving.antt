-- What a host does is a run: one move after the other.
use Rattle.std.proofs.Common.{◌≡◌, inl, inr, ℕ, zero, suc, Bool, true, false, List, [], ◌∷◌, ◌++◌, map, refl, sym, ap}
use Rattle.std.proofs.Common.{◌∙◌, subst, append_assoc, append-nil, Option, length, slice_index_or, slice_set, arith}
use Rattle.std.specs.Prelude.{◌<◌, MatchBool, Result, Ok, Err, OnOk, OnErr}
use Rattle.tai_status.specs.Label.{Tai64n}
use Rattle.sup_core.specs.declared.event.Event.{Event}
use Rattle.sup_core.specs.History.{History, Opened}
use Rattle.sup_core.specs.Runs.{AreTaken, followed_by}
use Rattle.sup_core.proofs.Laws.{followed_by-append}
use Rattle.scan_table.specs.declared.part.PartId.{PartId}
use Rattle.scan_table.specs.Slots.{Row}
use Rattle.scan_table.specs.Table.{TableState, after_end}
use Rattle.svc_host.specs.declared.host.HostOut.{HostOut}
use Rattle.svc_host.specs.declared.ending.EndStep.{EndStep}
use Rattle.svc_host.specs.declared.ending.EndStep.TheVariants.{Stop, Exit, Wait}
use Rattle.svc_host.specs.Calls.{Call}
use Rattle.svc_host.specs.Ending.{EndSteps, EndsNext, IsEndStep, PostsDown, PostsExit, PostsStep, next_step}
use Rattle.svc_host.specs.HostRun.{AreAsKnown, CameToBe, Ends, Hears, HostRun, IsAsKnown, Move, Runs, Scans, Stays}
use Rattle.svc_host.specs.Parts.{AreEach, AreHeard, HasPosted, HostPart, IsHeard, IsPost, Tells, history_of}
use Rattle.svc_host.specs.Parts.{service_runs}
use Rattle.svc_host.specs.Parts.{without_loss}
use Rattle.svc_host.specs.Rounds.{AreCollected, AreReaped, HostState, IsReaped, IsScanned, after_ends}
use Rattle.svc_host.proofs.Going.{each_same, each_so, each_then, one_changes, tells_none, tells_then}

-- Runs

run_append : (xs ys : List Move) (a b c : HostState) → HostRun xs a b → HostRun ys b c → HostRun (xs ++ ys) a c
run_append [] ys a b c one two = subst (λ (s : HostState). HostRun ys s c) one two
run_append (x ∷ xs) ys a b c one two = (one.0, one.1, run_append xs ys one.0 b c one.2 two)

pub runs_then : (a b c : HostState) → Runs a b → Runs b c → Runs a c
runs_then a b c one two = record {
  moves = one.moves ++ two.moves;
  run = run_append one.moves two.moves a b c one.run two.run;
}

-- the same for a state that is reached under another name
pub runs_through : (old mid same new : HostState) → Runs old mid → same ≡ mid → Runs same new → Runs old new
runs_through old mid same new one is two =
    runs_then old mid new one (subst (λ (host : HostState). Runs host new) is two)

pub runs_same : (old new : HostState) → new ≡ old → Runs old new
runs_same old new same = record { moves = []; run = same }

pub came_then : (old new : HostState) → CameToBe old → Runs old new → CameToBe new
came_then old new came runs = record { calls = came.calls; runs = runs_then _ old new came.runs runs }

one_move : (move : Move) (old new : HostState) → HostRun (move ∷ []) old new → Runs old new
one_move move old new run = record { moves = move ∷ []; run = run }

-- What changes nothing

as_known : (part : HostPart) → IsAsKnown part part
as_known part = record { id = refl; station = refl; known = refl; has_ended = refl }

all_as_known : (parts : List HostPart) → AreAsKnown parts parts
all_as_known [] = tt
all_as_known (part ∷ parts) = (as_known part, all_as_known parts)

pub stays : (old new : HostState) → new.table ≡ old.table → AreAsKnown old.parts new.parts → Runs old new
stays old new table parts = one_move Stays old new (new, (table, parts), refl)

-- only the maker was asked
pub asks : (old new : HostState) → new.table ≡ old.table → new.parts ≡ old.parts → Runs old new
asks old new table parts =
    stays old new table (subst (AreAsKnown old.parts) (sym parts) (all_as_known old.parts))

posted_as_known : (old : HostPart) (byte : ℕ) (new : HostPart) → HasPosted old byte new → IsAsKnown old new
posted_as_known old byte new is =
    record { id = is.id; station = is.station; known = is.known; has_ended = is.has_ended }

posts_run : (old new : HostState) (id : PartId) (byte : ℕ) → new.table ≡ old.table
    → IsPost old.parts id byte new.parts → Runs old new
posts_run old new id byte table is =
    stays old new table (subst (AreAsKnown old.parts) (sym is.parts)
    (one_changes IsAsKnown as_known old.parts is.place is.part
    (λ d. posted_as_known (slice_index_or old.parts is.place d) byte is.part (is.here d))))

-- a byte was to be posted
pub post_runs : {A E : Type 0} (old new : HostState) (id : PartId) (byte : ℕ) (answer : Result A E)
    → new.table ≡ old.table → OnOk answer (IsPost old.parts id byte new.parts) → OnErr answer (new.parts ≡ old.parts)
    → Runs old new
post_runs old new id byte (Ok done) table posted refused = posts_run old new id byte table posted
post_runs old new id byte (Err fault) table posted refused = asks old new table refused

forgets_as_known : (parts : List HostPart) → AreAsKnown parts (map without_loss parts)
forgets_as_known [] = tt
forgets_as_known (part ∷ parts) =
    (record { id = refl; station = refl; known = refl; has_ended = refl }, forgets_as_known parts)

pub forgets_run : (old new : HostState) → new.table ≡ old.table → new.parts ≡ map without_loss old.parts
    → Runs old new
forgets_run old new table parts =
    stays old new table (subst (AreAsKnown old.parts) (sym parts) (forgets_as_known old.parts))

-- Events that are read

-- More of its events may be known. It still runs, or is still joined.
pub record KnowsMore (old new : HostPart) : Type 0 where
  pub id : new.id ≡ old.id
  pub station : new.station ≡ old.station
  pub known : Tells (history_of old) old.known new.known
  pub has_ended : new.has_ended ≡ old.has_ended

heard_more : (old new : HostPart) → IsHeard old new → KnowsMore old new
heard_more old new is = record {
  id = is.goes_on.id;
  station = is.goes_on.station;
  known = is.goes_on.known;
  has_ended = is.has_ended;
}

abbrev with_parts : HostState → List HostPart → HostState
with_parts host parts = record host { parts = parts }

abbrev heard : HostPart → Event → HostPart
heard part event = record part { known = part.known ++ event ∷ [] }

one_as_known : (before : List HostPart) (old new : HostPart) (after : List HostPart) → IsAsKnown old new
    → AreAsKnown (before ++ old ∷ after) (before ++ new ∷ after)
one_as_known [] old new after is = (is, all_as_known after)
one_as_known (part ∷ before) old new after is = (as_known part, one_as_known before old new after is)

hears_more : (host : HostState) (before after : List HostPart) (old new : HostPart) (more : List Event)
    → new.id ≡ old.id → new.station ≡ old.station → new.has_ended ≡ old.has_ended → new.known ≡ old.known ++ more
    → AreTaken (history_of old) more
    → HostRun (map (λ (event : Event). Hears event) more ++ Stays ∷ []) (with_parts host (before ++ old ∷ after))
    (with_parts host (before ++ new ∷ after))
hears_more host before after old new [] id station ended known taken = (
  with_parts host (before ++ new ∷ after),
  (
    refl,
    one_as_known before old new after (record {
      id = id;
      station = station;
      known = known ∙ append-nil old.known;
      has_ended = ended;
    }),
  ),
  refl,
)
hears_more host before after old new (event ∷ more) id station ended known taken = (
  with_parts host (before ++ heard old event ∷ after),
  (
    refl,
    record {
      before = before;
      old = old;
      new = heard old event;
      after = after;
      olds_are = refl;
      news_are = refl;
      changed = record {
        id = refl;
        station = refl;
        is = taken.0;
        taken = taken.1;
        known = refl;
        has_ended = refl;
      };
    },
  ),
  hears_more host before after (heard old event) new more id station ended
      (known ∙ sym (append_assoc old.known (event ∷ []) more))
      (subst (λ (past : History). AreTaken past more)
      (sym (followed_by-append (Opened old.station.opening) old.known (event ∷ []))) taken.2),
)

knows_more : (host : HostState) (before after : List HostPart) (old new : HostPart) → KnowsMore old new
    → Runs (with_parts host (before ++ old ∷ after)) (with_parts host (before ++ new ∷ after))
knows_more host before after old new is = record {
  moves = map (λ (event : Event). Hears event) is.known.more ++ Stays ∷ [];
  run = hears_more host before after old new is.known.more is.id is.station is.has_ended is.known.known is.known.taken;
}

all_know_more : (host : HostState) (before olds news : List HostPart) → AreEach KnowsMore olds news
    → Runs (with_parts host (before ++ olds)) (with_parts host (before ++ news))
all_know_more host before [] [] each = runs_same _ _ refl
all_know_more host before [] (new ∷ news) each = absurd each
all_know_more host before (old ∷ olds) [] each = absurd each
all_know_more host before (old ∷ olds) (new ∷ news) each =
    let rest = all_know_more host (before ++ new ∷ []) olds news each.1 in
    let here = subst (λ (parts : List HostPart). Runs (with_parts host parts)
    (with_parts host ((before ++ new ∷ []) ++ news))) (append_assoc before (new ∷ []) olds) rest in
    runs_then _ _ _ (knows_more host before olds old new each.0)
    (subst (λ (parts : List HostPart). Runs (with_parts host (before ++ new ∷ olds)) (with_parts host parts))
    (append_assoc before (new ∷ []) news) here)

pub each_runs : (old new : HostState) → new.table ≡ old.table → AreEach KnowsMore old.parts new.parts → Runs old new
each_runs old new table each =
    runs_then old (with_parts old new.parts) new (all_know_more old [] old.parts new.parts each)
    (asks (with_parts old new.parts) new table refl)

pub heard_runs : (old new : HostState) → new.table ≡ old.table → AreHeard old.parts new.parts → Runs old new
heard_runs old new table each =
    each_runs old new table (each_so IsHeard KnowsMore heard_more old.parts new.parts each)

-- Threads that are joined

abbrev with_table : HostState → TableState → List HostPart → HostState
with_table host table parts = record host { table = table; parts = parts }

reaped_runs : (host : HostState) (table : TableState) (before after : List HostPart) (old new : HostPart)
    → IsReaped old new
    → Runs (with_table host table (before ++ old ∷ after))
    (with_table host (after_end table old.id) (before ++ new ∷ after))
reaped_runs host table before after old new is =
    let mid : HostPart = record new { has_ended = false } in
    runs_then _ (with_table host table (before ++ mid ∷ after)) _
    (knows_more (record host { table = table }) before after old mid (record {
      id = is.goes_on.id;
      station = is.goes_on.station;
      known = is.goes_on.known;
      has_ended = sym is.ran;
    }))
    (one_move (Ends old.id) _ _ (
      with_table host (after_end table old.id) (before ++ new ∷ after),
      (
        refl,
        record {
          before = before;
          old = mid;
          new = new;
          after = after;
          olds_are = refl;
          news_are = refl;
          changed = record {
            was = is.goes_on.id;
            is = is.goes_on.id;
            station = refl;
            known = refl;
            gone = is.gone;
            ran = refl;
            ended = is.joined.ended;
          };
        },
      ),
      refl,
    ))

reap_at : (host : HostState) (table : TableState) (before parts : List HostPart) (place : ℕ) (part : HostPart)
    → place < length parts → IsReaped (slice_index_or parts place part) part
    → Runs (with_table host table (before ++ parts))
    (with_table host (after_end table (slice_index_or parts place part).id) (before ++ slice_set parts place part))
reap_at host table before [] place part within is = absurd (omega (arith, within))
reap_at host table before (other ∷ parts) zero part within is = reaped_runs host table before parts other part is
reap_at host table before (other ∷ parts) (suc place) part within is =
    let end = after_end table (slice_index_or parts place part).id in
    let rest = reap_at host table (before ++ other ∷ []) parts place part (omega (arith, within)) is in
    subst (λ (l : List HostPart). Runs (with_table host table (before ++ other ∷ parts)) (with_table host end l))
    (append_assoc before (other ∷ []) (slice_set parts place part))
    (subst (λ (l : List HostPart). Runs (with_table host table l)
    (with_table host end ((before ++ other ∷ []) ++ slice_set parts place part)))
    (append_assoc before (other ∷ []) parts) rest)

-- the thread of the part at a place was joined
pub reap_runs : (old new : HostState) (place : ℕ) (part : HostPart) → place < length old.parts
    → IsReaped (slice_index_or old.parts place part) part
    → new.table ≡ after_end old.table (slice_index_or old.parts place part).id
    → new.parts ≡ slice_set old.parts place part → Runs old new
reap_runs old new place part within is table parts =
    let mid = with_table old (after_end old.table (slice_index_or old.parts place part).id)
    (slice_set old.parts place part) in
    runs_then old mid new (reap_at old old.table [] old.parts place part within is) (asks mid new table parts)

joins_all : (host : HostState) (table : TableState) (joined : List PartId) (before olds news : List HostPart)
    → AreReaped joined olds news
    → Runs (with_table host table (before ++ olds)) (with_table host (after_ends joined table) (before ++ news))
joins_all host table joined before [] [] is =
    runs_same _ _ (ap (λ (ids : List PartId). with_table host (after_ends ids table) (before ++ [])) is)
joins_all host table joined before [] (new ∷ news) is = absurd is
joins_all host table joined before (old ∷ olds) [] is = absurd is
joins_all host table joined before (old ∷ olds) (new ∷ news) (inl is) =
    let rest = joins_all host table joined (before ++ old ∷ []) olds news is.1 in
    subst (λ (parts : List HostPart). Runs (with_table host table (before ++ old ∷ olds))
    (with_table host (after_ends joined table) parts))
    (append_assoc before (old ∷ []) news ∙ ap (λ (part : HostPart). before ++ part ∷ news) (sym is.0))
    (subst (λ (parts : List HostPart). Runs (with_table host table parts)
    (with_table host (after_ends joined table) ((before ++ old ∷ []) ++ news))) (append_assoc before (old ∷ []) olds)
    rest)
joins_all host table joined before (old ∷ olds) (new ∷ news) (inr is) =
    let next = after_end table old.id in
    let rest = joins_all host next is.0 (before ++ new ∷ []) olds news is.3 in
    let here = subst (λ (parts : List HostPart). Runs (with_table host next parts)
    (with_table host (after_ends is.0 next) (before ++ new ∷ news))) (append_assoc before (new ∷ []) olds)
    (subst (λ (parts : List HostPart). Runs (with_table host next ((before ++ new ∷ []) ++ olds))
    (with_table host (after_ends is.0 next) parts)) (append_assoc before (new ∷ []) news) rest) in
    subst (λ (ids : List PartId). Runs (with_table host table (before ++ old ∷ olds))
    (with_table host (after_ends ids table) (before ++ new ∷ news))) (sym is.1)
    (runs_then _ _ _ (reaped_runs host table before olds old new is.2) here)

pub collected_runs : (old new : HostState) → AreCollected old new → Runs old new
collected_runs old new is =
    let joined = with_table old (after_ends is.joined old.table) new.parts in
    runs_then old joined new (joins_all old old.table is.joined [] old.parts new.parts is.each)
    (asks joined new is.table refl)

-- A scan

pub scanned_runs : (old new : HostState) (rows : List Row) (label : Tai64n) (out : HostOut)
    → IsScanned old rows label out new → Runs old new
scanned_runs old new rows label out is = one_move (Scans rows label out) old new (new, is, refl)

-- The end of all services

down_as_known : (old new : HostPart) → PostsDown old new → IsAsKnown old new
down_as_known old new (inl is) = subst (IsAsKnown old) (sym is.1) (as_known old)
down_as_known old new (inr (inl is)) =
    subst (IsAsKnown old) (sym is.3) (record {
      id = is.2.id;
      station = is.2.station;
      known = is.2.known;
      has_ended = is.2.has_ended;
    })
down_as_known old new (inr (inr is)) = subst (IsAsKnown old) (sym is.1.0) (as_known old)

exit_as_known : (old new : HostPart) → PostsExit old new → IsAsKnown old new
exit_as_known old new (inl is) = subst (IsAsKnown old) (sym is.1) (as_known old)
exit_as_known old new (inr (inl is)) =
    subst (IsAsKnown old) (sym is.3) (record {
      id = is.2.id;
      station = is.2.station;
      known = is.2.known;
      has_ended = is.2.has_ended;
    })
exit_as_known old new (inr (inr is)) = subst (IsAsKnown old) (sym is.1.0) (as_known old)

as_known_then : (a b c : HostPart) → IsAsKnown a b → IsAsKnown b c → IsAsKnown a c
as_known_then a b c p q = record {
  id = q.id ∙ p.id;
  station = q.station ∙ p.station;
  known = q.known ∙ p.known;
  has_ended = q.has_ended ∙ p.has_ended;
}

exit_if : (was : Bool) (down new : HostPart) → MatchBool was (PostsExit down new) (new ≡ down) → IsAsKnown down new
exit_if true down new is = exit_as_known down new is
exit_if false down new is = subst (IsAsKnown down) (sym is) (as_known down)

step_as_known : (step : EndStep) (old new : HostPart) → PostsStep step old new → IsAsKnown old new
step_as_known Stop old new is =
    as_known_then old is.0 new (down_as_known old is.0 is.1) (exit_if is.0.end_bytes.down is.0 new is.2)
step_as_known Exit old new is = exit_as_known old new is
step_as_known Wait old new is = subst (IsAsKnown old) (sym is) (as_known old)

ends_more : (runs : Bool) (waited : ℕ) (old new : HostPart) → EndsNext runs waited old new → KnowsMore old new
ends_more runs waited old new is =
    let more = heard_more old is.read is.is_read.is_heard in
    let after = step_as_known (next_step runs waited is.read) is.read new is.posts in
    record {
      id = after.id ∙ more.id;
      station = after.station ∙ more.station;
      known = subst (Tells (history_of old) old.known) (sym after.known) more.known;
      has_ended = after.has_ended ∙ more.has_ended;
    }

same_more : (part : HostPart) → KnowsMore part part
same_more part = record { id = refl; station = refl; known = tells_none (history_of part) part.known; has_ended = refl }

more_then : (a b c : HostPart) → KnowsMore a b → KnowsMore b c → KnowsMore a c
more_then a b c p q = record {
  id = q.id ∙ p.id;
  station = q.station ∙ p.station;
  known = tells_then a.station.opening a.known b.known c.known p.known
      (subst (λ machine. Tells (followed_by (Opened machine) b.known) b.known c.known)
      (ap (λ origin. origin.opening) p.station) q.known);
  has_ended = q.has_ended ∙ p.has_ended;
}

step_ends : (old : List HostPart) (place : ℕ) (new : List HostPart) → IsEndStep old place new
    → AreEach KnowsMore old new
step_ends old place new is =
    subst (AreEach KnowsMore old) (sym is.parts)
    (one_changes KnowsMore same_more old place is.part
    (λ d. ends_more (service_runs (slice_index_or old place d).id.slot old) is.waited (slice_index_or old place d)
    is.part (is.next d)))

steps_end : (count : ℕ) (old new : List HostPart) → EndSteps count old new → AreEach KnowsMore old new
steps_end zero old new is = subst (AreEach KnowsMore old) (sym is) (each_same KnowsMore same_more old)
steps_end (suc count) old new is =
    each_then KnowsMore more_then old is.0 new (steps_end count old is.0 is.1) (step_ends is.0 count new is.2)

pub ends_run : (old new : HostState) (count : ℕ) → new.table ≡ old.table → EndSteps count old.parts new.parts
    → Runs old new
ends_run old new count table is = each_runs old new table (steps_end count old.parts new.parts is)
