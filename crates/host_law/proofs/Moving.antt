-- A move of a host is some turns of a suite.
use Rattle.std.proofs.Common.{◌≡◌, Bool, true, false, List, [], ◌∷◌, ◌++◌, map, refl, sym, subst, ap, ◌∙◌, Some, None}
use Rattle.std.proofs.Common.{if◌then◌else◌}
use Rattle.std.specs.List.{AllByRecursion}
use Rattle.tai_status.specs.declared.phase.Phase.{Phase}
use Rattle.tai_status.specs.declared.phase.Phase.TheVariants as phase
use Rattle.sup_core.specs.declared.event.Event.{Event}
use Rattle.sup_core.specs.State.{State, is_gone}
use Rattle.sup_core.specs.History.{History, Opened, Then, phase_of, state_of}
use Rattle.sup_core.specs.Rules.{IsEvent, takes}
use Rattle.sup_core.specs.Runs.{AreTaken, followed_by}
use Rattle.sup_core.proofs.Laws.{AreTaken-append, followed_by-append}
use Rattle.sup_trace.specs.Trace.{Kept, noted_if_taken, replay, trace_after}
use Rattle.sup_trace.proofs.After.{replay-trace_after, trace_after-more}
use Rattle.scan_table.specs.declared.part.PartId.{PartId}
use Rattle.scan_table.specs.Table.{TableState, after_end}
use Rattle.suite_lines.specs.declared.event.SuiteEvent.{SuiteEvent}
use Rattle.suite_lines.specs.declared.event.SuiteEvent.TheVariants.{Scan, At}
use Rattle.suite_core.specs.Parts.{is_part, trace_of}
use Rattle.suite_core.specs.Suite.{SuiteState, refusal_at, suite_at}
use Rattle.suite_core.proofs.Traces.{trace_of-after}
use Rattle.suite_core.proofs.Runs.{IsSuite-at}
use Rattle.svc_host.specs.Parts.{HostPart, history_of}
use Rattle.svc_host.specs.Rounds.{HostState}
use Rattle.svc_host.specs.HostRun.{OneHas, HasHeard, HasEnded, IsAsKnown, AreAsKnown}
use Rattle.host_law.specs.Whole.{Turn, Takes, turned_along, AllAccepted, before_end, told, IsToldOf, IsTold}
use Rattle.host_law.specs.Whole.{AreApart, ids_of}
use Rattle.host_law.specs.Whole.{StandsFor, Follows}
use Rattle.host_law.proofs.Lists.{after_middle, all_both, before_middle, middle_of, others_after, others_before}
use Rattle.host_law.proofs.Lists.{same_names, with_middle}
use Rattle.host_law.proofs.Publishing.{reported, trace_there}
use Rattle.host_law.proofs.Telling.{Last, all_told, last_of, not_gone, one_more}

-- A part with the id, the station, the events and the thread of another.
pub told_as : (suite : SuiteState) (i j : PartId) (m n : State) (xs ys : List Event) (b c : Bool) → j ≡ i → n ≡ m
    → ys ≡ xs → c ≡ b → IsToldOf suite i m xs b → IsToldOf suite j n ys c
told_as suite i j m n xs ys b c p q r s is =
    subst (λ (j : PartId). IsToldOf suite j n ys c) (sym p)
    (subst (λ (n : State). IsToldOf suite i n ys c) (sym q)
    (subst (λ (ys : List Event). IsToldOf suite i m ys c) (sym r)
    (subst (λ (c : Bool). IsToldOf suite i m xs c) (sym s) is)))

-- An event at a part changes nothing of another part.
pub other_told : (suite : SuiteState) (id : PartId) (event : Event) (part : HostPart) → IsTold suite part
    → is_part id part.id ≡ false → IsTold (suite_at suite id event) part
other_told suite id event part is other =
    record {
      begun = is.begun;
      taken = is.taken;
      gone = is.gone;
      trace = trace_of-after suite.parts id part.id event ∙ rw (is.trace, other) refl;
    }

-- Parts, with an event at one of them

module _ (suite : SuiteState) (event : Event) (before : List HostPart) (old new : HostPart)
    (after : List HostPart) (same : new.id ≡ old.id) (distinct : AreApart (ids_of (before ++ old ∷ after)))
    (all : AllByRecursion (IsTold suite) (before ++ old ∷ after)) where
  abbrev there : SuiteState
  there = suite_at suite old.id event

  pub all_there : IsTold there new → AllByRecursion (IsTold there) (before ++ new ∷ after)
  all_there here =
      with_middle (IsTold there) before new after
      (all_both (IsTold suite) (λ (part : HostPart). is_part old.id part.id ≡ false) (IsTold there) before
      (λ part. other_told suite old.id event part) (before_middle (IsTold suite) before old after all)
      (others_before before old after distinct))
      here
      (all_both (IsTold suite) (λ (part : HostPart). is_part old.id part.id ≡ false) (IsTold there) after
      (λ part. other_told suite old.id event part) (after_middle (IsTold suite) before old after all)
      (others_after before old after distinct))

  pub distinct_there : AreApart (ids_of (before ++ new ∷ after))
  distinct_there = subst (AreApart) (sym (same_names before old new after same)) distinct

  pub all_here : IsTold suite new → AllByRecursion (IsTold suite) (before ++ new ∷ after)
  all_here here =
      with_middle (IsTold suite) before new after (before_middle (IsTold suite) before old after all) here
      (after_middle (IsTold suite) before old after all)

-- An event that a part takes

module _ (suite : SuiteState) (id : PartId) (machine : State) (known : List Event) (event : Event)
    (there : trace_of suite.parts id ≡ Some (trace_after machine suite.capacity known))
    (taken : takes (followed_by (Opened machine) known) event ≡ true) where
  abbrev kept : Kept
  kept = trace_after machine suite.capacity known

  pub not_refused : refusal_at suite id ≡ None
  not_refused = rw there refl

  pub table_there : (suite_at suite id event).table
      ≡ (if is_gone (phase_of (Then (followed_by (Opened machine) known) event)) then after_end suite.table id
      else suite.table)
  table_there =
      reported suite id (followed_by (Opened machine) known) kept event there
      (replay-trace_after machine suite.capacity known) taken

  pub trace_then : trace_of (suite_at suite id event).parts id
      ≡ Some (trace_after machine suite.capacity (known ++ event ∷ []))
  trace_then = trace_there suite.parts id event kept there
      ∙ ap Some (sym (trace_after-more machine suite.capacity known event taken))

-- One more event is read

module _ (suite : SuiteState) (host new : HostState) (event : Event) (stands : StandsFor suite host)
    (table : new.table ≡ host.table) (one : OneHas (HasHeard event) host.parts new.parts) where
  abbrev part : HostPart
  part = one.old

  abbrev later : HostPart
  later = one.new

  abbrev past : History
  past = followed_by (Opened part.station.opening) part.known

  abbrev machine : State
  machine = part.station.opening

  distinct : AreApart (ids_of (one.before ++ part ∷ one.after))
  distinct = subst (λ (parts : List HostPart). AreApart (ids_of parts)) one.olds_are stands.apart

  all : AllByRecursion (IsTold suite) (one.before ++ part ∷ one.after)
  all = subst (AllByRecursion (IsTold suite)) one.olds_are stands.parts

  is : IsTold suite part
  is = middle_of (IsTold suite) one.before part one.after all

  here : is_gone (phase_of past) ≡ false
  here = not_gone past event one.changed.taken

  runs : (b : Bool) → (b ≡ true → is_gone (phase_of past) ≡ true) → b ≡ false
  runs true gone = absurd (cc (gone refl, here))
  runs false gone = refl

  ran : part.has_ended ≡ false
  ran = runs part.has_ended is.gone

  trace : trace_of suite.parts part.id ≡ Some (trace_after machine suite.capacity part.known)
  trace = is.trace
      ∙ ap (λ (events : List Event). Some (trace_after machine suite.capacity events))
      (all_told machine part.known part.has_ended is.taken here)

  grown : AreTaken (Opened machine) (part.known ++ event ∷ [])
  grown = AreTaken-append (Opened machine) part.known event is.taken one.changed.is one.changed.taken

  as_new : (s : SuiteState) → IsToldOf s part.id machine (part.known ++ event ∷ []) false → IsTold s later
  as_new s so =
      told_as s part.id later.id machine later.station.opening (part.known ++ event ∷ []) later.known false
      later.has_ended one.changed.id (ap (λ o. o.opening) one.changed.station) one.changed.known
      (one.changed.has_ended ∙ ran) so

  -- after it the part is gone: the suite takes it at the join
  is_over : {A : Type 0} → is_gone (phase_of (Then past event)) ≡ true → Follows A suite new
  is_over gone =
      record {
        turns = [];
        accepted = tt;
        stands = record {
          suite_is = stands.suite_is;
          table = stands.table ∙ sym table;
          apart = subst (λ (parts : List HostPart). AreApart (ids_of parts)) (sym one.news_are)
              (distinct_there suite event one.before part later one.after one.changed.id distinct all);
          parts = subst (AllByRecursion (IsTold suite)) (sym one.news_are)
              (all_here suite event one.before part later one.after one.changed.id distinct all
              (as_new suite (record {
                begun = is.begun;
                taken = grown;
                gone = λ ended. absurd (cc ended);
                trace = trace ∙ ap (λ (events : List Event). Some (trace_after machine suite.capacity events))
                    (sym (one_more (Opened machine) part.known event is.taken here ∙ rw gone refl));
              })));
        };
      }

  -- the suite takes it
  goes_on : {A : Type 0} → is_gone (phase_of (Then past event)) ≡ false → Follows A suite new
  goes_on on =
      record {
        turns = Takes (At part.id event) ∷ [];
        accepted = (ap_refused, tt);
        stands = record {
          suite_is = IsSuite-at suite part.id event one.changed.is stands.suite_is;
          table = table_there suite part.id machine part.known event trace one.changed.taken ∙ rw on refl
              ∙ stands.table ∙ sym table;
          apart = subst (λ (parts : List HostPart). AreApart (ids_of parts)) (sym one.news_are)
              (distinct_there suite event one.before part later one.after one.changed.id distinct all);
          parts = subst (AllByRecursion (IsTold (suite_at suite part.id event))) (sym one.news_are)
              (all_there suite event one.before part later one.after one.changed.id distinct all
              (as_new (suite_at suite part.id event) (record {
                begun = is.begun;
                taken = grown;
                gone = λ ended. absurd (cc ended);
                trace = trace_then suite part.id machine part.known event trace one.changed.taken
                    ∙ ap (λ (events : List Event). Some (trace_after machine suite.capacity events))
                    (sym (one_more (Opened machine) part.known event is.taken here ∙ rw on refl));
              })));
        };
      }
    where
      ap_refused : refusal_at suite part.id ≡ None
      ap_refused = not_refused suite part.id machine part.known event trace one.changed.taken

  pub hears : {A : Type 0} → Follows A suite new
  hears {A = A} =
      elim (is_gone (phase_of (Then past event))) as (λ b. is_gone (phase_of (Then past event)) ≡ b
      → Follows A suite new) [
        | true ↦ is_over {A = A}
        | false ↦ goes_on {A = A}
      ] refl

-- A thread is joined

module _ (suite : SuiteState) (host new : HostState) (id : PartId) (stands : StandsFor suite host)
    (table : new.table ≡ after_end host.table id) (one : OneHas (HasEnded id) host.parts new.parts) where
  abbrev joined : HostPart
  joined = one.old

  abbrev opening : State
  opening = joined.station.opening

  abbrev front : List Event
  front = before_end (Opened opening) joined.known

  apart_there : AreApart (ids_of (one.before ++ joined ∷ one.after))
  apart_there = subst (λ (parts : List HostPart). AreApart (ids_of parts)) one.olds_are stands.apart

  each : AllByRecursion (IsTold suite) (one.before ++ joined ∷ one.after)
  each = subst (AllByRecursion (IsTold suite)) one.olds_are stands.parts

  was : IsTold suite joined
  was = middle_of (IsTold suite) one.before joined one.after each

  gone : is_gone (phase_of (followed_by (Opened opening) joined.known)) ≡ true
  gone = ap is_gone one.changed.gone

  end : Last (Opened opening) joined.known
  end = last_of (Opened opening) joined.known was.taken was.begun gone

  stood : trace_of suite.parts joined.id ≡ Some (trace_after opening suite.capacity front)
  stood = was.trace ∙ ap (λ (b : Bool). Some (trace_after opening suite.capacity (told opening joined.known b)))
      one.changed.ran

  whole : followed_by (Opened opening) joined.known ≡ Then (followed_by (Opened opening) front) end.last
  whole = ap (followed_by (Opened opening)) end.whole ∙ followed_by-append (Opened opening) front (end.last ∷ [])

  gone_then : is_gone (phase_of (Then (followed_by (Opened opening) front) end.last)) ≡ true
  gone_then = sym (ap (λ (past : History). is_gone (phase_of past)) whole) ∙ gone

  ends_here : IsToldOf (suite_at suite joined.id end.last) joined.id opening joined.known true
  ends_here = record {
    begun = was.begun;
    taken = was.taken;
    gone = λ _. gone;
    trace = trace_then suite joined.id opening front end.last stood end.taken
        ∙ ap (λ (events : List Event). Some (trace_after opening suite.capacity events)) (sym end.whole);
  }

  pub ends : {A : Type 0} → Follows A suite new
  ends =
      record {
        turns = Takes (At joined.id end.last) ∷ [];
        accepted = (not_refused suite joined.id opening front end.last stood end.taken, tt);
        stands = record {
          suite_is = IsSuite-at suite joined.id end.last end.is stands.suite_is;
          table = table_there suite joined.id opening front end.last stood end.taken ∙ rw gone_then refl
              ∙ ap (λ (t : TableState). after_end t joined.id) stands.table
              ∙ ap (after_end host.table) one.changed.was ∙ sym table;
          apart = subst (λ (parts : List HostPart). AreApart (ids_of parts)) (sym one.news_are)
              (distinct_there suite end.last one.before joined one.new one.after same apart_there each);
          parts = subst (AllByRecursion (IsTold (suite_at suite joined.id end.last))) (sym one.news_are)
              (all_there suite end.last one.before joined one.new one.after same apart_there each
              (told_as (suite_at suite joined.id end.last) joined.id one.new.id opening one.new.station.opening
              joined.known one.new.known true one.new.has_ended same (ap (λ o. o.opening) one.changed.station)
              one.changed.known one.changed.ended ends_here));
        };
      }
    where
      same : one.new.id ≡ joined.id
      same = one.changed.is ∙ sym one.changed.was

-- Nothing of this kind changes

same_parts : (suite : SuiteState) (olds news : List HostPart) → AreAsKnown olds news
    → AllByRecursion (IsTold suite) olds → AllByRecursion (IsTold suite) news
same_parts suite [] [] as_known all = tt
same_parts suite [] (new ∷ news) as_known all = absurd as_known
same_parts suite (old ∷ olds) [] as_known all = absurd as_known
same_parts suite (old ∷ olds) (new ∷ news) as_known all = (
  told_as suite old.id new.id old.station.opening new.station.opening old.known new.known old.has_ended
      new.has_ended as_known.0.id (ap (λ o. o.opening) as_known.0.station) as_known.0.known as_known.0.has_ended all.0,
  same_parts suite olds news as_known.1 all.1,
)

same_ids : (olds news : List HostPart) → AreAsKnown olds news → ids_of news ≡ ids_of olds
same_ids [] [] as_known = refl
same_ids [] (new ∷ news) as_known = absurd as_known
same_ids (old ∷ olds) [] as_known = absurd as_known
same_ids (old ∷ olds) (new ∷ news) as_known =
    ap (λ (id : PartId). id ∷ ids_of news) as_known.0.id
    ∙ ap (λ (ids : List PartId). old.id ∷ ids) (same_ids olds news as_known.1)

pub stays_so : {A : Type 0} (suite : SuiteState) (host new : HostState) → StandsFor suite host
    → new.table ≡ host.table → AreAsKnown host.parts new.parts → Follows A suite new
stays_so suite host new stands table as_known =
    record {
      turns = [];
      accepted = tt;
      stands = record {
        suite_is = stands.suite_is;
        table = stands.table ∙ sym table;
        apart = subst (AreApart) (sym (same_ids host.parts new.parts as_known)) stands.apart;
        parts = same_parts suite host.parts new.parts as_known stands.parts;
      };
    }
