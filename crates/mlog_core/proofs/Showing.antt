-- What a run shows of the logs, alerts and status files.
use Rattle.std.proofs.Common.{◌≡◌, ℕ, ◌+◌, ◌-◌, ◌^◌, min, List, [], ◌∷◌, ◌++◌, take, map, fold, Option, Some}
use Rattle.std.proofs.Common.{None, refl, sym, subst, ap, ◌∙◌, arith, append-nil}
use Rattle.std.proofs.lemmas.Option.{slice_get-map}
use Rattle.std.specs.Prelude.{slice_get, IfSome}
use Rattle.std.specs.Option.{option_map}
use Rattle.std.specs.Io.KnownBytes.{Consumes}
use Rattle.tai_status.specs.Label.{Tai64n}
use Rattle.tai_status.specs.Lines.{Sent}
use Rattle.tai_status.specs.Extended.{Extended}
use Rattle.tai_status.specs.LineReader.{IsPlain}
use Rattle.tai_status.specs.Counted.{Device}
use Rattle.mlog_script.specs.Script.{Act, Plan, log_plans}
use Rattle.mlog_script.specs.Selection.{log_text}
use Rattle.mlog_files.specs.Files.{Files, Step, append_steps}
use Rattle.mlog_files.specs.Going.{Standing, steps_on, standing_on}
use Rattle.mlog_files.specs.Store.{StoreState, Visible, Reaches}
use Rattle.mlog_files.specs.Tails.{keep_of, waiting_in, standing, found}
use Rattle.mlog_files.specs.declared.tail.Tail.{Tail}
use Rattle.mlog_files.specs.declared.tail.LogFault.{LogFault}
use Rattle.mlog_files.specs.declared.tail.LogFault.TheVariants as log_fault
use Rattle.mlog_line.specs.LineRouter.{Place, IsOpened, IsOpenedAt, AreOpened, IsWrittenAt, IsWritten, total_finished}
use Rattle.mlog_line.specs.LineRouter.{total_removed}
use Rattle.mlog_line.specs.Given.{joined, of_text}
use Rattle.mlog_line.specs.Outputs.{steps_for, after, TakesIn, TakesInAt, TakesFrontAt, Takes, IsSpent}
use Rattle.mlog_line.proofs.Taking.{Takes-same}
use Rattle.mlog_core.specs.Run.{world, AreFound, planned_steps, IsPlanSpent, IsEnd, RunsAll, ReachesFront}
use Rattle.mlog_core.specs.Run.{RunsLines, RunsUpTo}
use Rattle.mlog_core.specs.Run.{given_in, IsBegun}
use Rattle.mlog_core.specs.Scene.{scene, outputs_of, IsInLine}
use Rattle.mlog_core.specs.Story.{Came, Done, Halted}
use Rattle.mlog_core.specs.declared.stream.RunCounts.{RunCounts}
use Rattle.mlog_core.specs.declared.stream.RunFault.{RunFault}
use Rattle.mlog_core.specs.declared.stream.RunFault.TheVariants as fault

-- The states of logs

stood_at : Option Tail → Option Files → Standing
stood_at (Some t) files = standing t
stood_at None (Some files) = found files
stood_at None None = found (record { current = []; olds = [] })

stood_of : List Tail → Visible → ℕ → Standing
stood_of tails visible log = stood_at (slice_get tails log) (visible.files log)

found_by : (plan : Option Plan) (files : Option Files) (tail : Option Tail) → IsOpenedAt plan files tail
    → IfSome files (λ f. stood_at tail files ≡ found f)
unfolding stood_at
found_by plan None tail o = tt
found_by None (Some f) None o = refl
found_by None (Some f) (Some t) o = absurd o
found_by (Some plan) (Some f) None o = absurd o
found_by (Some plan) (Some f) (Some t) o = o.stands

all_found : (script : List Act) (visible : Visible) (tails : List Tail) → AreOpened script visible tails
    → AreFound visible (stood_of tails visible)
unfolding stood_of
all_found script visible tails opened =
    λ log. found_by (slice_get (log_plans script) log) (visible.files log) (slice_get tails log) (opened log)

written_by : (plan : Option Plan) (files : Option Files) (tail : Option Tail) → IsOpenedAt plan files tail
    → IsWrittenAt tail
written_by None files None o = tt
written_by None files (Some t) o = absurd o
written_by (Some plan) files None o = absurd o
written_by (Some plan) files (Some t) o = o.waiting

-- One log

steps_planned : (plan : Plan) (files : Option Files) (t : Tail) (text : List Sent) → IsOpened plan files t
    → steps_for t text ≡ steps_on plan.size plan.keep (Some (standing t)) text
steps_planned plan files t text o =
    ap (λ (n : ℕ). steps_on n (keep_of t) (Some (standing t)) text) o.size
    ∙ ap (λ (n : ℕ). steps_on plan.size n (Some (standing t)) text) o.keep

after_planned : (plan : Plan) (files : Option Files) (t : Tail) (text : List Sent) → IsOpened plan files t
    → after t text ≡ standing_on plan.size plan.keep (Some (standing t)) text
after_planned plan files t text o =
    ap (λ (n : ℕ). standing_on n (keep_of t) (Some (standing t)) text) o.size
    ∙ ap (λ (n : ℕ). standing_on plan.size n (Some (standing t)) text) o.keep

all_done : (plan : Plan) (t u : Tail) (a b : Option Files) (text : List Sent) → IsOpened plan a t → TakesIn t u a b text
    → waiting_in u ≡ []
    → Reaches a b (steps_on plan.size plan.keep (Some (standing t)) text)
all_done plan t u a b text o k w =
    let whole : k.done ≡ steps_on plan.size plan.keep (Some (standing t)) text =
    sym (append-nil k.done) ∙ ap (λ (l : List ℕ). k.done ++ append_steps l) (sym w) ∙ k.whole
    ∙ ap (λ (l : List ℕ). append_steps l ++ steps_for t text) o.waiting ∙ steps_planned plan a t text o in
    subst (λ (s : List Step). Reaches a b s) whole k.reaches

log_done : (plan : Option Plan) (a b : Option Files) (t u : Option Tail) (text : List Sent) → IsOpenedAt plan a t
    → TakesInAt t u a b text → IsWrittenAt u
    → Reaches a b (planned_steps plan (stood_at t a) text)
unfolding stood_at
log_done None a b None None text o k w = k
log_done None a b None (Some u) text o k w = absurd k
log_done None a b (Some t) u text o k w = absurd o
log_done (Some plan) a b None u text o k w = absurd o
log_done (Some plan) a b (Some t) None text o k w = absurd k
log_done (Some plan) a b (Some t) (Some u) text o k w = all_done plan t u a b text o k w

log_end : (plan : Option Plan) (a b : Option Files) (t u : Option Tail) (text : List Sent) → IsOpenedAt plan a t
    → TakesInAt t u a b text
    → IsEnd plan (stood_at t a) text (option_map standing u)
unfolding stood_at
log_end None a b None None text o k = refl
log_end None a b None (Some u) text o k = absurd k
log_end None a b (Some t) u text o k = absurd o
log_end (Some plan) a b None u text o k = absurd o
log_end (Some plan) a b (Some t) None text o k = absurd k
log_end (Some plan) a b (Some t) (Some u) text o k = sym (after_planned plan a t text o) ∙ k.stands

log_front : (plan : Option Plan) (a b : Option Files) (t : Option Tail) (text : List Sent) → IsOpenedAt plan a t
    → TakesFrontAt t a b text
    → ReachesFront a b 0 (planned_steps plan (stood_at t a) text)
unfolding stood_at
log_front None a b None text o k = record { count = 0; enough = omega arith; reaches = k }
log_front None a b (Some t) text o k = absurd o
log_front (Some plan) a b None text o k = absurd o
log_front (Some plan) a b (Some t) text o k = record {
  count = k.count;
  enough = omega arith;
  reaches = subst (λ (s : List Step). Reaches a b (take k.count s))
      (ap (λ (l : List ℕ). append_steps l ++ steps_for t text) o.waiting ∙ steps_planned plan a t text o) k.reaches;
}

log_spent : (plan : Option Plan) (a : Option Files) (t : Option Tail) (text : List Sent) → IsOpenedAt plan a t
    → IsSpent t text → IsPlanSpent plan (stood_at t a) text
unfolding stood_at
log_spent None a None text o k = absurd k
log_spent None a (Some t) text o k = absurd o
log_spent (Some plan) a None text o k = absurd o
log_spent (Some plan) a (Some t) text o k = sym (after_planned plan a t text o) ∙ k

-- Counts

fold_map : {X Y : Type 0} (f : ℕ → Y → ℕ) (g : X → Y) (n : ℕ) (xs : List X)
    → fold f n (map g xs) ≡ fold (λ (t : ℕ) (x : X). f t (g x)) n xs
fold_map f g n [] = refl
fold_map f g n (x ∷ xs) = fold_map f g (f n (g x)) xs

-- The whole run

pub runs_all : (script : List Act) (r p : Device) (old new : StoreState) (a b : Option (List Tai64n)) (p0 p1 : Place)
    (n : ℕ) (counts : RunCounts)
    → AreOpened script old.visible p0.tails → IsWritten p1.tails
    → Done script (scene None p0 old a) (scene None p1 new b) r p n
    → counts.lines ≡ n → counts.finished ≡ total_finished p1.tails → counts.removed ≡ total_removed p1.tails
    → RunsAll script (world r old a) (world p new b) counts
unfolding stood_of
runs_all script r p old new a b p0 p1 n counts opened written d lines finished removed = record {
  bytes = d.bytes;
  labels = d.labels;
  stood = stood_of p0.tails old.visible;
  ends = map standing p1.tails;
  read = d.read;
  gave = d.gave;
  each = d.each;
  are_found = all_found script old.visible p0.tails opened;
  logs = λ log. log_done (slice_get (log_plans script) log) (old.visible.files log) (new.visible.files log)
      (slice_get p0.tails log) (slice_get p1.tails log) (log_text script log d.labels d.bytes)
      (opened log) (d.takes.logs log) (written log);
  alerts = d.takes.alerts;
  files = d.takes.files;
  lines = lines ∙ d.count_is ∙ d.each;
  are_ends = λ log. subst
      (λ (end : Option Standing). IsEnd (slice_get (log_plans script) log) (stood_of p0.tails old.visible log)
      (log_text script log d.labels d.bytes) end)
      (sym (slice_get-map standing p1.tails log))
      (log_end (slice_get (log_plans script) log) (old.visible.files log) (new.visible.files log)
      (slice_get p0.tails log)
      (slice_get p1.tails log) (log_text script log d.labels d.bytes)
      (opened log) (d.takes.logs log));
  finished = finished ∙ sym (fold_map (λ (t : ℕ) (s : Standing). min (2 ^ 64 - 1) (t + s.marks.finished)) standing 0
      p1.tails);
  removed = removed ∙ sym (fold_map (λ (t : ℕ) (s : Standing). min (2 ^ 64 - 1) (t + s.marks.removed)) standing 0
      p1.tails);
}

pub runs_up_to : (script : List Act) (r p : Device) (old new : StoreState) (a b : Option (List Tai64n)) (p0 p1 : Place)
    (why : LogFault) (reports : RunFault)
    → AreOpened script old.visible p0.tails → (reports ≡ fault.LabelsSpent → why ≡ log_fault.LabelsSpent)
    → Halted script (scene None p0 old a) (scene None p1 new b) r p why
    → RunsUpTo script (world r old a) (world p new b) reports
unfolding stood_of
runs_up_to script r p old new a b p0 p1 why reports opened same h = record {
  bytes = h.bytes;
  labels = h.labels;
  stood = stood_of p0.tails old.visible;
  read = h.read;
  gave = h.gave;
  are_found = all_found script old.visible p0.tails opened;
  logs = λ log. log_front (slice_get (log_plans script) log) (old.visible.files log) (new.visible.files log)
      (slice_get p0.tails log) (log_text script log h.labels h.bytes)
      (opened log) (h.stops.logs log);
  alerts = h.stops.alerts;
  files = h.stops.files;
  spent = λ is. let s = h.stops.spent (same is) in (
    s.log,
    log_spent (slice_get (log_plans script) s.log) (old.visible.files s.log) (slice_get p0.tails s.log)
        (log_text script s.log h.labels h.bytes) (opened s.log) s.spent,
  );
}

begun_left : (script : List Act) (p : Place) (i : Option Tai64n) (left : List ℕ) → IsInLine script p i left
    → IsBegun i left
begun_left script p None left is = is
begun_left script p (Some label) left is = is.2

plain_left : (script : List Act) (p : Place) (i : Option Tai64n) (left : List ℕ) → IsInLine script p i left
    → IsPlain left
plain_left script p None left is = subst (λ (t : List ℕ). IsPlain t) (sym is) refl
plain_left script p (Some label) left is = is.1

pub runs_lines : (script : List Act) (r p : Device) (old new : StoreState) (a b : Option (List Tai64n)) (p0 p1 : Place)
    (i : Option Tai64n) (n : ℕ)
    → AreOpened script old.visible p0.tails → IsWritten p1.tails
    → Came script (scene None p0 old a) (scene i p1 new b) r p n
    → RunsLines script (world r old a) (world p new b)
unfolding stood_of
runs_lines script r p old new a b p0 p1 i n opened written c =
    let w = c.went in
    let t1 = of_text script w.names w.whole in
    let s1 = given_in script i w.left in
    let first = outputs_of (scene None p0 old a) in
    let last = outputs_of (scene i p1 new b) in
    let takes : Takes first last (joined t1 s1) =
    Takes-same first last w.grows.more (joined t1 s1) w.grows.takes
    (record { logs = w.grows.whole.logs; alerts = w.grows.whole.alerts; files = w.grows.whole.files }) in
    record {
      lines = w.whole;
      front = w.left;
      labels = w.names;
      begun = i;
      stood = stood_of p0.tails old.visible;
      read = subst (λ (t : List ℕ). Consumes r.bytes p.bytes t) w.cut c.read;
      gave = subst (λ (t : List Tai64n). Extended a b t) w.named w.gave;
      whole = w.lines;
      plain = plain_left script p1 i w.left w.at;
      is_begun = begun_left script p1 i w.left w.at;
      each = w.each;
      are_found = all_found script old.visible p0.tails opened;
      logs = λ log. log_done (slice_get (log_plans script) log) (old.visible.files log) (new.visible.files log)
          (slice_get p0.tails log) (slice_get p1.tails log) (t1.logs log ++ s1.logs log)
          (opened log) (takes.logs log) (written log);
      alerts = takes.alerts;
      files = takes.files;
    }
