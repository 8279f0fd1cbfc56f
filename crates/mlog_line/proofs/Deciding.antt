-- A line that is decided: alerts, status files and logs.
use Rattle.std.proofs.Common.{◌≡◌, ℕ, if◌then◌else◌, Bool, List, [], ◌∷◌, ◌++◌, Option, refl, sym, subst, ◌∙◌}
use Rattle.std.proofs.Common.{append-nil}
use Rattle.std.specs.Prelude.{slice_get}
use Rattle.std.specs.Io.KnownBytes.{Appends}
use Rattle.tai_status.specs.Counted.{AppendsFront}
use Rattle.tai_status.proofs.Known.{AppendsFront-whole}
use Rattle.tai_status.specs.Label.{Tai64n}
use Rattle.tai_status.specs.Lines.{sent}
use Rattle.mlog_script.specs.Script.{Act}
use Rattle.mlog_script.specs.Selection.{chosen, flag_at, padded}
use Rattle.mlog_files.specs.Files.{Files}
use Rattle.mlog_files.specs.Store.{StoreState, Alerts, WasGiven}
use Rattle.mlog_files.specs.declared.tail.Tail.{Tail}
use Rattle.mlog_files.specs.declared.tail.LogFault.{LogFault}
use Rattle.mlog_files.specs.declared.tail.LogFault.TheVariants as fault
use Rattle.mlog_files.proofs.Doing.{rose_since}
use Rattle.mlog_line.specs.Given.{Given, joined, of_put, to_logs, alerts_for}
use Rattle.mlog_line.specs.Outputs.{outputs, TakesInAt, TakesFrontAt, GivenFront, Takes, Stops, SameGiven}
use Rattle.mlog_line.specs.Several.{Replaced, ReplacedSome, given_to}
use Rattle.mlog_line.proofs.Taking.{TakesInAt-none, TakesFrontAt-none, WasGiven-none, Appends-none, Takes-then}
use Rattle.mlog_line.proofs.Taking.{Takes-same, Stops-then, Stops-same}

to_alert : List ℕ → Given
to_alert text = record { logs = λ log. []; alerts = text; files = λ file. [] }

to_files : List Bool → List ℕ → Given
to_files flags content =
    record { logs = λ log. []; alerts = []; files = λ file. if flag_at flags file then content ∷ [] else [] }

same_logs : (tails : List Tail) (a b : StoreState) → b.visible.files ≡ a.visible.files → (log : ℕ)
    → TakesInAt (slice_get tails log) (slice_get tails log) (a.visible.files log) (b.visible.files log) []
same_logs tails a b same log =
    subst (λ (files : ℕ → Option Files). TakesInAt (slice_get tails log) (slice_get tails log) (a.visible.files log)
    (files log) []) (sym same)
    (TakesInAt-none (slice_get tails log) (a.visible.files log))

alerts_given : (tails : List Tail) (a b : StoreState) (text : List ℕ) → Alerts a b text
    → Takes (outputs tails a) (outputs tails b) (to_alert text)
unfolding to_alert
alerts_given tails a b text k = record {
  logs = same_logs tails a b k.files;
  alerts = k.here;
  files = λ file. subst (λ (files : ℕ → Option (List (List ℕ))). WasGiven (a.visible.statuses file) (files file) [])
      (sym k.statuses) (WasGiven-none (a.visible.statuses file));
  steady = k.stays.steady;
}

files_given : (tails : List Tail) (a b : StoreState) (flags : List Bool) (content : List ℕ) → Replaced a b flags content
    → Takes (outputs tails a) (outputs tails b) (to_files flags content)
unfolding to_files
files_given tails a b flags content k = record {
  logs = same_logs tails a b k.files;
  alerts = subst (λ (alerts : Option (List ℕ)). Appends a.visible.alerts alerts []) (sym k.alerts)
      (Appends-none a.visible.alerts);
  files = k.here;
  steady = k.stays.steady;
}

-- The status files could not be replaced.
pub decided_half : (tails now : List Tail) (a b c : StoreState) (script : List Act) (label : Tai64n)
    (front kept text : List ℕ) (flags files : List Bool)
    → flags ≡ (chosen script front).alerts → files ≡ (chosen script front).files → kept ≡ front
    → Alerts a b (alerts_for flags kept) → ReplacedSome b c files (padded kept)
    → Stops (outputs tails a) (outputs now c) (of_put script label front text) fault.Store
decided_half tails now a b c script label front kept text flags files is sf same k o = record {
  logs = λ log. subst (λ (files : ℕ → Option Files). TakesFrontAt (slice_get tails log) (a.visible.files log)
      (files log)
      (if flag_at (chosen script front).logs log then sent label text else []))
      (sym (o.files ∙ k.files))
      (TakesFrontAt-none (slice_get tails log) (a.visible.files log)
      (if flag_at (chosen script front).logs log then sent label text else []));
  alerts = subst (λ (alerts : Option (List ℕ)).
      AppendsFront a.visible.alerts alerts (alerts_for (chosen script front).alerts front)) (sym o.alerts)
      (AppendsFront-whole a.visible.alerts b.visible.alerts (alerts_for (chosen script front).alerts front)
      (subst (λ (t : List Bool). Appends a.visible.alerts b.visible.alerts (alerts_for t front)) is
      (subst (λ (t : List ℕ). Appends a.visible.alerts b.visible.alerts (alerts_for flags t)) same k.here)));
  files = λ file. subst (λ (was : ℕ → Option (List (List ℕ))). GivenFront (was file) (c.visible.statuses file)
      (given_to file (chosen script front).files (padded front))) k.statuses
      (subst (λ (t : List Bool). GivenFront (b.visible.statuses file) (c.visible.statuses file)
      (given_to file t (padded front))) sf
      (subst (λ (t : List ℕ). GivenFront (b.visible.statuses file) (c.visible.statuses file)
      (given_to file files (padded t))) same (o.here file)));
  store = λ e. rose_since a.failures b.failures c.failures k.stays.steady o.rose;
  spent = λ e. absurd cc;
}

given_so : (script : List Act) (label : Tai64n) (front text : List ℕ)
    → SameGiven (joined (joined (to_alert (alerts_for (chosen script front).alerts front))
    (to_files (chosen script front).files (padded front))) (to_logs (chosen script front).logs label text))
    (of_put script label front text)
unfolding to_alert to_files
given_so script label front text = record {
  logs = λ log. refl;
  alerts = append-nil (alerts_for (chosen script front).alerts front ++ [])
      ∙ append-nil (alerts_for (chosen script front).alerts front);
  files = λ file. append-nil (if flag_at (chosen script front).files file then padded front ∷ [] else []);
}

-- The logs stopped.
pub decided_stopped : (tails tails2 now : List Tail) (a b c d : StoreState) (script : List Act) (label : Tai64n)
    (front kept text put : List ℕ) (alerts files logs : List Bool) (why : LogFault)
    → tails2 ≡ tails → kept ≡ front → put ≡ text → alerts ≡ (chosen script front).alerts
    → files ≡ (chosen script front).files → logs ≡ (chosen script front).logs
    → Alerts a b (alerts_for alerts kept) → Replaced b c files (padded kept)
    → Stops (outputs tails2 c) (outputs now d) (to_logs logs label put) why
    → Stops (outputs tails a) (outputs now d) (of_put script label front text) why
decided_stopped tails tails2 now a b c d script label front kept text put alerts files logs why st same sp sa sf sl k r
    stops =
    let k1 = subst (λ (t : List Bool). Alerts a b (alerts_for t front)) sa
    (subst (λ (t : List ℕ). Alerts a b (alerts_for alerts t)) same k) in
    let r1 = subst (λ (t : List Bool). Replaced b c t (padded front)) sf
    (subst (λ (t : List ℕ). Replaced b c files (padded t)) same r) in
    let l1 = subst (λ (t : List Bool). Stops (outputs tails c) (outputs now d) (to_logs t label text) why) sl
    (subst (λ (t : List ℕ). Stops (outputs tails c) (outputs now d) (to_logs logs label t) why) sp
    (subst (λ (t : List Tail). Stops (outputs t c) (outputs now d) (to_logs logs label put) why) st stops)) in
    let x = to_alert (alerts_for (chosen script front).alerts front) in
    let y = to_files (chosen script front).files (padded front) in
    let z = to_logs (chosen script front).logs label text in
    Stops-same (outputs tails a) (outputs now d) (joined (joined x y) z) (of_put script label front text) why
    (Stops-then (outputs tails a) (outputs tails c) (outputs now d) (joined x y) z why
    (Takes-then (outputs tails a) (outputs tails b) (outputs tails c) x y (alerts_given tails a b _ k1)
    (files_given tails b c _ _ r1)) l1)
    (given_so script label front text)

-- The logs took the line.
pub decided_takes : (tails tails2 now : List Tail) (a b c d : StoreState) (script : List Act) (label : Tai64n)
    (front kept text put : List ℕ) (alerts files logs : List Bool)
    → tails2 ≡ tails → kept ≡ front → put ≡ text → alerts ≡ (chosen script front).alerts
    → files ≡ (chosen script front).files → logs ≡ (chosen script front).logs
    → Alerts a b (alerts_for alerts kept) → Replaced b c files (padded kept)
    → Takes (outputs tails2 c) (outputs now d) (to_logs logs label put)
    → Takes (outputs tails a) (outputs now d) (of_put script label front text)
decided_takes tails tails2 now a b c d script label front kept text put alerts files logs st same sp sa sf sl k r
    takes =
    let k1 = subst (λ (t : List Bool). Alerts a b (alerts_for t front)) sa
    (subst (λ (t : List ℕ). Alerts a b (alerts_for alerts t)) same k) in
    let r1 = subst (λ (t : List Bool). Replaced b c t (padded front)) sf
    (subst (λ (t : List ℕ). Replaced b c files (padded t)) same r) in
    let l1 = subst (λ (t : List Bool). Takes (outputs tails c) (outputs now d) (to_logs t label text)) sl
    (subst (λ (t : List ℕ). Takes (outputs tails c) (outputs now d) (to_logs logs label t)) sp
    (subst (λ (t : List Tail). Takes (outputs t c) (outputs now d) (to_logs logs label put)) st takes)) in
    let x = to_alert (alerts_for (chosen script front).alerts front) in
    let y = to_files (chosen script front).files (padded front) in
    let z = to_logs (chosen script front).logs label text in
    Takes-same (outputs tails a) (outputs now d) (joined (joined x y) z) (of_put script label front text)
    (Takes-then (outputs tails a) (outputs tails c) (outputs now d) (joined x y) z
    (Takes-then (outputs tails a) (outputs tails b) (outputs tails c) x y (alerts_given tails a b _ k1)
    (files_given tails b c _ _ r1)) l1)
    (given_so script label front text)
