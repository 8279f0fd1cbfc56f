-- What a look saw that found a service up.
use Rattle.std.proofs.Common.{◌≡◌, ℕ, Bool, true, false, ◌&&◌, List, Option, Some, None, refl, sym, subst}
use Rattle.std.proofs.lemmas.Bool.{leb-true}
use Rattle.std.specs.Prelude.{Result, Ok, Err, is_some, if◌then◌else◌}
use Rattle.tai_status.specs.Loading.{loaded_from, status_in}
use Rattle.tai_status.specs.Label.{Tai64n}
use Rattle.tai_status.specs.declared.loading.Loaded.{Loaded}
use Rattle.tai_status.specs.declared.record.RecordFault.{RecordFault}
use Rattle.svc_record.specs.declared.moment.Moment.{Moment}
use Rattle.cmd_svc.specs.Course.{about, is_about}
use Rattle.svc_client.specs.declared.services.Unreached.TheVariants.{NotRunning, Denied, Unanswered}
use Rattle.cmd_wait.specs.Finding.{Sighting, Absent, Unread, Shown, SeesAnother, SeesReady, SeesUp, finding_of}
use Rattle.cmd_wait.specs.Finding.{is_ready, record_finding}
use Rattle.cmd_wait.specs.Finding.{is_another, process_asked}
use Rattle.cmd_wait.specs.Finding.{has_lasted, is_up, reached_if, unread_in, unsupervised_finding, unsupervised_in}
use Rattle.cmd_wait.specs.declared.finding.Goal.{Goal}
use Rattle.cmd_wait.specs.declared.finding.ProcessMark.{ProcessMark}
use Rattle.cmd_wait.specs.declared.finding.WaitState.{WaitState}
use Rattle.cmd_wait.specs.declared.finding.WaitState.TheVariants as state
use Rattle.cmd_wait.specs.declared.finding.Finding.TheVariants.{Reached}

both : (a b : Bool) → reached_if (a && b) ≡ Reached → (a ≡ true) × (b ≡ true)
both true true e = (refl, refl)
both true false e = absurd cc
both false b e = absurd cc

asks : (loaded : Loaded) → is_up loaded ≡ true
    → process_asked state.Up (Ok loaded) ≡ Some (status_in loaded).pid
asks loaded up = rw up refl

seen : (bytes : List ℕ) (age : Option ℕ) (text : Option (List ℕ)) (ready : Option Moment) (loaded : Loaded) → loaded_from bytes ≡ Ok loaded → is_up loaded ≡ true
    → has_lasted age ≡ true → (up : SeesUp (Shown bytes age text ready)) × (up.loaded ≡ loaded)
seen bytes None text ready loaded is up e = absurd cc
seen bytes (Some n) text ready loaded is up lasted = (
  record {
    bytes = bytes;
    loaded = loaded;
    age = n;
    text = text;
    ready = ready;
    saw = refl;
    is = is;
    up = up;
    lasted = leb-true 200 n lasted;
    asked = rw is (asks loaded up);
  },
  refl,
)

sees : (mark : Option ProcessMark) (bytes : List ℕ) (age : Option ℕ) (text : Option (List ℕ)) (ready : Option Moment)
    (read : Result Loaded RecordFault)
    → loaded_from bytes ≡ read → record_finding state.Up mark read age ready ≡ Reached → SeesUp (Shown bytes age text ready)
sees mark bytes age text ready (Err cause) is e = absurd cc
sees mark bytes age text ready (Ok loaded) is e =
    let found = both (is_up loaded) (has_lasted age) e in (seen bytes age text ready loaded is found.0 found.1).0

sees_another : (mark : Option ProcessMark) (bytes : List ℕ) (age : Option ℕ) (text : Option (List ℕ))
    (ready : Option Moment) (read : Result Loaded RecordFault)
    → loaded_from bytes ≡ read → record_finding state.Another mark read age ready ≡ Reached
    → SeesAnother mark (Shown bytes age text ready)
sees_another mark bytes age text ready (Err cause) is e = absurd cc
sees_another mark bytes age text ready (Ok loaded) is e =
    let found = both (is_up loaded && has_lasted age) (is_another mark (status_in loaded)) e in
    let lasts = both (is_up loaded) (has_lasted age) (rw found.0 refl) in
    let up = seen bytes age text ready loaded is lasts.0 lasts.1 in record {
      up = up.0;
      another = subst (λ (one : Loaded). is_another mark (status_in one) ≡ true) (sym up.1) found.1;
    }

not_reached : {X : Type 0} (awaits : Bool) → unsupervised_in state.Up awaits ≡ Reached → X
not_reached true e = absurd cc
not_reached false e = absurd cc

never_waits : {X : Type 0} (goal : Goal) → goal.state ≡ state.Up → unsupervised_finding goal ≡ Reached → X
never_waits goal up e =
    not_reached goal.awaits_supervision
    (subst (λ (wanted : WaitState). unsupervised_in wanted goal.awaits_supervision ≡ Reached) up e)

unread_fails : {X : Type 0} (wanted : WaitState) (waits : Bool) → unread_in wanted waits ≡ Reached → X
unread_fails state.Up true e = absurd cc
unread_fails state.Up false e = absurd cc
unread_fails state.Down true e = absurd cc
unread_fails state.Down false e = absurd cc
unread_fails state.Unsupervised waits e = absurd cc
unread_fails state.Another true e = absurd cc
unread_fails state.Another false e = absurd cc
unread_fails state.Ready true e = absurd cc
unread_fails state.Ready false e = absurd cc

not_reached_another : {X : Type 0} (awaits : Bool) → unsupervised_in state.Another awaits ≡ Reached → X
not_reached_another true e = absurd cc
not_reached_another false e = absurd cc

never_another : {X : Type 0} (goal : Goal) → goal.state ≡ state.Another → unsupervised_finding goal ≡ Reached → X
never_another goal another e =
    not_reached_another goal.awaits_supervision
    (subst (λ (wanted : WaitState). unsupervised_in wanted goal.awaits_supervision ≡ Reached) another e)

pub up_lasts : (goal : Goal) (mark : Option ProcessMark) (sighting : Sighting) → goal.state ≡ state.Up
    → finding_of goal mark sighting ≡ Reached → SeesUp sighting
up_lasts goal mark (Absent NotRunning) up e = never_waits goal up e
up_lasts goal mark (Absent Denied) up e = absurd cc
up_lasts goal mark (Absent Unanswered) up e = absurd cc
up_lasts goal mark (Unread is_missing) up e = unread_fails goal.state (goal.awaits_supervision && is_missing) e
up_lasts goal mark (Shown bytes age text ready) up e =
    sees mark bytes age text ready (loaded_from bytes) refl
    (subst (λ (wanted : WaitState). record_finding wanted mark (loaded_from bytes) age ready ≡ Reached) up e)

pub another_seen : (goal : Goal) (mark : Option ProcessMark) (sighting : Sighting) → goal.state ≡ state.Another
    → finding_of goal mark sighting ≡ Reached → SeesAnother mark sighting
another_seen goal mark (Absent NotRunning) another e = never_another goal another e
another_seen goal mark (Absent Denied) another e = absurd cc
another_seen goal mark (Absent Unanswered) another e = absurd cc
another_seen goal mark (Unread is_missing) another e =
    unread_fails goal.state (goal.awaits_supervision && is_missing) e
another_seen goal mark (Shown bytes age text ready) another e =
    sees_another mark bytes age text ready (loaded_from bytes) refl
    (subst (λ (wanted : WaitState). record_finding wanted mark (loaded_from bytes) age ready ≡ Reached) another e)

not_reached_ready : {X : Type 0} (awaits : Bool) → unsupervised_in state.Ready awaits ≡ Reached → X
not_reached_ready true e = absurd cc
not_reached_ready false e = absurd cc

never_ready : {X : Type 0} (goal : Goal) → goal.state ≡ state.Ready → unsupervised_finding goal ≡ Reached → X
never_ready goal ready e =
    not_reached_ready goal.awaits_supervision
    (subst (λ (wanted : WaitState). unsupervised_in wanted goal.awaits_supervision ≡ Reached) ready e)

-- a time in a notice is of a notice about the process
about_true : (b : Bool) (label : Tai64n) → is_some (if b then Some label else None) ≡ true → b ≡ true
about_true true label e = refl
about_true false label e = absurd cc

sees_said : (bytes : List ℕ) (loaded : Loaded) → loaded_from bytes ≡ Ok loaded → (age : Option ℕ)
    (text : Option (List ℕ)) (ready : Option Moment) → is_some age ≡ true
    → is_some (about (status_in loaded) ready) ≡ true → SeesReady (Shown bytes age text ready)
sees_said bytes loaded is None text ready lives said = absurd cc
sees_said bytes loaded is (Some age) text None lives said = absurd cc
sees_said bytes loaded is (Some age) text (Some ready) lives said = record {
  bytes = bytes;
  loaded = loaded;
  age = age;
  text = text;
  ready = ready;
  saw = refl;
  is = is;
  about = about_true (is_about (status_in loaded) ready) ready.label said;
}

sees_ready : (mark : Option ProcessMark) (bytes : List ℕ) (age : Option ℕ) (text : Option (List ℕ))
    (ready : Option Moment) (read : Result Loaded RecordFault) → loaded_from bytes ≡ read
    → record_finding state.Ready mark read age ready ≡ Reached → SeesReady (Shown bytes age text ready)
sees_ready mark bytes age text ready (Err cause) is e = absurd cc
sees_ready mark bytes age text ready (Ok loaded) is e =
    let found = both (is_some age) (is_some (about (status_in loaded) ready)) e in
    sees_said bytes loaded is age text ready found.0 found.1

pub ready_said : (goal : Goal) (mark : Option ProcessMark) (sighting : Sighting) → goal.state ≡ state.Ready
    → finding_of goal mark sighting ≡ Reached → SeesReady sighting
ready_said goal mark (Absent NotRunning) ready e = never_ready goal ready e
ready_said goal mark (Absent Denied) ready e = absurd cc
ready_said goal mark (Absent Unanswered) ready e = absurd cc
ready_said goal mark (Unread is_missing) ready e = unread_fails goal.state (goal.awaits_supervision && is_missing) e
ready_said goal mark (Shown bytes age text said) ready e =
    sees_ready mark bytes age text said (loaded_from bytes) refl
    (subst (λ (wanted : WaitState). record_finding wanted mark (loaded_from bytes) age said ≡ Reached) ready e)
