use Rattle.std.proofs.Common.{rules, Bool, [], ◌∷◌, ◌++◌, None, Some, ap, ◌∙◌, subst}
use Rattle.std.specs.Prelude.{Result}
use Rattle.tai_status.specs.Extended.{Extended}
use Rattle.tai_status.specs.Loading.{loaded_from}
use Rattle.tai_status.specs.declared.loading.Loaded.{Loaded}
use Rattle.tai_status.specs.declared.record.RecordFault.{RecordFault}
use Rattle.svc_client.specs.Calls.{Reached, ReadStatus}
use Rattle.svc_client.proofs.Turns.{extended-then}
use Rattle.cmd_wait.specs.Finding.{Absent, AsksReady, Shown, Unread, asks_ready, calls_of_age, calls_of_ready}
use Rattle.cmd_wait.specs.Finding.{process_asked, record_finding}
use Rattle.cmd_wait.proofs.Saying.{said_by}
use Rattle.cmd_wait.proofs.finding.look.Goals as goal

pub returns-in-Err : goal.returns-in-Err
returns-in-Err g c =
    record { sighting = Absent c.in-Err.why; says = tt; is = c.absent_finding.ensures; calls = search rules }

pub returns-in-Err-read_status : goal.returns-in-Err-read_status
returns-in-Err-read_status g c =
    let past = g.S.Services.calls c.args.services.now in
    let asked = g.S.Services.calls c.reach.new.self in
    let read = g.S.Services.calls c.read_status.new.self in
    let folder = c.args.entry.now.folder.now in
    let first : Extended past asked (Reached folder None ∷ []) = search rules in
    let second : Extended asked read (ReadStatus folder None ∷ []) = search rules in record {
      sighting = Unread c.eq.result;
      says = tt;
      is = c.unread_finding.ensures;
      calls = extended-then past asked read (Reached folder None ∷ []) (ReadStatus folder None ∷ []) first second;
    }

pub returns : goal.returns
returns g c =
    let past = g.S.Services.calls c.args.services.now in
    let asked = g.S.Services.calls c.reach.new.self in
    let read = g.S.Services.calls c.read_status.new.self in
    let aged = g.S.Services.calls c.age_asked-age.new.services in
    let now = g.S.Services.calls c.ready_asked-ready.new.services in
    let folder = c.args.entry.now.folder.now in
    let mark = c.args.entry.now.mark in
    let bytes = c.in-Ok.front.items in
    let state = c.args.goal.state in
    let age = c.age_asked-age.result in
    let ready = c.ready_asked-ready.result in
    let is = c.decode_front-read.ensures.read ∙ ap loaded_from c.as_slice.ensures.value in
    let first : Extended past asked (Reached folder None ∷ []) = search rules in
    let second : Extended asked read (ReadStatus folder (Some bytes) ∷ []) = search rules in
    let third : Extended read aged (calls_of_age (process_asked state (loaded_from bytes)) age) =
    subst (λ (r : Result Loaded RecordFault). Extended read aged (calls_of_age (process_asked state r) age)) is
    c.age_asked-age.ensures in
    let asks : AsksReady (asks_ready state) folder ready aged now =
    subst (λ (b : Bool). AsksReady b folder ready aged now) c.asks_ready.ensures c.ready_asked-ready.ensures in
    let said = said_by (asks_ready state) folder ready aged now asks in
    let begun = Reached folder None ∷ ReadStatus folder (Some bytes) ∷ [] in
    let aging = calls_of_age (process_asked state (loaded_from bytes)) age in record {
      sighting = Shown bytes age said.text ready;
      says = said.says;
      is = c.record_finding.ensures
          ∙ ap (λ (r : Result Loaded RecordFault). record_finding state mark r age ready) is;
      calls = extended-then past aged now (begun ++ aging) (calls_of_ready (asks_ready state) folder said.text)
          (extended-then past read aged begun aging
          (extended-then past asked read (Reached folder None ∷ []) (ReadStatus folder (Some bytes) ∷ []) first second)
          third) said.calls;
    }
