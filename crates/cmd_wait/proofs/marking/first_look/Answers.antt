use Rattle.std.proofs.Common.{rules, [], ◌∷◌, None, Some, ap, ◌∙◌}
use Rattle.std.specs.Prelude.{Result}
use Rattle.tai_status.specs.Extended.{Extended}
use Rattle.tai_status.specs.Loading.{loaded_from}
use Rattle.tai_status.specs.declared.loading.Loaded.{Loaded}
use Rattle.tai_status.specs.declared.record.RecordFault.{RecordFault}
use Rattle.svc_client.specs.Calls.{Reached, ReadStatus}
use Rattle.svc_client.proofs.Turns.{extended-then}
use Rattle.cmd_wait.specs.Marking.{Absent, Shown, shown_mark}
use Rattle.cmd_wait.proofs.marking.first_look.Goals as goal

pub returns-in-Err : goal.returns-in-Err
returns-in-Err g c = record { glimpse = Absent c.in-Err.why; is = c.absent_mark.ensures; calls = search rules }

pub returns : goal.returns
returns g c =
    let past = g.S.Services.calls c.args.services.now in
    let asked = g.S.Services.calls c.reach.new.self in
    let read = g.S.Services.calls c.read_status.new.self in
    let folder = c.args.folder.now in
    let bytes = c.in-Ok.front.items in
    let is = c.decode_front-read.ensures.read ∙ ap loaded_from c.as_slice.ensures.value in
    let first : Extended past asked (Reached folder None ∷ []) = search rules in
    let second : Extended asked read (ReadStatus folder (Some bytes) ∷ []) = search rules in record {
      glimpse = Shown bytes;
      is = c.shown_mark.ensures ∙ ap (λ (r : Result Loaded RecordFault). shown_mark c.args.purpose r) is;
      calls = extended-then past asked read (Reached folder None ∷ []) (ReadStatus folder (Some bytes) ∷ []) first second;
    }
