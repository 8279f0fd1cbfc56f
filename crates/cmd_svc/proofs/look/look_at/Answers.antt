use Rattle.std.proofs.Common.{rules, ◌≡◌, [], ◌∷◌, Bool, not, Some, None, Ok, subst}
use Rattle.tai_status.specs.Loading.{loaded_from}
use Rattle.svc_client.specs.Calls.{Reached, ReadStatus, SoughtDown}
use Rattle.tai_status.specs.Extended.{Extended}
use Rattle.svc_client.proofs.Turns.{extended-then, not-not}
use Rattle.cmd_svc.proofs.look.look_at.Goals as goal

pub returns-in-Ok-decode_front : goal.returns-in-Ok-decode_front
returns-in-Ok-decode_front g c =
    let past = g.S.Services.calls c.args.services.now in
    let asked = g.S.Services.calls c.reach.new.self in
    let read = g.S.Services.calls c.read_status.new.self in
    let now = g.S.Services.calls c.has_down.new.self in
    let folder = c.args.folder.now in
    let bytes = c.in-Ok.front.items in
    let first : Extended past asked (Reached folder None ∷ []) = search rules in
    let second : Extended asked read (ReadStatus folder (Some bytes) ∷ []) = search rules in
    let third : Extended read now (SoughtDown folder (not (not c.has_down.result)) ∷ []) =
    subst (λ (found : Bool). Extended read now (SoughtDown folder found ∷ [])) (not-not c.has_down.result)
    c.has_down.ensures.sought in
    let is : loaded_from bytes ≡ Ok c.in-Ok-decode_front.loaded = search rules in
    record {
      bytes = bytes;
      before = now;
      is = is;
      asked = extended-then past read now (Reached folder None ∷ ReadStatus folder (Some bytes) ∷ [])
          (SoughtDown folder (not (not c.has_down.result)) ∷ [])
          (extended-then past asked read (Reached folder None ∷ []) (ReadStatus folder (Some bytes) ∷ []) first second)
          third;
      seeks = c.ask_course.ensures;
      read = c.now.ensures;
    }
