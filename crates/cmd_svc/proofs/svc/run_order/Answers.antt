use Rattle.std.proofs.Common.{rules, ◌≡◌, ℕ, List, ◌⊎◌, inl, inr, refl, subst, false}
use Rattle.std.specs.Prelude.{codes}
use Rattle.cmd_svc.specs.Words.{option_letters, first_unknown}
use Rattle.tai_status.specs.Words.{texts}
use Rattle.cmd_svc.specs.Words.{order_bytes, service_words}
use Rattle.cmd_svc.specs.Missing.{TellsEach, telling}
use Rattle.svc_client.specs.Turns.{InTurn}
use Rattle.cmd_svc.specs.Svc.{effects, sending, RefusesLetter, Serves, ServesWords, LacksMemory, svc_warning}
use Rattle.cmd_svc.proofs.Refusals.{letter-refused, memory-lacks, order-serves}
use Rattle.cmd_svc.proofs.svc.run_order.Goals as goal

pub returns-in-Err-UnknownLetter : goal.returns-in-Err-UnknownLetter
returns-in-Err-UnknownLetter g c =
    let words = texts c.args.words.now in
    let old = effects (g.S.Services.calls c.args.services.now) c.args.faults.now in
    let new = effects (g.S.Services.calls c.args.services.now) c.report_letter.new.faults in
    let status = c.report_letter.result in
    let letter = c.in-Err-UnknownLetter.letter in
    letter-refused (first_unknown (option_letters words)) c.assemble.result letter
    (ServesWords c.args.missed_status words status old new ⊎ LacksMemory words status old new)
    (λ first. RefusesLetter first status old new)
    c.assemble.ensures.refuses
    (rw c.in-Err-UnknownLetter.field-0-is at c.in-Err-UnknownLetter.is)
    (record { status_is = c.report_letter.ensures.status; unsent = refl; reported = c.report_letter.ensures.reported })

pub returns-in-Err-OutOfMemory : goal.returns-in-Err-OutOfMemory
returns-in-Err-OutOfMemory g c =
    let words = texts c.args.words.now in
    let old = effects (g.S.Services.calls c.args.services.now) c.args.faults.now in
    let new = effects (g.S.Services.calls c.args.services.now) c.report.new.faults in
    let status = c.report.result in
    memory-lacks (first_unknown (option_letters words)) c.assemble.result
    (ServesWords c.args.missed_status words status old new ⊎ LacksMemory words status old new)
    (λ first. RefusesLetter first status old new)
    c.assemble.ensures.refuses
    (rw c.in-Err-OutOfMemory.field-0-is at c.in-Err-OutOfMemory.is)
    (inr (record {
      some = c.assemble.ensures.memory (rw c.in-Err-OutOfMemory.field-0-is at c.in-Err-OutOfMemory.is);
      status_is = c.report.ensures.status;
      unsent = refl;
      reported = c.report.ensures.reported;
    }))

pub returns-in-Ok : goal.returns-in-Ok
returns-in-Ok g c =
    let words = texts c.args.words.now in
    let calls = g.S.Services.calls in
    let old = effects (calls c.args.services.now) c.args.faults.now in
    let served = effects (calls c.serve_each-missed.new.services) c.serve_each-missed.new.faults in
    let new = effects (calls c.tell_missing.new.services) c.tell_missing.new.faults in
    let status = c.served_status.result in
    let bytes : c.as_slice.result.now ≡ order_bytes words = search rules in
    let names : c.as_slice-names.result.now ≡ service_words words = search rules in
    let start = sending old.calls old.faults false in
    let end = sending served.calls served.faults c.serve_each-missed.result in
    let serves : InTurn (Serves svc_warning (order_bytes words)) (service_words words) start end =
    subst (λ (b : List ℕ). InTurn (Serves svc_warning b) (service_words words) start end) bytes
    (subst (λ (n : List (List ℕ)). InTurn (Serves svc_warning c.as_slice.result.now) n start end) names
    c.serve_each-missed.ensures) in
    let told : TellsEach (codes "svc: ") (service_words words) (telling served.calls served.faults)
    (telling new.calls new.faults) =
    subst (λ (n : List (List ℕ)). TellsEach (codes "svc: ") n (telling served.calls served.faults)
    (telling new.calls new.faults)) c.services_of.ensures c.tell_missing.ensures in
    order-serves (first_unknown (option_letters words)) c.assemble.result c.in-Ok.order
    (ServesWords c.args.missed_status words status old new ⊎ LacksMemory words status old new)
    (λ first. RefusesLetter first status old new)
    c.assemble.ensures.refuses c.in-Ok.is
    (inl (record {
      missed = c.serve_each-missed.result;
      served = served;
      status_is = c.served_status.ensures;
      serves = serves;
      told = told;
    }))
