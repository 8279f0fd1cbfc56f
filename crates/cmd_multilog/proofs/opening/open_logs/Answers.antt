use Rattle.std.proofs.Common.{rules, refl, ◌∙◌, ap, ◌≡◌, ◌+◌, ◌≤◌, subst, ℕ, arith, length, None, count_by, ◌<◌, ◌^◌}
use Rattle.mlog_script.specs.Script.{Plan, is_log}
use Rattle.cmd_multilog.specs.Opening.{folders_of}
use Rattle.cmd_multilog.proofs.Openings.{opens-none, opens-log, opens-all-logs, folder_at, no_folder_at, longer}
use Rattle.cmd_multilog.proofs.Openings.{unopened}
use Rattle.cmd_multilog.proofs.opening.open_logs.Goals as goal

pub loop-log-init : goal.loop-log-init
loop-log-init g c = (opens-none c.args.store.now, ap length c.requires.none, omega arith, refl)

pub overflow_add-log : goal.overflow_add-log
overflow_add-log g c =
    let ok = c.in-Ok.ensures.ok in
    let len = longer c.loop-log.store.logs c.open_log.new.self.logs ok.folder c.loop-log.log ok.logs
    c.loop-log.invariant.1 in
    let fits : c.loop-log.log + 1 < 2 ^ 64 = subst (λ (n : ℕ). n < 2 ^ 64) len c.in-Ok.ensures.fits in
    search (rules, fits)

pub loop-log-preserved : goal.loop-log-preserved
loop-log-preserved g c =
    let ok = c.in-Ok.ensures.ok in
    let script = c.args.script.now in
    let path = c.plan.inside.folder.now in
    let is = folder_at script c.loop-log.log c.log.result c.in-Some.plan path c.log.ensures.plan c.in-Some.is
    (ap (λ (p : Plan). p.folder) c.plan.view_is) in
    let below : c.loop-log.log + 1 ≤ count_by is_log script = search rules in (
      opens-log c.args.store.now c.loop-log.store c.open_log.new.self (folders_of script) c.loop-log.log path
          c.loop-log.invariant.0 is ok,
      longer c.loop-log.store.logs c.open_log.new.self.logs ok.folder c.loop-log.log ok.logs c.loop-log.invariant.1,
      below,
      c.in-Ok.ensures.well ∙ c.loop-log.invariant.3,
    )

pub returns-in-Err-clause-err : goal.returns-in-Err-clause-err
returns-in-Err-clause-err g c =
    let script = c.args.script.now in
    let path = c.plan.inside.folder.now in
    let is = folder_at script c.loop-log.log c.log.result c.in-Some.plan path c.log.ensures.plan c.in-Some.is
    (ap (λ (p : Plan). p.folder) c.plan.view_is) in
    unopened c.args.store.now c.loop-log.store c.open_log.new.self script c.loop-log.log path c.in-Err.error
    c.fault_of.result
    c.loop-log.invariant.0 c.loop-log.invariant.3 c.in-Err.ensures.err c.in-Err.ensures.asked c.in-Err.ensures.why is
    c.fault_of.ensures

pub returns-clause-ok : goal.returns-clause-ok
returns-clause-ok g c =
    let none : c.log.result ≡ None = search rules in
    opens-all-logs c.args.store.now c.loop-log.store (folders_of c.args.script.now) c.loop-log.log
    c.loop-log.invariant.0
    (no_folder_at c.args.script.now c.loop-log.log c.log.result c.log.ensures.plan none)
