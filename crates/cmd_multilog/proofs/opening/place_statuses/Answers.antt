use Rattle.std.proofs.Common.{rules, refl, ◌∙◌, ap, ◌≡◌, ◌+◌, ◌≤◌, subst, ℕ, arith, length, None, Some, count_by}
use Rattle.std.proofs.Common.{◌<◌, ◌^◌}
use Rattle.std.specs.Prelude.{slice_get}
use Rattle.mlog_script.specs.Script.{is_file, file_paths}
use Rattle.cmd_multilog.proofs.Openings.{opens-none, opens-status, opens-all-files, longer}
use Rattle.cmd_multilog.proofs.opening.place_statuses.Goals as goal

pub loop-file-init : goal.loop-file-init
loop-file-init g c = (opens-none c.args.store.now, ap length c.requires.none, omega arith, refl)

pub overflow_add-file : goal.overflow_add-file
overflow_add-file g c =
    let ok = c.in_ok-add_status.ensures.ok in
    let len = longer c.loop-file.store.statuses c.add_status.new.self.statuses ok.status c.loop-file.file ok.statuses
    c.loop-file.invariant.1 in
    let fits : c.loop-file.file + 1 < 2 ^ 64 = subst (λ (n : ℕ). n < 2 ^ 64) len c.in_ok-add_status.ensures.fits in
    search (rules, fits)

pub loop-file-preserved : goal.loop-file-preserved
loop-file-preserved g c =
    let ok = c.in_ok-add_status.ensures.ok in
    let paths = file_paths c.args.script.now in
    let path = c.in-Some.path.now in
    let is : slice_get paths c.loop-file.file ≡ Some path = search rules in
    let below : c.loop-file.file + 1 ≤ count_by is_file c.args.script.now = search rules in (
      opens-status c.args.store.now c.loop-file.store c.add_status.new.self paths c.loop-file.file path
          c.loop-file.invariant.0 is ok,
      longer c.loop-file.store.statuses c.add_status.new.self.statuses ok.status c.loop-file.file ok.statuses
          c.loop-file.invariant.1,
      below,
      c.add_status.ensures.gave ∙ c.loop-file.invariant.3,
    )

pub returns-clause-ok : goal.returns-clause-ok
returns-clause-ok g c =
    let none : slice_get (file_paths c.args.script.now) c.loop-file.file ≡ None = search rules in
    opens-all-files c.args.store.now c.loop-file.store (file_paths c.args.script.now) c.loop-file.file
    c.loop-file.invariant.0 none
