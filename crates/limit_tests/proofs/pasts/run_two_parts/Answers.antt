use Rattle.std.proofs.Common.{◌≡◌, [], ◌∷◌, Some, None, List, length, codes, slice_get, ap, sym, subst, ◌∙◌}
use Rattle.std.specs.Option.{option_map}
use Rattle.mlog_script.specs.Script.{Act}
use Rattle.mlog_files.specs.Files.{Files}
use Rattle.mlog_files.specs.Memory.{state_of}
use Rattle.mlog_core.specs.Parts.{play, RunsParts}
use Rattle.limit_tests.specs.Parts.{behind, feed_of}
use Rattle.limit_tests.proofs.TwoParts.{two_parts, none_left, last_is_first}
use Rattle.limit_tests.proofs.pasts.run_two_parts.Goals as goal

pub returns : goal.returns
returns g c =
    let store = c.expect-store.result in
    let stored = c.run_parts.new.store in
    let empty : store.logs ≡ record { current = []; olds = [] } ∷ [] = rw c.expect-store.ensures at c.one_log.ensures in
    let given = c.new-input.result in
    let left = c.run_parts.new.input in
    let old = play
    (feed_of given.left.now (option_map (λ part. part.now) given.second) given.reads given.faults given.cause)
    (state_of store) (Some c.new-clock.result.readings.items) in
    let new = play
    (feed_of left.left.now (option_map (λ part. part.now) left.second) left.reads left.faults left.cause)
    (state_of stored) (Some c.run_parts.new.clock.readings.items) in
    let count : length stored.logs ≡ 1 =
    c.in_ok-run_parts.ensures.stays.logs ∙ ap (λ (l : List Files). length l) empty in
    let kept : c.take_apart-logs.result.0.items ≡ stored.logs = c.take_apart-logs.ensures.logs in
    let there : slice_get stored.logs 0 ≡ Some c.unwrap-files.result =
    last_is_first stored.logs c.pop.new.self.items c.pop.result c.unwrap-files.result
    (sym kept ∙ c.pop.ensures.items) c.unwrap-files.ensures count in
    two_parts (codes "./main") old new c.unwrap-files.result c.into_readings.result.items
    (ap Some c.new-input.ensures.first) (ap (λ s. Some (behind s)) c.new-input.ensures.second)
    (ap (λ (l : List Files). slice_get l 0) empty) (ap Some c.new-clock.ensures) there
    (ap Some (sym c.into_readings.ensures))
    (none_left (option_map (λ part. part.now) left.second) _)
    (subst (λ (script : List Act). RunsParts None script old new) c.requires c.in_ok-run_parts.ensures.runs)
