use Rattle.std.proofs.Common.{◌∙◌, ◌++◌, Err, ap, sym, rules}
use Rattle.std.proofs.lemmas.Result.{err_from_is_err_and}
use Rattle.cmd_svc.proofs.Walk.{reported_first, taken_first, letters_next}
use Rattle.cmd_svc.proofs.words.read_letters.Goals as goal

pub returns-in_err-add_all-clause-fault : goal.returns-in_err-add_all-clause-fault
returns-in_err-add_all-clause-fault c =
    let fault = reported_first c.args.words.now c.loop-word.word-index _ c.letters_of.result.now _ _
    c.loop-word-test.true
    (sym c.if-not-is_option.ensures) c.letters_of.ensures c.loop-word.invariant.0 c.add_all.ensures.fault
    c.in_err-add_all.was in
    let passed = err_from_is_err_and c.from_residual.result c.from_residual.ensures.1 in
    rw (fault.1, passed.1, passed.2) (ap Err fault.2)

pub loop-word-preserved : goal.loop-word-preserved
loop-word-preserved c =
    let later = taken_first c.args.words.now c.loop-word.word-index _ c.letters_of.result.now _ _ c.loop-word-test.true
    (sym c.if-not-is_option.ensures) c.letters_of.ensures c.add_all.ensures.fault c.in_ok-add_all.was in
    let before = c.loop-word.invariant.1.0 in (
      later ∙ c.loop-word.invariant.0,
      (
        before ++ c.letters_of.result.now,
        search (rules, c.in_ok-add_all.ensures.bytes before c.loop-word.invariant.1.1),
        letters_next c.args.words.now c.loop-word.word-index _ c.letters_of.result.now before _ c.loop-word-test.true
            (sym c.if-not-is_option.ensures) c.letters_of.ensures c.loop-word.invariant.1.2,
      ),
    )
