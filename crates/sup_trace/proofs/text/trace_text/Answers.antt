use Rattle.std.proofs.Common.{length-append}
use Rattle.sup_core.specs.Rules.{IsEvent}
use Rattle.sup_core.specs.Reading.{IsInRange}
use Rattle.sup_trace.specs.Text.{header, base_text, end_text}
use Rattle.sup_trace.proofs.Lists.{AllByRecursion-left, AllByRecursion-right, AllByRecursion-joined}
use Rattle.sup_trace.proofs.Written.{lines-written}
use Rattle.sup_trace.proofs.text.trace_text.Goals as goal

pub push_entries-requires : goal.push_entries-requires
push_entries-requires g c = AllByRecursion-left IsEvent c.args.first.now c.args.second.now c.requires.events

pub push_entries-requires-2 : goal.push_entries-requires-2
push_entries-requires-2 g c = AllByRecursion-right IsEvent c.args.first.now c.args.second.now c.requires.events

pub returns-clause-text : goal.returns-clause-text
unfolding header
returns-clause-text g c =
    rw (
      c.in_ok-push_end.ensures,
      c.in_ok-push_entries-2.ensures.text,
      c.in_ok-push_entries.ensures.text,
      c.in_ok-push_base.ensures.text,
      c.in_ok-extend_from_slice.ensures.items,
      c.in_ok-out.ensures.items,
      length-append c.args.first.now c.args.second.now,
    )
    (lines-written header (base_text c.args.folded c.args.base.now) (end_text _) c.args.first.now c.args.second.now)

pub returns-clause-state : goal.returns-clause-state
returns-clause-state g c = c.in_ok-push_base.ensures.state

pub returns-clause-status : goal.returns-clause-status
returns-clause-status g c = c.in_ok-push_base.ensures.status

pub returns-clause-until : goal.returns-clause-until
returns-clause-until g c = c.in_ok-push_base.ensures.until

pub returns-clause-entries : goal.returns-clause-entries
returns-clause-entries g c =
    AllByRecursion-joined IsInRange c.args.first.now c.args.second.now c.in_ok-push_entries.ensures.range
    c.in_ok-push_entries-2.ensures.range
