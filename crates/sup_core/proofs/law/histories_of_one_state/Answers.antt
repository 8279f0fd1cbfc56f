use Rattle.sup_core.proofs.Laws.{after-state, replies_to-state, after-cut, replies_to-cut}
use Rattle.sup_core.proofs.law.histories_of_one_state.Goals as goal

pub returns-clause-state : goal.returns-clause-state
returns-clause-state c = after-state

pub returns-clause-replies : goal.returns-clause-replies
returns-clause-replies c = replies_to-state

pub returns-clause-state_cut : goal.returns-clause-state_cut
returns-clause-state_cut c = after-cut

pub returns-clause-replies_cut : goal.returns-clause-replies_cut
returns-clause-replies_cut c = replies_to-cut
