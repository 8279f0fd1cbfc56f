use Rattle.std.proofs.Common.{◌≤◌, ◌≡◌, ◌∙◌, true, false, length, ap, sym, rules}
use Rattle.cmd_multilog.specs.Stop.{Listening, left_in, behind_in}
use Rattle.cmd_multilog.proofs.Stopping.{reads_on, behind_on, behind_to_line}
use Rattle.cmd_multilog.proofs.stop.Stoppable.read_lines.Goals as goal

pub returns-then-not-self-clause-bytes : goal.returns-then-not-self-clause-bytes
returns-then-not-self-clause-bytes g c =
    let going : c.listen.new.self.stopped ≡ false = sym (ap (λ (l : Listening). l.stopped) c.self.view_is)
    ∙ c.if-not-self.true in
    reads_on (left_in c.args.self.now) c.listen.new.self c.take.new.self c.take.result c.take.new.into
    c.listen.ensures.left going c.take.ensures.word.stopped c.take.ensures.ok c.take.ensures.line c.take.ensures.end
    c.take.ensures.err

pub returns-then-not-self-clause-behind : goal.returns-then-not-self-clause-behind
returns-then-not-self-clause-behind g c =
    let going : c.listen.new.self.stopped ≡ false = sym (ap (λ (l : Listening). l.stopped) c.self.view_is)
    ∙ c.if-not-self.true in
    behind_on (behind_in c.args.self.now) c.listen.new.self c.take.new.self c.take.result c.take.new.into
    c.listen.ensures.behind going c.take.ensures.word.stopped c.take.ensures.ok c.take.ensures.line c.take.ensures.err

pub returns-clause-behind : goal.returns-clause-behind
returns-clause-behind g c =
    let stopped : c.listen.new.self.stopped ≡ true = sym (ap (λ (l : Listening). l.stopped) c.self.view_is)
    ∙ c.if-not-self.false in
    let begun : c.listen.new.self.in_line ≡ true = sym (ap (λ (l : Listening). l.in_line) c.self.view_is)
    ∙ c.if-not-self-2.false in
    let one : length c.take-2.new.into ≤ 1 = search rules in
    behind_to_line (behind_in c.args.self.now) c.listen.new.self c.take-2.new.self c.take-2.result c.take-2.new.into
    c.listen.ensures.behind stopped begun c.take-2.ensures.word.stopped c.take-2.ensures.word.rotates one
    c.take-2.ensures.ok c.take-2.ensures.line c.take-2.ensures.err
