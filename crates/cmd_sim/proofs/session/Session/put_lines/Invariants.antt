use Rattle.std.proofs.Common.{◌≡◌, map, take, string_bytes}
use Rattle.tai_status.specs.Block.{Puts}
use Rattle.cmd_base.specs.Printed.{printed}
use Rattle.cmd_sim.proofs.session.Session.put_lines.Given as goal

-- The lines so far are put.
abbrev pub invariant-loop-line : goal.invariant-loop-line
invariant-loop-line g l = record {
  puts : Puts l.fn.writer l.writer l.fn.self.waiting l.self.waiting
      (printed (map (λ line. string_bytes line) (take l.line-index l.lines)));
  faults : l.writer.faults ≡ l.fn.writer.faults;
  subject : l.self.subject ≡ l.fn.self.subject;
  count : l.self.count ≡ l.fn.self.count;
}
