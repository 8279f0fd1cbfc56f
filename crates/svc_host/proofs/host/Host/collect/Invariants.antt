use Rattle.std.proofs.Common.{◌≡◌, ◌≤◌, ℕ, length, slice_index_or}
use Rattle.svc_host.specs.Parts.{HostPart}
use Rattle.svc_host.specs.Rounds.{AreCollected}
use Rattle.svc_host.proofs.host.Host.collect.Given as goal

abbrev pub invariant-loop-place : goal.invariant-loop-place
invariant-loop-place g l = record {
  collected : AreCollected l.fn.self l.self;
  count : length l.self.parts ≡ length l.fn.self.parts;
  left : (k : ℕ) (d : HostPart) → l.place ≤ k → slice_index_or l.self.parts k d ≡ slice_index_or l.fn.self.parts k d;
}
