-- What is asked of the maker, one call after the other.
use Rattle.std.proofs.Common.{List, ◌++◌, ◌∙◌}
use Rattle.svc_house.proofs.Extended.{extended-append}
use Rattle.svc_host.specs.Calls.{Call}
use Rattle.svc_host.specs.Rounds.{HostState}
use Rattle.cmd_svscan.specs.Asking.{IsAsked}

pub asked-then : (xs ys : List Call) (a b c : HostState) → IsAsked xs a b → IsAsked ys b c → IsAsked (xs ++ ys) a c
asked-then xs ys a b c p q = record {
  table = q.table ∙ p.table;
  parts = q.parts ∙ p.parts;
  calls = extended-append a.calls b.calls c.calls xs ys p.calls q.calls;
}
