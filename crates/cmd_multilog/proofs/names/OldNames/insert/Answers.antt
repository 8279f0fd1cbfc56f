use Rattle.std.proofs.Common.{◌≡◌, ◌++◌, ◌∷◌, List, ℕ, take, drop, is_ok, subst}
use Rattle.cmd_multilog.specs.Names.{with_name}
use Rattle.cmd_multilog.proofs.Ordered.{ordered_put}
use Rattle.cmd_multilog.proofs.names.OldNames.insert.Goals as goal

pub invariant_of-self : goal.invariant_of-self
invariant_of-self g c =
    let place : ℕ = c.place_of-place.result in
    record {
      in_order = ordered_put (is_ok c.insert.result) c.args.name c.args.self.now.names.items c.insert.new.self.items
          place c.args.self.now.in_order
          (subst (λ (names : List (List ℕ)). with_name c.args.name names ≡ take place names ++ c.args.name
          ∷ drop place names) c.deref.ensures.value
          (subst (λ (name : List ℕ). with_name name c.deref.result.now ≡ take place c.deref.result.now ++ name
          ∷ drop place c.deref.result.now)
          c.as_slice.ensures c.place_of-place.ensures.place))
          c.insert.ensures.items;
    }
