use Rattle.std.proofs.Common.{List, ℕ, sym, subst}
use Rattle.star_match.specs.Star.{Matches}
use Rattle.star_match.proofs.HasPairs.{needs_set}
use Rattle.star_match.proofs.pairs.NotedText.has_needs.Goals as goal

pub returns : goal.returns
returns c = λ pattern are m.
    needs_set c.self.inside.places c.self.inside.text.now pattern c.args.needs.now c.self.invariant are
    (subst (λ (t : List ℕ). Matches pattern t) (sym c.self.view_is) m)
