use Rattle.star_match.proofs.HasPairs.{refused}
use Rattle.star_match.proofs.pattern.Pattern.matches_noted.Goals as goal

pub returns-else-has_needs-clause-answer : goal.returns-else-has_needs-clause-answer
returns-else-has_needs-clause-answer g c =
    refused c.self.inside.needs c.self.inside.bytes.items c.args.self.now c.args.text.now c.has_needs.result
    c.self.view_is c.self.invariant.1 c.has_needs.ensures c.if-has_needs.false
