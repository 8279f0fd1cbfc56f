use Rattle.suite_lines.proofs.EventTexts.{read-found, read-only}
use Rattle.suite_lines.proofs.reading.read_suite_event.Goals as goal

pub returns-clause-found : goal.returns-clause-found
returns-clause-found g c = read-found c.args.line.now c.parse_suite_event.result c.parse_suite_event.ensures

pub returns-clause-only : goal.returns-clause-only
returns-clause-only g c =
    λ event so is. read-only c.args.line.now c.parse_suite_event.result event so is c.parse_suite_event.ensures
