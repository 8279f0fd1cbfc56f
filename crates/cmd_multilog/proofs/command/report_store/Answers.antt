use Rattle.cmd_multilog.proofs.command.report_store.Goals as goal

pub returns-in-Some-clause-reported : goal.returns-in-Some-clause-reported
returns-in-Some-clause-reported g c = rw c.in-Some.is c.report_trouble.ensures.reported

pub returns-in-None-clause-reported : goal.returns-in-None-clause-reported
returns-in-None-clause-reported g c = rw c.in-None.is c.report.ensures.reported
