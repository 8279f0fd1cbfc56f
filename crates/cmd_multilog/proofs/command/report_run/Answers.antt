use Rattle.cmd_multilog.proofs.command.report_run.Goals as goal

pub returns-in-Read-clause-reported : goal.returns-in-Read-clause-reported
returns-in-Read-clause-reported g c = rw c.in-Read.is c.report_device.ensures.reported

pub returns-in-Store-clause-reported : goal.returns-in-Store-clause-reported
returns-in-Store-clause-reported g c = rw c.in-Store.is c.report_store.ensures.reported

pub returns-in-OutOfMemory-clause-reported : goal.returns-in-OutOfMemory-clause-reported
returns-in-OutOfMemory-clause-reported g c = rw c.in-OutOfMemory.is c.report.ensures.reported

pub returns-in-LabelsSpent-clause-reported : goal.returns-in-LabelsSpent-clause-reported
returns-in-LabelsSpent-clause-reported g c = rw c.in-LabelsSpent.is c.report-in-LabelsSpent.ensures.reported
