use Rattle.h5w_live.proofs.joining.finish.Goals as goal

pub settled-report-requires : goal.settled-report-requires
settled-report-requires g c = c.requires

pub returns-clause-reports : goal.returns-clause-reports
returns-clause-reports g c = c.settled-report.ensures.reports

pub returns-clause-accepted : goal.returns-clause-accepted
returns-clause-accepted g c = c.settled-report.ensures.accepted

pub returns-clause-cause : goal.returns-clause-cause
returns-clause-cause g c = c.settled-report.ensures.cause
