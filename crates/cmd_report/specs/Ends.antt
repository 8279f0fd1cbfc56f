-- How `svstat` ends, by its words; the first one may name a form.
use Rattle.std.specs.Prelude.{◌≡◌, ◌≢◌, ℕ, List, [], ◌∷◌, codes}
use Rattle.tai_status.specs.Counted.{Device}
use Rattle.svc_client.specs.Sight.{Sight}
use Rattle.cmd_svc.specs.Svstat.{SvstatEnds, shown_line}
use Rattle.cmd_report.specs.JsonEnds.{JsonEnds}
use Rattle.cmd_report.specs.MetricsEnds.{MetricsEnds}

-- The first word names the form of the reports on the services after it; or it is a service, and the form is svstat's.
pub record FormEnds (word : List ℕ) (services : List (List ℕ)) (status : ℕ) (sight sees : Sight)
    (writer writes faults reports : Device) : Type 0 where
  pub json : word ≡ codes "--json" → JsonEnds services status sight sees writer writes faults reports
  pub metrics : word ≡ codes "--metrics" → MetricsEnds services status sight sees writer writes faults reports
  pub plain : (word ≢ codes "--json") × (word ≢ codes "--metrics")
      → SvstatEnds shown_line (word ∷ services) status sight sees writer writes faults reports

abbrev pub ReportEnds : (words : List (List ℕ)) (status : ℕ) (sight sees : Sight)
    (writer writes faults reports : Device) → Type 0
ReportEnds [] status sight sees writer writes faults reports =
    SvstatEnds shown_line [] status sight sees writer writes faults reports
ReportEnds (word ∷ services) status sight sees writer writes faults reports =
    FormEnds word services status sight sees writer writes faults reports
