-- How `svstat` ends, by its words; the first one may ask for a page.
use Rattle.std.specs.Prelude.{◌≡◌, ◌≢◌, ℕ, List, [], ◌∷◌, codes}
use Rattle.tai_status.specs.Counted.{Device}
use Rattle.svc_client.specs.Sight.{Sight}
use Rattle.cmd_report.specs.Ends.{ReportEnds}
use Rattle.cmd_why.specs.Texts.{Knowledge}
use Rattle.cmd_page.specs.PageEnds.{PageEnds}

-- The first word asks for a page about the services after it. Or it names another form, or a service.
pub record FormEnds (known : Knowledge) (word : List ℕ) (services : List (List ℕ)) (status : ℕ) (sight sees : Sight)
    (writer writes faults reports : Device) : Type 0 where
  pub html : word ≡ codes "--html" → PageEnds known services status sight sees writer writes faults reports
  pub others : word ≢ codes "--html"
      → ReportEnds (word ∷ services) status sight sees writer writes faults reports

abbrev pub ViewEnds : (known : Knowledge) (words : List (List ℕ)) (status : ℕ) (sight sees : Sight)
    (writer writes faults reports : Device) → Type 0
ViewEnds known [] status sight sees writer writes faults reports =
    ReportEnds [] status sight sees writer writes faults reports
ViewEnds known (word ∷ services) status sight sees writer writes faults reports =
    FormEnds known word services status sight sees writer writes faults reports
