-- Within the watch over one service.
use Rattle.std.proofs.Common.{ℕ, List, [], ◌∷◌, ◌++◌, map, flat_map, Option, refl, sym, subst}
use Rattle.std.proofs.lemmas.List.{map-append}
use Rattle.tai_status.specs.Counted.{Device}
use Rattle.tai_status.specs.Extended.{Extended}
use Rattle.svc_host.specs.declared.maker.PartFault.{PartFault}
use Rattle.svc_host.specs.declared.part.Loss.{Loss}
use Rattle.svscan_rounds.specs.declared.service_set.Sight.TheVariants.{Runs, Gone}
use Rattle.svscan_rounds.specs.Calls.{Call, Watched}
use Rattle.svscan_rounds.specs.Rounds.{Effects, ReportsAll}
use Rattle.svscan_rounds.specs.Supervise.{Outlasts, lines_of_kept, lines_of_loss, still_runs}
use Rattle.svscan_rounds.proofs.Reporting.{extended-none, extended-then, reports-then}
use Rattle.svscan_rounds.proofs.Turning.{flat_map-push}

-- each time it ran, and what was lacking was reported
pub record IsWatched (folder : List ℕ) (old now : Effects) : Type 0 where
  pub faults : List (Option PartFault)
  pub calls : Extended old.calls now.calls (map still_runs faults)
  pub reported : ReportsAll (flat_map (lines_of_kept folder) faults) old.faults now.faults

pub watched-none : (folder : List ℕ) (old : Effects) → IsWatched folder old old
watched-none folder old = record { faults = []; calls = extended-none old.calls; reported = refl }

pub watched-more : (folder : List ℕ) (old mid new : Effects) (fault : Option PartFault) → IsWatched folder old mid
    → Extended mid.calls new.calls (Watched (Runs fault) ∷ [])
    → ReportsAll (lines_of_kept folder fault) mid.faults new.faults → IsWatched folder old new
watched-more folder old mid new fault so_far watched reported = record {
  faults = so_far.faults ++ fault ∷ [];
  calls = subst (λ (l : List Call). Extended old.calls new.calls l)
      (sym (map-append still_runs so_far.faults (fault ∷ [])))
      (extended-then old.calls mid.calls new.calls _ _ so_far.calls watched);
  reported = subst (λ (l : List (List ℕ)). ReportsAll l old.faults new.faults)
      (sym (flat_map-push (lines_of_kept folder) so_far.faults fault))
      (reports-then _ _ old.faults mid.faults new.faults so_far.reported reported);
}

pub watched-ends : (folder : List ℕ) (old mid new : Effects) (loss : Loss) → IsWatched folder old mid
    → Extended mid.calls new.calls (Watched (Gone loss) ∷ [])
    → ReportsAll (lines_of_loss folder loss) mid.faults new.faults → Outlasts folder old new
watched-ends folder old mid new loss so_far watched reported = record {
  faults = so_far.faults;
  loss = loss;
  calls = extended-then old.calls mid.calls new.calls _ _ so_far.calls watched;
  reported = reports-then _ _ old.faults mid.faults new.faults so_far.reported reported;
}
