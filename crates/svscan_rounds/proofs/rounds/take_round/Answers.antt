use Rattle.std.proofs.Common.{rules, List, ℕ, [], ◌∷◌, ◌++◌, subst, Ok, Err, refl}
use Rattle.std.specs.Prelude.{codes}
use Rattle.tai_status.specs.Counted.{Reports}
use Rattle.svscan_rounds.specs.Calls.{Listed, Scanned}
use Rattle.svscan_rounds.specs.Rounds.{Fails, Scan, Unlisted, kind_name}
use Rattle.svscan_rounds.specs.Rounds.{lines_of_fault, lines_of_listed, lines_of_listing, lines_of_out}
use Rattle.svscan_rounds.proofs.Reporting.{extended-then, reports-one, reports-then}
use Rattle.svscan_rounds.proofs.rounds.take_round.Goals as goal

pub returns-in-Err-clause-round : goal.returns-in-Err-clause-round
returns-in-Err-clause-round g c =
    let fault = c.in-Err.fault in (
      Unlisted fault,
      tt,
      record { calls = c.in-Err.ensures.listed; reported = c.report_unlisted.ensures },
      c.is_listed_after.ensures,
    )

pub returns-in-Ok-round-clause-round : goal.returns-in-Ok-round-clause-round
returns-in-Ok-round-clause-round g c =
    let folder = c.args.folder.now in
    let listing = c.in-Ok.listing in
    let out = c.in-Ok-round.out in
    let calls = g.K.ServiceSet.calls in (
      Scan listing out,
      tt,
      record {
        calls = extended-then (calls c.args.services.now) (calls c.list.new.self) (calls c.round.new.self)
            (Listed folder (Ok listing) ∷ []) (Scanned folder listing.rows.items (Ok out) ∷ [])
            c.in-Ok.ensures.listed c.in-Ok-round.ensures.scanned;
        reported = reports-then (lines_of_listed folder c.args.is_listed.now)
            (lines_of_listing listing.unnamed listing.shortage ++ lines_of_out out)
            c.args.faults.now c.report_listed.new.faults c.report_out.new.faults c.report_listed.ensures
            (reports-then (lines_of_listing listing.unnamed listing.shortage) (lines_of_out out)
            c.report_listed.new.faults c.report_listing.new.faults c.report_out.new.faults
            c.report_listing.ensures c.report_out.ensures);
      },
      refl,
    )

pub returns-in-Err-round-clause-round : goal.returns-in-Err-round-clause-round
returns-in-Err-round-clause-round g c =
    let folder = c.args.folder.now in
    let listing = c.in-Ok.listing in
    let fault = c.in-Err-round.fault in
    let calls = g.K.ServiceSet.calls in
    let middle = c.report_listing.new.faults in
    let new = c.report_parts.new.faults in
    let reported = subst (λ (k : List ℕ). Reports middle new (codes "svscan: " ++ (k ++ 10 ∷ []))) c.kind.ensures
    c.report_parts.ensures.reported in (
      Fails listing fault,
      search rules,
      record {
        calls = extended-then (calls c.args.services.now) (calls c.list.new.self) (calls c.round.new.self)
            (Listed folder (Ok listing) ∷ []) (Scanned folder listing.rows.items (Err fault) ∷ [])
            c.in-Ok.ensures.listed c.in-Err-round.ensures.scanned;
        reported = reports-then (lines_of_listed folder c.args.is_listed.now)
            (lines_of_listing listing.unnamed listing.shortage ++ lines_of_fault fault)
            c.args.faults.now c.report_listed.new.faults new c.report_listed.ensures
            (reports-then (lines_of_listing listing.unnamed listing.shortage) (lines_of_fault fault)
            c.report_listed.new.faults middle new c.report_listing.ensures
            (reports-one (codes "svscan: " ++ (kind_name fault ++ 10 ∷ [])) middle new reported));
      },
      refl,
    )
