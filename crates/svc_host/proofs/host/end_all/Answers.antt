use Rattle.std.proofs.Common.{◌≡◌, ℕ, ◌+◌, ◌<◌, List, length, get_or, sym, subst, ap, ◌∙◌, drop, suc, arith}
use Rattle.std.proofs.Math.Seq.{drop-cons}
use Rattle.scan_table.specs.Table.{TableState, after_end}
use Rattle.svc_host.specs.declared.host.Unmade.{Unmade}
use Rattle.svc_host.specs.declared.maker.PartFault.TheVariants.{Locked}
use Rattle.svc_host.specs.Rounds.{after_ends, unmade_ids}
use Rattle.svc_host.proofs.Tables.{past}
use Rattle.svc_host.proofs.host.end_all.Goals as goal

-- the default for what is read past the end of the list
abbrev none : Unmade
none = record { part = past; fault = Locked }

-- the table after those that are left
ends_next : (failed : List Unmade) (k : ℕ) (d : Unmade) (table whole : TableState) → k < length failed
    → after_ends (unmade_ids (drop k failed)) table ≡ whole
    → after_ends (unmade_ids (drop (suc k) failed)) (after_end table (get_or failed k d).part) ≡ whole
ends_next failed k d table whole less is =
    sym (ap (λ (left : List Unmade). after_ends (unmade_ids left) table) (drop-cons failed k d less)) ∙ is

pub loop-unmade-preserved : goal.loop-unmade-preserved
loop-unmade-preserved c =
    let k = c.loop-unmade.unmade-index in
    let failed = c.args.failed.now in
    let next : k + 1 ≡ suc k = omega arith in
    subst (λ n. after_ends (unmade_ids (drop n failed)) c.ended.new.self
    ≡ after_ends (unmade_ids failed) c.args.table.now) (sym next)
    (ap (λ table. after_ends (unmade_ids (drop (suc k) failed)) table) c.ended.ensures.table
    ∙ ends_next failed k none c.loop-unmade.table _ c.loop-unmade-test.true c.loop-unmade.invariant)
