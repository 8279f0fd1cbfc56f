use Rattle.std.proofs.Common.{◌<◌, sym, subst, not}
use Rattle.std.proofs.lemmas.List.Kept.{AllPairs-filter}
use Rattle.suite_core.specs.Parts.{PartState, is_of}
use Rattle.suite_core.specs.Places.{AreRising, rank}
use Rattle.suite_core.proofs.scan.change.Goals as goal

pub restart_in-requires : goal.restart_in-requires
restart_in-requires g c =
    subst (λ parts. AreRising parts) (sym c.keep.ensures.items)
    (AllPairs-filter (λ (a : PartState) (b : PartState). rank a.id < rank b.id)
    (λ part. not (is_of c.args.dropped.now part)) c.args.parts.now.items c.requires.rising)
