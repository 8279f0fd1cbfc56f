use Rattle.std.proofs.Common.{◌≡◌, [], ◌∷◌, ◌++◌, ap, ◌∙◌}
use Rattle.svc_station.specs.Ends.{station}
use Rattle.svc_tests.proofs.TwoReaders.{all_two}
use Rattle.svc_tests.proofs.station.end_two.Goals as goal

pub end-requires : goal.end-requires
end-requires g c =
    let one = (rw c.expect.ensures at c.push.ensures.items) ∙ ap (λ l. l ++ c.args.first ∷ []) c.requires.room in
    let both = (rw c.expect-2.ensures at c.push-2.ensures.items) ∙ ap (λ l. l ++ c.args.second ∷ []) one in
    all_two (station c.args.writer) _ c.args.first c.args.second both c.requires.first c.requires.second
    c.requires.count
