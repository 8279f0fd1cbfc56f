-- Names in byte order.
use Rattle.std.proofs.Common.{◌≡◌, ℕ, true, false, List, [], ◌∷◌, refl, ap, map}
use Rattle.std.specs.Cmp.Lexicographic.{slice_cmp}
use Rattle.std.specs.Ordering.{is_lt, nat_cmp}
use Rattle.std.specs.Prelude.{if◌then◌else◌}
use Rattle.mlog_files.specs.Files.{Old, with_old}
use Rattle.cmd_multilog.specs.Names.{with_name}

-- The names of old files, with one more.
pub names-with_old : (old : Old) (olds : List Old)
    → map (λ (o : Old). o.name) (with_old old olds) ≡ with_name old.name (map (λ (o : Old). o.name) olds)
names-with_old old [] = refl
names-with_old old (first ∷ olds) =
    elim (is_lt (slice_cmp nat_cmp first.name old.name)) as (λ b.
    map (λ (o : Old). o.name) (if b then first ∷ with_old old olds else old ∷ first ∷ olds)
    ≡ (if b then first.name ∷ with_name old.name (map (λ (o : Old). o.name) olds) else old.name ∷ first.name
    ∷ map (λ (o : Old). o.name) olds)) [
      | true ↦ ap (λ (t : List (List ℕ)). first.name ∷ t) (names-with_old old olds)
      | false ↦ refl
    ]
