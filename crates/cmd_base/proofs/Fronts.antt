-- A buffer that is filled piece by piece.
use Rattle.std.proofs.Common.{◌≡◌, ℕ, ◌+◌, ◌≤◌, List, ◌++◌, length, take, drop, ap, ◌∙◌, le_refl, drop_at}
use Rattle.std.proofs.Common.{length-take-le}
use Rattle.std.proofs.lemmas.Slice.{take-put_mid_below}
use borrow.Rule.Slice.PartMut.{put_mid, post_of}
use lib.Seq.{take-add, take-append-le}

-- the front of a buffer after a read into the place from `from` on, which gave this many bytes
pub filled-more : (from room count : ℕ) (old new : List ℕ) → from ≤ length old → count ≤ length new
    → take (from + count) (put_mid from room old new) ≡ take from old ++ take count new
filled-more from room count old new within fits =
    let after = post_of from room old in
    let all = put_mid from room old new in
    let behind : drop from all ≡ new ++ after =
    drop_at (take from old) (new ++ after) from (length-take-le from old within) in
    take-add from count all
    ∙ ap (λ (l : List ℕ). l ++ take count (drop from all)) (take-put_mid_below _ _ _ _ _ (le_refl _) within)
    ∙ ap (λ (l : List ℕ). take from old ++ l) (ap (take count) behind ∙ take-append-le count new after fits)
