-- Numbers that grow digit by digit, up to the greatest `u64`.
use Rattle.std.proofs.Common.{◌≡◌, ℕ, ◌+◌, ◌-◌, ◌*◌, ◌<◌, List, length, take, get_or, min, arith}
use Rattle.std.proofs.lemmas.List.Sums.{fold_more}
use Rattle.mlog_script.specs.Script.{number}

pub number_more : (digits : List ℕ) (i n m : ℕ) → i < length digits
    → n ≡ min (number (take i digits)) 18446744073709551615
    → m ≡ min (n * 10 + (get_or digits i 0 - 48)) 18446744073709551615
    → m ≡ min (number (take (i + 1) digits)) 18446744073709551615
number_more digits i n m within e f =
    let more : number (take (i + 1) digits) ≡ number (take i digits) * 10 + (get_or digits i 0 - 48) =
    fold_more (λ (n d : ℕ). n * 10 + (d - 48)) 0 digits i 0 within in
    omega (arith, e, f, more)
