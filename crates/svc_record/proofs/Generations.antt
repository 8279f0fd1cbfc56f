-- Going up through the generations of ancestors.
use Rattle.std.proofs.Common.{◌≡◌, ℕ, ◌-◌, ◌+◌, ◌<◌, ◌≤◌, ◌||◌, Bool, false, zero, suc, List, arith, refl, ap, ◌∙◌}
use Rattle.std.specs.Option.{option_map_or}
use Rattle.svc_record.specs.declared.leftover.Seen.{Seen}
use Rattle.svc_record.specs.declared.leftover.Intent.{Intent}
use Rattle.svc_record.specs.Leftover.{if_new, is_known, parent_in, topmost}

one_passed : (all passed : ℕ) → passed < all → all - passed ≡ suc (all - (passed + 1))
one_passed all passed below = omega (arith, below)

-- one generation up
pub topmost_step : (generations passed : ℕ) (intent : Intent) (all : List Seen) (one : Seen) → passed < generations
    → topmost (generations - passed) intent all one
    ≡ option_map_or (topmost (generations - (passed + 1)) intent all) (if_new intent (parent_in all one)) one
unfolding topmost
topmost_step generations passed intent all one below =
    ap (λ (n : ℕ). topmost n intent all one) (one_passed generations passed below)

pub known_step : (generations passed : ℕ) (all : List Seen) (one : Seen) → passed < generations
    → is_known (generations - passed) all one
    ≡ (one.is_known || option_map_or (is_known (generations - (passed + 1)) all) (parent_in all one) false)
unfolding is_known
known_step generations passed all one below =
    ap (λ (n : ℕ). is_known n all one) (one_passed generations passed below)

-- no generation is left
none_left : (all passed : ℕ) → all ≤ passed → all - passed ≡ 0
none_left all passed above = omega (arith, above)

pub topmost_end : (generations passed : ℕ) (intent : Intent) (all : List Seen) (one : Seen) → generations ≤ passed
    → topmost (generations - passed) intent all one ≡ one
unfolding topmost
topmost_end generations passed intent all one above =
    ap (λ (n : ℕ). topmost n intent all one) (none_left generations passed above)

pub known_end : (generations passed : ℕ) (all : List Seen) (one : Seen) → generations ≤ passed
    → is_known (generations - passed) all one ≡ false
unfolding is_known
known_end generations passed all one above =
    ap (λ (n : ℕ). is_known n all one) (none_left generations passed above)
