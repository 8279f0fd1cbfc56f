-- What is taken up, and when nobody is left.
use Rattle.std.proofs.Common.{◌≡◌, ◌<◌, ◌≤◌, ◌+◌, ℕ, zero, suc, Bool, true, false, List, [], ◌∷◌, length, refl, sym, ap, cond}
use Rattle.std.proofs.Common.{Option, Some, None, ◌∙◌, arith}
use Rattle.std.specs.Prelude.{not, ◌&&◌, nat_le, is_none}
use Rattle.std.specs.List.{find, Contains}
use Rattle.svc_record.specs.declared.leftover.Seen.{Seen}
use Rattle.svc_record.specs.declared.leftover.Intent.{Intent}
use Rattle.svc_record.specs.declared.leftover.Leftover.{Leftover}
use Rattle.svc_record.specs.declared.leftover.Leftover.TheVariants.{Nobody, Process, Unsure}
use Rattle.svc_record.specs.Leftover.{IsOwnProcess, NobodyIsLeft, TakesUpItsOwn}
use Rattle.svc_record.specs.Leftover.{find_leftover, first_root, first_stray, has_other_root, is_above_here, is_known, is_new}
use Rattle.svc_record.specs.Leftover.{is_open, is_root, is_sure, left_by, may_be_started, with_root, without_root}

first_true : (a b : Bool) → (a && b) ≡ true → a ≡ true
first_true true b both = refl
first_true false b both = absurd (cc both)

second_true : (a b : Bool) → (a && b) ≡ true → b ≡ true
second_true true b both = both
second_true false b both = absurd (cc both)

is_false : (a : Bool) → not a ≡ true → a ≡ false
is_false true is = absurd (cc is)
is_false false is = refl

no_value : {X : Type 0} (o : Option X) → is_none o ≡ true → o ≡ None
no_value None is = refl
no_value (Some x) is = absurd (cc is)

at_most : (a b : ℕ) → nat_le a b ≡ true → a ≤ b
at_most a b is = grind (arith, is)

-- An element that is found is in the list, and passes the test.
abbrev IsFoundIn : {X : Type 0} (test : X → Bool) (xs : List X) (y : X) → Type 0
IsFoundIn test xs y = Contains xs y × (test y ≡ true)

first_found : {X : Type 0} (test : X → Bool) (x : X) (xs : List X) (y : X) → test x ≡ true → x ≡ y
    → IsFoundIn test (x ∷ xs) y
first_found test x xs y passes is = ((zero, omega arith, is), ap test (sym is) ∙ passes)

found_step : {X : Type 0} (test : X → Bool) (x : X) (xs : List X) (y : X) (passes : Bool) → test x ≡ passes
    → (find test xs ≡ Some y → IsFoundIn test xs y)
    → cond passes (Some x) (find test xs) ≡ Some y → IsFoundIn test (x ∷ xs) y
found_step test x xs y true passes later is = first_found test x xs y passes (cc is)
found_step test x xs y false passes later is =
    let rest = later is in ((suc (rest.0.0), omega (arith, rest.0.1), rest.0.2), rest.1)

found_in : {X : Type 0} (test : X → Bool) (xs : List X) (y : X) → find test xs ≡ Some y → IsFoundIn test xs y
found_in test [] y is = absurd (cc is)
found_in test (x ∷ xs) y is = found_step test x xs y (test x) refl (found_in test xs y) is

abbrev IsTakenUp : (generations : ℕ) (intent : Intent) (all : List Seen) (pid tick : ℕ) → Type 0
IsTakenUp generations intent all pid tick =
    (one : Seen) × IsOwnProcess generations intent all one × (one.pid ≡ pid) × (one.tick ≡ tick)
    × (first_stray generations intent all ≡ None)

-- a root that is sure
own : (generations : ℕ) (intent : Intent) (all : List Seen) (root : Seen) → Contains all root
    → is_root generations intent all root ≡ true → is_sure generations intent all root ≡ true
    → IsOwnProcess generations intent all root
own generations intent all root seen is_root is_sure =
    let opens = first_true _ _ is_root in
    let is_new = first_true _ _ opens in
    let apart = second_true (may_be_started intent root) _ is_sure in
    record {
      seen = seen;
      alive = is_false _ (first_true _ _ is_new);
      since = at_most _ _ (second_true _ _ is_new);
      unknown = is_false _ (second_true _ _ opens);
      not_elsewhere = is_false _ (first_true _ _ apart);
      session = first_true _ _ is_sure;
    }

no_stray : (generations : ℕ) (intent : Intent) (all : List Seen) (root : Seen)
    → is_sure generations intent all root ≡ true → first_stray generations intent all ≡ None
no_stray generations intent all root is_sure =
    let apart = second_true (may_be_started intent root) _ is_sure in
    let alone = second_true (not root.is_elsewhere) _ apart in
    no_value _ (second_true (not (has_other_root generations intent all root.pid)) _ alone)

took_root : (generations : ℕ) (intent : Intent) (all : List Seen) (pid tick : ℕ) (root : Seen)
    → first_root generations intent all ≡ Some root → (sure : Bool) → is_sure generations intent all root ≡ sure
    → with_root sure root ≡ Process pid tick → IsTakenUp generations intent all pid tick
took_root generations intent all pid tick root found false is_sure is = absurd (cc is)
took_root generations intent all pid tick root found true is_sure is =
    let found = found_in (λ one. is_root generations intent all one) all root found in (
      root,
      own generations intent all root found.0 found.1 is_sure,
      cc is,
      cc is,
      no_stray generations intent all root is_sure,
    )

none_taken : (stray : Option Seen) (pid tick : ℕ) → without_root stray ≡ Process pid tick → ⊥
none_taken None pid tick is = cc is
none_taken (Some stray) pid tick is = cc is

took : (generations : ℕ) (intent : Intent) (all : List Seen) (pid tick : ℕ) (root : Option Seen)
    → first_root generations intent all ≡ root → left_by generations intent all root ≡ Process pid tick
    → IsTakenUp generations intent all pid tick
took generations intent all pid tick None found is =
    absurd (none_taken (first_stray generations intent all) pid tick is)
took generations intent all pid tick (Some root) found is =
    took_root generations intent all pid tick root found (is_sure generations intent all root) refl is

pub takes_up : (generations : ℕ) → TakesUpItsOwn generations
takes_up generations intent all pid tick is =
    took generations intent all pid tick (first_root generations intent all) refl is

none_left : (stray : Option Seen) → without_root stray ≡ Nobody → stray ≡ None
none_left None is = refl
none_left (Some stray) is = absurd (cc is)

some_root : (sure : Bool) (root : Seen) → with_root sure root ≡ Nobody → ⊥
some_root true root is = cc is
some_root false root is = cc is

left : (generations : ℕ) (intent : Intent) (all : List Seen) (root : Option Seen)
    → left_by generations intent all root ≡ Nobody
    → (root ≡ None) × (first_stray generations intent all ≡ None)
left generations intent all None is = (refl, none_left (first_stray generations intent all) is)
left generations intent all (Some root) is = absurd (some_root (is_sure generations intent all root) root is)

pub nobody : (generations : ℕ) → NobodyIsLeft generations
nobody generations intent all is = left generations intent all (first_root generations intent all) is
