-- What a logger gets, read by read, and what comes after it.
use Rattle.std.proofs.Common.{◌≡◌, ℕ, suc, zero, ◌-◌, ◌<◌, ◌≤◌, Bool, true, false, nat_eq, List, [], ◌∷◌, ◌++◌, length}
use Rattle.std.proofs.Common.{take, Option, Some, None, refl, sym, ap, ◌∙◌, arith, subst, inl, inr, append_assoc}
use Rattle.std.proofs.Common.{append-nil}
use Rattle.std.specs.Prelude.{◌==◌, not, if◌then◌else◌, ◌⊎◌, Result, Ok, Err, IfOk, OnErr, slice_index_or}
use Rattle.std.specs.List.{flat_map}
use Rattle.std.specs.Io.KnownBytes.{Keeps, Consumes, IsAtEnd, ReadConsumes}
use Rattle.tai_status.proofs.Known.{Keeps-same}
use Rattle.tai_status.specs.Counted.{IsRead}
use Rattle.mlog_core.specs.Feed.{IsNext, OpensNext}
use Rattle.cmd_multilog.specs.declared.stop.LoggerEvent.TheVariants as heard
use Rattle.cmd_multilog.specs.Stop.{HeardWord, Coming, Listening, Changes, Hears, Reads, IsOver, is_in_line}
use Rattle.cmd_multilog.specs.Stop.{to_newline, behind_newline, rest_of_line, next_line, rest_behind, given, part_of}
use Rattle.cmd_multilog.specs.Stop.{parts_behind, unread, all_behind, left_in, behind_in, feed_of, IsLinesOf}
use Rattle.cmd_multilog.specs.Stop.{before_second, StopsAtALine, LosesNothing}

-- The line in hand

-- the last of some bytes says whether a line is in hand after them
line_at : (was : Bool) (bs : List ℕ) (k : ℕ) → k < length bs
    → not (nat_eq (slice_index_or bs k 0) 10) ≡ is_in_line was (take (suc k) bs)
line_at was [] k within = absurd (omega (arith, within))
line_at was (b ∷ bs) zero within = refl
line_at was (b ∷ bs) (suc k) within = line_at (not (b == 10)) bs k (omega (arith, within))

pub line_behind : (was : Bool) (bs : List ℕ) (count : ℕ) → 0 < count → count ≤ length bs
    → not (nat_eq (slice_index_or bs (count - 1) 0) 10) ≡ is_in_line was (take count bs)
line_behind was bs count some within =
    let back : suc (count - 1) ≡ count = omega (arith, some) in
    line_at was bs (count - 1) (omega (arith, some, within)) ∙ ap (λ (n : ℕ). is_in_line was (take n bs)) back

in_line_append : (was : Bool) (xs ys : List ℕ) → is_in_line was (xs ++ ys) ≡ is_in_line (is_in_line was xs) ys
in_line_append was [] ys = refl
in_line_append was (x ∷ xs) ys = in_line_append (not (x == 10)) xs ys

-- What a logger gets

given_behind : (was : Bool) (xs ys : List ℕ) (words : List HeardWord)
    → (xs ++ ys) ++ rest_behind (is_in_line was (xs ++ ys)) words
    ≡ xs ++ (ys ++ rest_behind (is_in_line (is_in_line was xs) ys) words)
given_behind was xs ys words =
    ap (λ (l : Bool). (xs ++ ys) ++ rest_behind l words) (in_line_append was xs ys)
    ∙ append_assoc xs ys (rest_behind (is_in_line (is_in_line was xs) ys) words)

reads_given : (was : Bool) (old new : Coming) (bs : List ℕ) → Reads bs old new
    → given was old ≡ bs ++ given (is_in_line was bs) new
reads_given was old new bs reads =
    ap (λ (t : List ℕ). t ++ rest_behind (is_in_line was t) old.words) reads.0
    ∙ given_behind was bs new.before old.words
    ∙ ap (λ (w : List HeardWord). bs ++ (new.before ++ rest_behind (is_in_line (is_in_line was bs) new.before) w))
    (sym reads.1)

next_one : (ys : List ℕ) (newline : Bool) → (if newline then ys else behind_newline ys) ≡ next_line (not newline) ys
next_one ys true = refl
next_one ys false = refl

next_goes : (bs ys : List ℕ) → length bs ≤ 1 → next_line true (bs ++ ys) ≡ next_line (is_in_line true bs) ys
next_goes [] ys one = refl
next_goes (b ∷ []) ys one = next_one ys (b == 10)
next_goes (b ∷ c ∷ bs) ys one = absurd (omega (arith, one))

-- Words

-- the parts after a word, from the beginning of the next one
abbrev heard_from : Bool → List ℕ → List HeardWord → List (List ℕ)
heard_from rotates bytes words =
    if rotates then part_of bytes words ∷ parts_behind (is_in_line false bytes) words else []

-- what is left of what comes, and what comes after it
abbrev left_of : Bool → Bool → Option Coming → Option (List ℕ)
left_of stopped in_line coming =
    left_in (record {
      coming = coming;
      failures = 0;
      stopped = stopped;
      rotates = false;
      in_line = in_line;
      reads = 0;
      faults = 0;
      cause = None;
    })

abbrev behind_of : Bool → Bool → Bool → Option Coming → Option (List (List ℕ))
behind_of stopped rotates in_line coming =
    behind_in (record {
      coming = coming;
      failures = 0;
      stopped = stopped;
      rotates = rotates;
      in_line = in_line;
      reads = 0;
      faults = 0;
      cause = None;
    })

pub no_word : (old new : Option Coming) → Changes old new (Hears heard.Input) → new ≡ old
no_word None None hears = refl
no_word None (Some new) hears = absurd hears
no_word (Some old) None hears = absurd hears
no_word (Some old) (Some new) hears = ap (λ (c : Coming). Some c) hears

-- Reads

short : (count : ℕ) (bs : List ℕ) → length bs ≤ 1 → length (take count bs) ≤ 1
short zero bs one = omega arith
short (suc count) [] one = omega arith
short (suc zero) (b ∷ []) one = omega arith
short (suc (suc count)) (b ∷ []) one = omega arith
short (suc count) (b ∷ c ∷ bs) one = absurd (omega (arith, one))

goes_on : (was : Bool) (old new : Option Coming) (bs : List ℕ) → Changes old new (Reads bs)
    → Consumes (left_of false was old) (left_of false (is_in_line was bs) new) bs
goes_on was None new bs reads = tt
goes_on was (Some old) None bs reads = absurd reads
goes_on was (Some old) (Some new) bs reads = reads_given was old new bs reads

behind_goes_on : (was : Bool) (old new : Option Coming) (bs : List ℕ) → Changes old new (Reads bs)
    → behind_of false false (is_in_line was bs) new ≡ behind_of false false was old
behind_goes_on was None None bs reads = refl
behind_goes_on was None (Some new) bs reads = absurd reads
behind_goes_on was (Some old) None bs reads = absurd reads
behind_goes_on was (Some old) (Some new) bs reads =
    ap (λ (w : List HeardWord). Some (parts_behind (is_in_line (is_in_line was bs) new.before) w)) reads.1
    ∙ ap (λ (l : Bool). Some (parts_behind l old.words)) (sym (in_line_append was bs new.before)
    ∙ ap (is_in_line was) (sym reads.0))

behind_goes_to_line : (rotates : Bool) (old new : Option Coming) (bs : List ℕ) → length bs ≤ 1
    → Changes old new (Reads bs)
    → behind_of true rotates (is_in_line true bs) new ≡ behind_of true rotates true old
behind_goes_to_line rotates None None bs one reads = refl
behind_goes_to_line rotates None (Some new) bs one reads = absurd reads
behind_goes_to_line rotates (Some old) None bs one reads = absurd reads
behind_goes_to_line rotates (Some old) (Some new) bs one reads =
    let next : next_line (is_in_line true bs) new.before ≡ next_line true old.before = sym (next_goes bs new.before one)
    ∙ ap (next_line true) (sym reads.0) in
    ap (λ (w : List HeardWord). Some (heard_from rotates (next_line (is_in_line true bs) new.before) w)) reads.1
    ∙ ap (λ (t : List ℕ). Some (heard_from rotates t old.words)) next

rest_of_none : (in_line : Bool) → rest_of_line in_line [] ≡ []
rest_of_none true = refl
rest_of_none false = refl

is_over : (stopped in_line : Bool) (coming : Option Coming) → IsOver coming → IsAtEnd (left_of stopped in_line coming)
is_over stopped in_line None over = tt
is_over true in_line (Some coming) over = ap (λ (c : Coming). rest_of_line in_line c.before) over ∙ rest_of_none in_line
is_over false in_line (Some coming) over = ap (given in_line) over

-- the result of a read if no word was heard
pub reads_on : {E : Type 0} (left : Option (List ℕ)) (old new : Listening) (r : Result ℕ E) (into : List ℕ)
    → left_in old ≡ left → old.stopped ≡ false → new.stopped ≡ old.stopped
    → IfOk r (λ count. Changes old.coming new.coming (Reads (take count into)))
    → IfOk r (λ count. new.in_line ≡ is_in_line old.in_line (take count into))
    → IfOk r (λ count. count ≡ 0 → 0 < length into → IsOver new.coming)
    → OnErr r (new ≡ record old { failures = new.failures })
    → ReadConsumes left (left_in new) r into
reads_on left old new (Ok count) into kept going same reads line over err =
    let bs = take count into in
    let gone : Consumes (left_of false old.in_line old.coming) (left_of false new.in_line new.coming) bs =
    subst (λ (l : Bool). Consumes (left_of false old.in_line old.coming) (left_of false l new.coming) bs) (sym line)
    (goes_on old.in_line old.coming new.coming bs reads) in
    let there : Consumes (left_in old) (left_in new) bs =
    subst (λ (s : Bool). Consumes (left_of s old.in_line old.coming) (left_in new) bs) (sym going)
    (subst (λ (s : Bool). Consumes (left_of false old.in_line old.coming) (left_of s new.in_line new.coming) bs)
    (sym (same ∙ going)) gone) in (
      subst (λ (l : Option (List ℕ)). Consumes l (left_in new) bs) kept there,
      λ none room. is_over new.stopped new.in_line new.coming (over none room),
    )
reads_on left old new (Err e) into kept going same reads line over err =
    subst (λ (l : Option (List ℕ)). Keeps l (left_in new)) kept
    (subst (λ (l : Listening). Keeps (left_in old) (left_in l)) (sym err) (Keeps-same (left_in old)))

-- the parts after it are unchanged
pub behind_on : {E : Type 0} (behind : Option (List (List ℕ))) (old new : Listening) (r : Result ℕ E) (into : List ℕ)
    → behind_in old ≡ behind → old.stopped ≡ false → new.stopped ≡ old.stopped
    → IfOk r (λ count. Changes old.coming new.coming (Reads (take count into)))
    → IfOk r (λ count. new.in_line ≡ is_in_line old.in_line (take count into))
    → OnErr r (new ≡ record old { failures = new.failures })
    → behind_in new ≡ behind
behind_on behind old new (Ok count) into kept going same reads line err =
    let bs = take count into in
    ap (λ (s : Bool). behind_of s new.rotates new.in_line new.coming) (same ∙ going)
    ∙ ap (λ (l : Bool). behind_of false false l new.coming) line
    ∙ behind_goes_on old.in_line old.coming new.coming bs reads
    ∙ ap (λ (s : Bool). behind_of s old.rotates old.in_line old.coming) (sym going) ∙ kept
behind_on behind old new (Err e) into kept going same reads line err = ap behind_in err ∙ kept

pub behind_to_line : {E : Type 0} (behind : Option (List (List ℕ))) (old new : Listening) (r : Result ℕ E)
    (into : List ℕ)
    → behind_in old ≡ behind → old.stopped ≡ true → old.in_line ≡ true → new.stopped ≡ old.stopped
    → new.rotates ≡ old.rotates
    → length into ≤ 1
    → IfOk r (λ count. Changes old.coming new.coming (Reads (take count into)))
    → IfOk r (λ count. new.in_line ≡ is_in_line old.in_line (take count into))
    → OnErr r (new ≡ record old { failures = new.failures })
    → behind_in new ≡ behind
behind_to_line behind old new (Ok count) into kept stopped begun same word one reads line err =
    let bs = take count into in
    ap (λ (s : Bool). behind_of s new.rotates new.in_line new.coming) (same ∙ stopped)
    ∙ ap (λ (r : Bool). behind_of true r new.in_line new.coming) word
    ∙ ap (λ (l : Bool). behind_of true old.rotates l new.coming) (line ∙ ap (λ (l : Bool). is_in_line l bs) begun)
    ∙ behind_goes_to_line old.rotates old.coming new.coming bs (short count into one) reads
    ∙ ap (λ (l : Bool). behind_of true old.rotates l old.coming) (sym begun)
    ∙ ap (λ (s : Bool). behind_of s old.rotates old.in_line old.coming) (sym stopped) ∙ kept
behind_to_line behind old new (Err e) into kept stopped begun same word one reads line err = ap behind_in err ∙ kept

-- The next part

at_line : (in_line : Bool) (bytes : List ℕ) → rest_of_line in_line bytes ≡ [] → next_line in_line bytes ≡ bytes
at_line true [] end = refl
at_line true (b ∷ bytes) end = cc
at_line false bytes end = refl

pub next_begins : (rotates in_line : Bool) (coming : Option Coming) → rotates ≡ true
    → IsAtEnd (left_of true in_line coming)
    → IsNext (behind_of true rotates in_line coming) (left_of false false coming) (behind_of false false false coming)
next_begins true in_line None is end = tt
next_begins true in_line (Some coming) is end =
    let same = at_line in_line coming.before end in (
      ap (λ (t : List ℕ). part_of t coming.words) (sym same),
      ap (λ (t : List ℕ). parts_behind (is_in_line false t) coming.words) (sym same),
    )
next_begins false in_line coming is end = cc

pub opens_next : (old : Listening) → old.rotates ≡ true → old.stopped ≡ true → IsRead (feed_of old).device
    → OpensNext (feed_of old)
    (feed_of (record {
      coming = old.coming;
      failures = old.failures;
      stopped = false;
      rotates = false;
      in_line = false;
      reads = old.reads;
      faults = old.faults;
      cause = old.cause;
    }))
opens_next old rotates stopped end = record {
  next = subst (λ (s : Bool). IsNext (behind_of s old.rotates old.in_line old.coming) (left_of false false old.coming)
      (behind_of false false false old.coming)) (sym stopped)
      (next_begins old.rotates old.in_line old.coming rotates
      (subst (λ (s : Bool). IsAtEnd (left_of s old.in_line old.coming)) stopped end));
  reads = refl;
  faults = refl;
}

-- Lines

abbrev Cut : List ℕ → Type 0
Cut bs = (rest : List ℕ) × (bs ≡ to_newline bs ++ rest) × ((is_in_line true (to_newline bs) ≡ false) ⊎ (rest ≡ []))

cut_by : (b : ℕ) (bs : List ℕ) (newline : Bool) → Cut bs
    → (rest : List ℕ) × (b ∷ bs ≡ (b ∷ (if newline then [] else to_newline bs)) ++ rest)
    × ((is_in_line (not newline) (if newline then [] else to_newline bs) ≡ false) ⊎ (rest ≡ []))
cut_by b bs true cut = (bs, refl, inl refl)
cut_by b bs false cut = (cut.0, ap (λ (t : List ℕ). b ∷ t) cut.1, cut.2)

line_cut : (bs : List ℕ) → Cut bs
line_cut [] = ([], refl, inr refl)
line_cut (b ∷ bs) = cut_by b bs (b == 10) (line_cut bs)

line_ends : (before line : List ℕ) → is_in_line true before ≡ true → is_in_line true line ≡ false
    → is_in_line true (before ++ line) ≡ false
line_ends before line begun ends =
    in_line_append true before line ∙ ap (λ (l : Bool). is_in_line l line) begun ∙ ends

behind_line : (before bytes : List ℕ) → is_in_line true before ≡ true
    → IsLinesOf (before ++ to_newline bytes) (before ++ bytes)
behind_line before bytes begun =
    let cut = line_cut bytes in
    record {
      rest = cut.0;
      front = ap (λ (t : List ℕ). before ++ t) cut.1 ∙ sym (append_assoc before (to_newline bytes) cut.0);
      ends = elim cut.2 [
        | inl ended ↦ inr (inl (line_ends before (to_newline bytes) begun ended))
        | inr none ↦ inr
            (inr none)
      ];
    }

between_lines : (before bytes : List ℕ) → (before ≡ []) ⊎ (is_in_line true before ≡ false)
    → IsLinesOf (before ++ []) (before ++ bytes)
between_lines before bytes ends =
    let whole : before ++ [] ≡ before = append-nil before in
    record {
      rest = bytes;
      front = ap (λ (t : List ℕ). t ++ bytes) (sym whole);
      ends = elim ends [ inl none ↦ inl (whole ∙ none) | inr ended ↦ inr (inl (ap (is_in_line true) whole ∙ ended)) ];
    }

-- a line is in hand after some bytes, whatever was before them
either_line : (b : ℕ) (bs bytes : List ℕ) (in_line : Bool) → is_in_line true (b ∷ bs) ≡ in_line
    → IsLinesOf ((b ∷ bs) ++ rest_of_line in_line bytes) ((b ∷ bs) ++ bytes)
either_line b bs bytes true is = behind_line (b ∷ bs) bytes is
either_line b bs bytes false is = between_lines (b ∷ bs) bytes (inr is)

lines_given : (before : List ℕ) (words : List HeardWord)
    → IsLinesOf (given false (record { before = before; words = words }))
    (before_second (record { before = before; words = words }))
lines_given before [] = record { rest = []; front = sym (append-nil (before ++ [])); ends = inr (inr refl) }
lines_given [] (word ∷ words) = between_lines [] word.bytes (inl refl)
lines_given (b ∷ bs) (word ∷ words) = either_line b bs word.bytes (is_in_line false (b ∷ bs)) refl

pub stops_at_a_line : StopsAtALine
stops_at_a_line coming = lines_given coming.before coming.words

-- Nothing is lost

line_step : (b : ℕ) (bytes : List ℕ) (newline : Bool) → bytes ≡ to_newline bytes ++ behind_newline bytes
    → b ∷ bytes ≡ (b ∷ (if newline then [] else to_newline bytes)) ++ (if newline then bytes else behind_newline bytes)
line_step b bytes true whole = refl
line_step b bytes false whole = ap (λ (t : List ℕ). b ∷ t) whole

line_whole : (in_line : Bool) (bytes : List ℕ) → bytes ≡ rest_of_line in_line bytes ++ next_line in_line bytes
line_whole false bytes = refl
line_whole true [] = refl
line_whole true (b ∷ bytes) = line_step b bytes (b == 10) (line_whole true bytes)

abbrev joined : List (List ℕ) → List ℕ
joined parts = flat_map (λ part. part) parts

-- what comes after the first word, in one piece and in parts
abbrev Behind : Bool → List HeardWord → Type 0
Behind in_line words = all_behind words ≡ rest_behind in_line words
    ++ (joined (parts_behind in_line words) ++ unread in_line words)

behind_word : (in_line : Bool) (word : HeardWord) (words : List HeardWord) (rotates : Bool)
    → Behind (is_in_line false (next_line in_line word.bytes)) words
    → word.bytes ++ all_behind words ≡ rest_of_line in_line word.bytes
    ++ (joined (if rotates then part_of (next_line in_line word.bytes) words
    ∷ parts_behind (is_in_line false (next_line in_line word.bytes)) words else [])
    ++ (if rotates then unread (is_in_line false (next_line in_line word.bytes)) words else next_line in_line word.bytes
    ++ all_behind words))
behind_word in_line word words false further =
    let next = next_line in_line word.bytes in
    ap (λ (t : List ℕ). t ++ all_behind words) (line_whole in_line word.bytes)
    ∙ append_assoc (rest_of_line in_line word.bytes) next (all_behind words)
behind_word in_line word words true further =
    let next = next_line in_line word.bytes in
    let rest = rest_of_line in_line word.bytes in
    let inner = is_in_line false next in
    let parts = joined (parts_behind inner words) in
    ap (λ (t : List ℕ). t ++ all_behind words) (line_whole in_line word.bytes)
    ∙ append_assoc rest next (all_behind words)
    ∙ ap (λ (t : List ℕ). rest ++ (next ++ t)) further
    ∙ ap (λ (t : List ℕ). rest ++ t) (sym (append_assoc next (rest_behind inner words) (parts ++ unread inner words))
    ∙ sym (append_assoc (next ++ rest_behind inner words) parts (unread inner words)))

all_parted : (in_line : Bool) (words : List HeardWord) → Behind in_line words
all_parted in_line [] = refl
all_parted in_line (word ∷ words) =
    behind_word in_line word words word.rotates (all_parted (is_in_line false (next_line in_line word.bytes)) words)

pub loses_nothing : LosesNothing
loses_nothing coming =
    let in_line = is_in_line false coming.before in
    ap (λ (t : List ℕ). coming.before ++ t) (all_parted in_line coming.words)
    ∙ sym (append_assoc coming.before (rest_behind in_line coming.words) (joined (parts_behind in_line coming.words)
    ++ unread in_line coming.words))

gave_all : (new : Option (List ℕ)) (all bytes : List ℕ) → Consumes (Some all) new bytes → IsAtEnd new → bytes ≡ all
gave_all None all bytes gave end = absurd gave
gave_all (Some left) all bytes gave end = sym (append-nil bytes) ∙ ap (λ (t : List ℕ). bytes ++ t) (sym end) ∙ sym gave

-- A reader that returned all that was known of it returned exactly that.
pub all_given : (old new : Option (List ℕ)) (all bytes : List ℕ) → old ≡ Some all → Consumes old new bytes → IsAtEnd new
    → bytes ≡ all
all_given old new all bytes known gave end =
    gave_all new all bytes (subst (λ (o : Option (List ℕ)). Consumes o new bytes) known gave) end
