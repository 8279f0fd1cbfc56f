-- What is written so far, read by read.
use Rattle.std.proofs.Common.{◌≡◌, ℕ, ◌+◌, ◌-◌, ◌≤◌, Bool, false, List, [], ◌++◌, take, drop, Option, Some, None, refl}
use Rattle.std.proofs.Common.{sym, subst, ap, ◌∙◌, arith, ℤ, append_assoc, append-nil}
use Rattle.std.specs.List.{slice_range}
use Rattle.std.specs.Io.KnownBytes.{Keeps, Appends, Consumes}
use Rattle.std.proofs.Math.Seq.{take-add}
use Rattle.std.proofs.lemmas.List.{drop-take}
use Rattle.tai_status.specs.Counted.{Device, AppendsFront, Gives, GivesNothing, Wrote, WroteFront}
use Rattle.tai_status.specs.Block.{Emits}
use Rattle.tai_status.proofs.Known.{Appends-then, Keeps-same, Appends-nothing, Emits-front, AppendsFront-more}
use Rattle.tai_status.proofs.Stamped.{Consumes-then}
use Rattle.cmd_local.specs.Lines.{localised, localised_line}
use Rattle.cmd_local.specs.Passing.{IsHeld, Moves, Passes, SoFar, passed}
use Rattle.cmd_local.specs.Ends.{Localises, LocalisesFront}
use Rattle.cmd_local.proofs.Parts.{Makes-nothing, held_end}

Consumes-nothing : (a : Option (List ℕ)) → Consumes a a []
Consumes-nothing None = tt
Consumes-nothing (Some xs) = refl

Keeps-consumes : (a b : Option (List ℕ)) → Keeps a b → Consumes a b []
Keeps-consumes None b k = tt
Keeps-consumes (Some xs) None k = absurd k
Keeps-consumes (Some xs) (Some ys) k = sym k

pub Gives-nothing : (old new : Device) → GivesNothing old new → Gives old new []
Gives-nothing old new k = Keeps-consumes old.bytes new.bytes k

-- Parts of the buffer

pub read_on : (xs ys : List ℕ) (at count : ℕ) → take at xs ≡ take at ys
    → take (at + count) xs ≡ take at ys ++ slice_range xs at (at + count)
read_on xs ys at count same =
    let size : at + count - at ≡ count = omega arith in
    take-add at count xs ∙ ap (λ (zs : List ℕ). zs ++ take count (drop at xs)) same
    ∙ ap (λ (n : ℕ). take at ys ++ take n (drop at xs)) (sym size)

pub moved_front : (xs ys : List ℕ) (start end : ℕ) → start ≤ end → take (end - start) xs ≡ slice_range ys start end
    → take (end - start) xs ≡ drop start (take end ys)
moved_front xs ys start end below is =
    let place : start + (end - start) ≡ end = omega arith in
    is ∙ sym (drop-take start (end - start) ys) ∙ ap (λ (n : ℕ). drop start (take n ys)) place

pub none_read : (xs : List ℕ) (at count : ℕ) → count ≡ 0 → slice_range xs at (at + count) ≡ []
none_read xs at count none =
    let size : at + count - at ≡ 0 = omega (arith, none) in ap (λ (n : ℕ). take n (drop at xs)) size

-- Writing

pub SoFar-nothing : (ahead : ℤ → ℤ) (reader writer : Device) → SoFar ahead reader reader writer writer false []
SoFar-nothing ahead reader writer = record {
  bytes = [];
  text = [];
  gave = Consumes-nothing reader.bytes;
  wrote = Appends-nothing writer.bytes writer.bytes (Keeps-same writer.bytes);
  makes = Makes-nothing ahead false;
}

pub SoFar-then : {ahead : ℤ → ℤ} {r s t w x y : Device} {inside goes_on : Bool} {held next given : List ℕ}
    (bytes : List ℕ)
    → SoFar ahead r s w x inside held → Gives s t bytes → given ≡ held ++ bytes
    → Moves ahead inside given goes_on next x y → SoFar ahead r t w y goes_on next
SoFar-then {ahead} {r} {s} {t} {w} {x} {y} {inside} {goes_on} {held} {next} {given} bytes so gave is moves = record {
  bytes = so.bytes ++ bytes;
  text = so.text ++ moves.text;
  gave = Consumes-then r.bytes s.bytes t.bytes so.bytes bytes so.gave gave;
  wrote = Appends-then w.bytes x.bytes y.bytes so.text moves.text so.wrote moves.wrote;
  makes = record {
    always = λ more.
        ap (passed ahead false) (append_assoc so.bytes bytes more) ∙ so.makes.always (bytes ++ more)
        ∙ ap (λ (u : List ℕ). so.text ++ passed ahead inside u) (sym (append_assoc held bytes more)
        ∙ ap (λ (u : List ℕ). u ++ more) (sym is))
        ∙ ap (λ (u : List ℕ). so.text ++ u) (moves.makes.always more)
        ∙ sym (append_assoc so.text moves.text (passed ahead goes_on (next ++ more)));
  };
}

ends_so : {ahead : ℤ → ℤ} {r s w x : Device} {inside : Bool} {held : List ℕ} (so : SoFar ahead r s w x inside held)
    → IsHeld inside held
    → localised ahead so.bytes ≡ so.text ++ localised_line ahead held
ends_so {ahead} {r} {s} {w} {x} {inside} {held} so is =
    ap (localised ahead) (sym (append-nil so.bytes)) ∙ so.makes.always []
    ∙ ap (λ (u : List ℕ). so.text ++ passed ahead inside u) (append-nil held)
    ∙ ap (λ (u : List ℕ). so.text ++ u) (held_end ahead inside held is)

reads_no_more : {ahead : ℤ → ℤ} {r s w x : Device} {inside : Bool} {held : List ℕ} (t : Device)
    (so : SoFar ahead r s w x inside held) → Gives s t [] → Gives r t so.bytes
reads_no_more {ahead} {r} {s} {w} {x} {inside} {held} t so none =
    subst (λ (u : List ℕ). Consumes r.bytes t.bytes u) (append-nil so.bytes)
    (Consumes-then r.bytes s.bytes t.bytes so.bytes [] so.gave none)

front_after : {a b c : Option (List ℕ)} (text more : List ℕ) → Appends a b text → AppendsFront b c more
    → AppendsFront a c (text ++ more)
front_after {a} {b} {c} text more wrote front =
    let all : Emits a b [] [] text = record { written = text; wrote = wrote; whole = append-nil text } in
    Emits-front more all front

pub SoFar-ends : {ahead : ℤ → ℤ} {r s t w x y : Device} {inside : Bool} {held : List ℕ}
    → SoFar ahead r s w x inside held → IsHeld inside held
    → Gives s t [] → Wrote x y (localised_line ahead held) → Localises ahead r t w y
SoFar-ends {ahead} {r} {s} {t} {w} {x} {y} {inside} {held} so is none wrote = record {
  bytes = so.bytes;
  gave = reads_no_more t so none;
  text = subst (λ (u : List ℕ). Appends w.bytes y.bytes u) (sym (ends_so so is))
      (Appends-then w.bytes x.bytes y.bytes so.text (localised_line ahead held) so.wrote wrote);
}

pub SoFar-ends_failed : {ahead : ℤ → ℤ} {r s t w x y : Device} {inside : Bool} {held : List ℕ}
    → SoFar ahead r s w x inside held → IsHeld inside held
    → Gives s t [] → WroteFront x y (localised_line ahead held) → LocalisesFront ahead r t w y
SoFar-ends_failed {ahead} {r} {s} {t} {w} {x} {y} {inside} {held} so is none front = record {
  bytes = so.bytes;
  gave = reads_no_more t so none;
  text = subst (λ (u : List ℕ). AppendsFront w.bytes y.bytes u) (sym (ends_so so is))
      (front_after so.text (localised_line ahead held) so.wrote front);
}

pub SoFar-failed : {ahead : ℤ → ℤ} {r s t w x y : Device} {inside : Bool} {held given : List ℕ} (bytes : List ℕ)
    → SoFar ahead r s w x inside held → Gives s t bytes → given ≡ held ++ bytes
    → WroteFront x y (passed ahead inside given) → LocalisesFront ahead r t w y
SoFar-failed {ahead} {r} {s} {t} {w} {x} {y} {inside} {held} {given} bytes so gave is front =
    let whole : localised ahead (so.bytes ++ bytes) ≡ so.text ++ passed ahead inside given =
    so.makes.always bytes ∙ ap (λ (u : List ℕ). so.text ++ passed ahead inside u) (sym is) in
    record {
      bytes = so.bytes ++ bytes;
      gave = Consumes-then r.bytes s.bytes t.bytes so.bytes bytes so.gave gave;
      text = subst (λ (u : List ℕ). AppendsFront w.bytes y.bytes u) (sym whole)
          (front_after so.text (passed ahead inside given) so.wrote front);
    }

-- A block was put, and all of it is written, or a front.

pub flushed_text : {o m : Option (List ℕ)} (n : Option (List ℕ)) {pending left text : List ℕ} → pending ≡ []
    → Emits o m pending left text → Appends m n left → Appends o n text
flushed_text {o} {m} n {pending} {left} {text} none puts wrote =
    subst (λ (u : List ℕ). Appends o n u) (puts.whole ∙ ap (λ (u : List ℕ). u ++ text) none)
    (Appends-then o m n puts.written left puts.wrote wrote)

pub unflushed_text : {o m n : Option (List ℕ)} {pending left text : List ℕ} → pending ≡ [] → Emits o m pending left text
    → AppendsFront m n left → AppendsFront o n text
unflushed_text {o} {m} {n} {pending} {left} {text} none puts front =
    let all = Emits-front [] puts (subst (λ (u : List ℕ). AppendsFront m n u) (sym (append-nil left)) front) in
    subst (λ (u : List ℕ). AppendsFront o n u) (ap (λ (u : List ℕ). u ++ (text ++ [])) none ∙ append-nil text) all

pub flushed : {ahead : ℤ → ℤ} {a b : Bool} {o n : Device} (m : Device) {xs held pending left : List ℕ} → pending ≡ []
    → Passes ahead a xs b held o.bytes m.bytes pending left
    → Wrote m n left → Moves ahead a xs b held o n
flushed {ahead} {a} {b} {o} {n} m {xs} {held} {pending} {left} none passes wrote = record {
  text = passes.text;
  makes = passes.makes;
  wrote = flushed_text n.bytes none passes.puts wrote;
}

pub unflushed : {ahead : ℤ → ℤ} {a b : Bool} (o m n : Device) {xs held pending left : List ℕ} → pending ≡ []
    → Passes ahead a xs b held o.bytes m.bytes pending left
    → WroteFront m n left → WroteFront o n (passed ahead a xs)
unflushed {ahead} {a} {b} o m n {xs} {held} {pending} {left} none passes front =
    let whole : passed ahead a xs ≡ passes.text ++ passed ahead b (held ++ []) =
    ap (passed ahead a) (sym (append-nil xs)) ∙ passes.makes.always [] in
    subst (λ (u : List ℕ). AppendsFront o.bytes n.bytes u) (sym whole)
    (AppendsFront-more (passed ahead b (held ++ [])) (unflushed_text none passes.puts front))
