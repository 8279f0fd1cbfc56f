-- From the beginning of the input on.
use Rattle.std.proofs.Common.{◌≡◌, ℕ, ◌+◌, List, [], ◌++◌, length, Option, Some, None, Result, Err, sym, subst, ap, ◌∙◌}
use Rattle.std.proofs.Common.{arith, append-nil, length-append}
use Rattle.std.specs.Io.KnownBytes.{Consumes}
use Rattle.tai_status.specs.Label.{Tai64n}
use Rattle.tai_status.specs.Lines.{texts_of}
use Rattle.tai_status.specs.Extended.{Extended}
use Rattle.tai_status.specs.Counted.{Device, Gives}
use Rattle.tai_status.proofs.Stamped.{Consumes-then, Consumes-none}
use Rattle.tai_status.proofs.Texts.{texts_of-last}
use Rattle.mlog_script.specs.Script.{Act}
use Rattle.mlog_script.proofs.Texts.{texts-append}
use Rattle.mlog_files.specs.declared.tail.LogFault.{LogFault}
use Rattle.mlog_line.specs.LineRouter.{Place}
use Rattle.mlog_line.specs.Given.{Given, nothing, joined, of_text}
use Rattle.mlog_line.specs.Outputs.{Outputs, Takes, Stops, Grows, StopsAt}
use Rattle.mlog_line.proofs.Taking.{Takes-same, Stops-same}
use Rattle.mlog_line.proofs.Growing.{Grows-then, Grows-same, Grows-behind, StopsAt-then, StopsAt-same, StopsAt-behind}
use Rattle.mlog_core.specs.Run.{labels_of, given_in}
use Rattle.mlog_core.specs.Scene.{Scene, outputs_of, IsInLine, IsIn, Went, WentUpTo}
use Rattle.mlog_core.specs.Story.{Came, Done, Halted}
use Rattle.mlog_core.proofs.Lines.{text_turn}
use Rattle.mlog_core.proofs.Going.{no_bytes, Went-then, WentUpTo-then}

pub err_same : {T E : Type 0} (x y : E) → ◌≡◌ {A = Result T E} (Err x) (Err y) → x ≡ y
err_same x y e = cc

from_start : (o n : Outputs) (y : Given) → Grows o n nothing y → Takes o n y
from_start o n y g = Takes-same o n g.more y g.takes
    (record { logs = g.whole.logs; alerts = g.whole.alerts; files = g.whole.files })

stops_from_start : (o n : Outputs) (y : Given) (why : LogFault) → StopsAt o n nothing y why → Stops o n y why
stops_from_start o n y why g =
    Stops-same o n g.more y why g.stops (record { logs = g.whole.logs; alerts = g.whole.alerts; files = g.whole.files })

pub came_none : (script : List Act) (a : Scene) (r : Device) → IsIn script a [] → Came script a a r r 0
came_none script a r is = record { bytes = []; read = Consumes-none r.bytes; went = no_bytes script a [] is }

pub came_then : (script : List Act) (a b c : Scene) (r q p : Device) (m n : ℕ) (xs : List ℕ) → Came script a b r q m
    → Gives q p xs
    → ((line : List ℕ) → IsIn script b line → Went script b c line xs n) → Came script a c r p (m + n)
came_then script a b c r q p m n xs k read v = record {
  bytes = k.bytes ++ xs;
  read = Consumes-then r.bytes q.bytes p.bytes k.bytes xs k.read read;
  went = Went-then script a b c [] k.bytes xs m n k.went v;
}

lines_left : (script : List Act) (p : Place) (i : Option Tai64n) (left : List ℕ) → IsInLine script p i left
    → length (texts_of left) ≡ length (labels_of i)
lines_left script p None left is = ap (λ (t : List ℕ). length (texts_of t)) is
lines_left script p (Some label) left is = ap length (texts_of-last left is.2 is.1)

pub came_to_end : (script : List Act) (a b c : Scene) (r q p : Device) (m : ℕ) → None ≡ a.line → Came script a b r q m
    → Gives q p [] → c.readings ≡ b.readings
    → ((line : List ℕ) → IsInLine script b.place b.line line
    → Grows (outputs_of b) (outputs_of c) (given_in script b.line line) (of_text script (labels_of b.line) line))
    → Done script a c r p m
came_to_end script a b c r q p m none k read same end =
    let w = k.went in
    let t1 = of_text script w.names w.whole in
    let s1 = given_in script b.line w.left in
    let s2 = of_text script (labels_of b.line) w.left in
    let all = of_text script (w.names ++ labels_of b.line) (w.whole ++ w.left) in
    let labels_are : w.labels ≡ w.names ++ labels_of b.line = ap (λ (i : Option Tai64n). labels_of i ++ w.labels) none
    ∙ w.named in
    let grows : Grows (outputs_of a) (outputs_of c) (given_in script a.line []) all =
    Grows-same (outputs_of a) (outputs_of c) (given_in script a.line []) (joined t1 s2) all
    (Grows-then (outputs_of a) (outputs_of b) (outputs_of c) (given_in script a.line []) (joined t1 s1) (joined t1 s2)
    w.grows (Grows-behind (outputs_of b) (outputs_of c) t1 s1 s2 (end w.left w.at)))
    (text_turn script w.names (labels_of b.line) w.whole w.left w.lines w.each) in
    let started : Grows (outputs_of a) (outputs_of c) nothing all =
    subst (λ (i : Option Tai64n). Grows (outputs_of a) (outputs_of c) (given_in script i []) all) (sym none)
    grows in
    record {
      bytes = k.bytes;
      labels = w.labels;
      read = subst (λ (t : List ℕ). Consumes r.bytes p.bytes t) (append-nil k.bytes)
          (Consumes-then r.bytes q.bytes p.bytes k.bytes [] k.read read);
      gave = subst (λ (now : Option (List Tai64n)). Extended a.readings now w.labels) (sym same) w.gave;
      each = let e = w.each in let l = lines_left script b.place b.line w.left w.at in let n = ap length labels_are in
          let h = length-append w.names (labels_of b.line) in
          let t = ap (λ (t : List ℕ). length (texts_of t)) w.cut in
          let u = ap length (texts-append w.whole w.left w.lines) in
          let v = length-append (texts_of w.whole) (texts_of w.left) in omega (arith, e, l, n, h, t, u, v);
      count_is = w.count_is;
      takes = from_start (outputs_of a) (outputs_of c) (of_text script w.labels k.bytes)
          (subst (λ (n : List Tai64n). Grows (outputs_of a) (outputs_of c) nothing (of_text script n k.bytes))
          (sym labels_are)
          (subst (λ (t : List ℕ).
          Grows (outputs_of a) (outputs_of c) nothing (of_text script (w.names ++ labels_of b.line) t)) (sym w.cut)
          started));
    }

pub halted_block : (script : List Act) (a b c : Scene) (r q p : Device) (m : ℕ) (xs : List ℕ) (why : LogFault)
    → None ≡ a.line → Came script a b r q m → Gives q p xs
    → ((line : List ℕ) → IsIn script b line → WentUpTo script b c line xs why) → Halted script a c r p why
halted_block script a b c r q p m xs why none k read v =
    let u = WentUpTo-then script a b c [] k.bytes xs m why k.went v in
    record {
      bytes = k.bytes ++ xs;
      labels = u.labels;
      read = Consumes-then r.bytes q.bytes p.bytes k.bytes xs k.read read;
      gave = u.gave;
      stops = stops_from_start (outputs_of a) (outputs_of c) (of_text script u.labels (k.bytes ++ xs)) why
          (subst (λ (i : Option Tai64n). StopsAt (outputs_of a) (outputs_of c) (given_in script i [])
          (of_text script (labels_of i ++ u.labels) (k.bytes ++ xs)) why) (sym none) u.stops);
    }

pub halted_end : (script : List Act) (a b c : Scene) (r q p : Device) (m : ℕ) (why : LogFault) → None ≡ a.line
    → Came script a b r q m → Gives q p [] → c.readings ≡ b.readings
    → ((line : List ℕ) → IsInLine script b.place b.line line
    → StopsAt (outputs_of b) (outputs_of c) (given_in script b.line line) (of_text script (labels_of b.line) line)
    why)
    → Halted script a c r p why
halted_end script a b c r q p m why none k read same end =
    let w = k.went in
    let t1 = of_text script w.names w.whole in
    let s1 = given_in script b.line w.left in
    let s2 = of_text script (labels_of b.line) w.left in
    let all = of_text script (w.names ++ labels_of b.line) (w.whole ++ w.left) in
    let labels_are : w.labels ≡ w.names ++ labels_of b.line = ap (λ (i : Option Tai64n). labels_of i ++ w.labels) none
    ∙ w.named in
    let stops : StopsAt (outputs_of a) (outputs_of c) (given_in script a.line []) all why =
    StopsAt-same (outputs_of a) (outputs_of c) (given_in script a.line []) (joined t1 s2) all why
    (StopsAt-then (outputs_of a) (outputs_of b) (outputs_of c) (given_in script a.line []) (joined t1 s1) (joined t1 s2)
    why w.grows (StopsAt-behind (outputs_of b) (outputs_of c) t1 s1 s2 why (end w.left w.at)))
    (text_turn script w.names (labels_of b.line) w.whole w.left w.lines w.each) in
    let started : StopsAt (outputs_of a) (outputs_of c) nothing all why =
    subst (λ (i : Option Tai64n). StopsAt (outputs_of a) (outputs_of c) (given_in script i []) all why) (sym none)
    stops in
    record {
      bytes = k.bytes;
      labels = w.labels;
      read = subst (λ (t : List ℕ). Consumes r.bytes p.bytes t) (append-nil k.bytes)
          (Consumes-then r.bytes q.bytes p.bytes k.bytes [] k.read read);
      gave = subst (λ (now : Option (List Tai64n)). Extended a.readings now w.labels) (sym same) w.gave;
      stops = stops_from_start (outputs_of a) (outputs_of c) (of_text script w.labels k.bytes) why
          (subst (λ (n : List Tai64n). StopsAt (outputs_of a) (outputs_of c) nothing (of_text script n k.bytes) why)
          (sym labels_are)
          (subst (λ (t : List ℕ).
          StopsAt (outputs_of a) (outputs_of c) nothing (of_text script (w.names ++ labels_of b.line) t) why)
          (sym w.cut) started));
    }

pub visible_block : (script : List Act) (a b c : Scene) (r q p : Device) (m : ℕ) (xs : List ℕ) (why visible : LogFault)
    → why ≡ visible → None ≡ a.line → Came script a b r q m → Gives q p xs
    → ((line : List ℕ) → IsIn script b line → WentUpTo script b c line xs why) → Halted script a c r p visible
visible_block script a b c r q p m xs why visible same none k read v =
    subst (λ (w : LogFault). Halted script a c r p w) same (halted_block script a b c r q p m xs why none k read v)

pub visible_end : (script : List Act) (a b c : Scene) (r q p : Device) (m : ℕ) (why visible : LogFault) → why ≡ visible
    → None ≡ a.line → Came script a b r q m → Gives q p [] → c.readings ≡ b.readings
    → ((line : List ℕ) → IsInLine script b.place b.line line
    → StopsAt (outputs_of b) (outputs_of c) (given_in script b.line line) (of_text script (labels_of b.line) line)
    why)
    → Halted script a c r p visible
visible_end script a b c r q p m why visible is none k read same end =
    subst (λ (w : LogFault). Halted script a c r p w) is (halted_end script a b c r q p m why none k read same end)

-- The same fault, of another result.
pub fault_moved : {T U E : Type 0} (x y : E) → ◌≡◌ {A = Result T E} (Err x) (Err y)
    → ◌≡◌ {A = Result U E} (Err x) (Err y)
fault_moved {T} {U} {E} x y e = ap (λ (z : E). Err z) (err_same {T = T} x y e)
