-- The first bad word, as a loop over words finds it.
use Rattle.std.proofs.Common.{◌≡◌, ℕ, ◌+◌, ◌-◌, ◌<◌, suc, refl, sym, ap, ◌∙◌, arith}
use Rattle.std.proofs.Common.{List, [], ◌∷◌, ◌++◌, length, map, take}
use Rattle.std.proofs.Common.{drop, get_or, drop-cons, Option, Some, None, Result, Ok, Err, is_ok, ◌==◌, Bool, true}
use Rattle.std.proofs.Common.{false}
use Rattle.std.specs.List.{filter_map, cons_option}
use Rattle.std.specs.Option.{option_map}
use Rattle.std.proofs.lemmas.List.{map_more, map-append, take-append-drop, take-map, length-map, length-take-le}
use Rattle.std.proofs.lemmas.List.Elements.{filter_map-append}
use Rattle.mlog_script.specs.Placed.{placed_behind}
use Rattle.mlog_script.specs.Script.{Act, Stamp, said, fault_in, fault_of, fault_at, faults, first_fault}
use Rattle.mlog_script.specs.declared.fault.ScriptFaultKind.{ScriptFaultKind}
use Rattle.mlog_script.specs.declared.fault.ScriptFaultKind.TheVariants.{StampNotFirst}
use Rattle.mlog_script.specs.declared.fault.ScriptFault.{ScriptFault}
use Rattle.mlog_script.proofs.Placed.{placed_behind-append}

-- A stamp that comes after other words is refused.
pub stamp_late : {R : Type 0} (f : R → List ℕ) (before : List R) (word : List ℕ) (b : Bool) → b ≡ false
    → b ≡ (length before == 0)
    → said word ≡ Ok Stamp → Some StampNotFirst ≡ fault_of (map f before) word
stamp_late f [] word b found is e = absurd (cc (found, is))
stamp_late f (first ∷ rest) word b found is e = ap (fault_in (map f (first ∷ rest))) (sym e)

-- The faults of words, of a word after them, and of the words after it.
faults_here : (before rest : List (List ℕ)) (word : List ℕ) → faults before ≡ []
    → faults (before ++ word ∷ rest)
    ≡ cons_option (fault_at (record { before = before; item = word }))
    (filter_map fault_at (placed_behind (before ++ word ∷ []) rest))
faults_here before rest word lawful =
    ap (filter_map fault_at) (placed_behind-append [] before (word ∷ rest))
    ∙ filter_map-append fault_at (placed_behind [] before) (placed_behind before (word ∷ rest))
    ∙ ap (λ (fs : List ScriptFault). fs ++ filter_map fault_at (placed_behind before (word ∷ rest))) lawful

reported : (before rest : List (List ℕ)) (word : List ℕ) (kind : ScriptFaultKind) → faults before ≡ []
    → Some kind ≡ fault_of before word
    → first_fault (before ++ word ∷ rest) ≡ Some (record { word = length before + 1; kind = kind })
reported before rest word kind lawful bad = let here = faults_here before rest word lawful in cc (here, bad)

passed : (before : List (List ℕ)) (word : List ℕ) → faults before ≡ [] → None ≡ fault_of before word
    → faults (before ++ word ∷ []) ≡ []
passed before word lawful fine = let here = faults_here before [] word lawful in cc (here, fine)

-- the words before a place, the word there, and the words after it
pub words_at : {R : Type 0} (f : R → List ℕ) (words : List R) (k : ℕ) (d : R) → k < length words
    → map f words ≡ map f (take k words) ++ f (get_or words k d) ∷ map f (drop (suc k) words)
words_at f words k d within =
    ap (map f) (sym (take-append-drop k words)) ∙ map-append f (take k words) (drop k words)
    ∙ ap (λ rest. map f (take k words) ++ map f rest) (drop-cons words k d within)

-- The first bad word comes after words that are not bad.
pub reported_at : {R : Type 0} (f : R → List ℕ) (words : List R) (k : ℕ) (d : R) (kind : ScriptFaultKind)
    → k < length words
    → faults (map f (take k words)) ≡ [] → Some kind ≡ fault_of (map f (take k words)) (f (get_or words k d))
    → first_fault (map f words) ≡ Some (record { word = k + 1; kind = kind })
reported_at f words k d kind within lawful bad =
    let n : length (map f (take k words)) ≡ k = length-map (take k words) f
    ∙ length-take-le k words (omega (arith, within)) in
    ap first_fault (words_at f words k d within)
    ∙ reported (map f (take k words)) (map f (drop (suc k) words)) (f (get_or words k d)) kind lawful bad
    ∙ ap (λ (m : ℕ). Some (record { word = m + 1; kind = kind })) n

pub passed_at : {R : Type 0} (f : R → List ℕ) (words : List R) (k : ℕ) (d : R) → k < length words
    → faults (map f (take k words)) ≡ [] → None ≡ fault_of (map f (take k words)) (f (get_or words k d))
    → faults (map f (take (k + 1) words)) ≡ []
passed_at f words k d within lawful fine =
    ap faults (map_more f words k d within) ∙ passed (map f (take k words)) (f (get_or words k d)) lawful fine

from_none : (said_here : Result Act ScriptFaultKind) (before : List (List ℕ)) → fault_in before said_here ≡ None
    → is_ok said_here ≡ true
from_none (Ok act) before fine = refl
from_none (Err kind) before fine = absurd (cc fine)

fine_first : (o : Option ScriptFault) (rest : List ScriptFault) → cons_option o rest ≡ [] → o ≡ None
fine_first None rest e = refl
fine_first (Some fault) rest e = absurd (cc e)

passed_fault : (kind : Option ScriptFaultKind) (n : ℕ)
    → ◌≡◌ {A = Option ScriptFault} (option_map (λ k. record { word = n; kind = k }) kind) None → kind ≡ None
passed_fault None n e = refl
passed_fault (Some kind) n e = absurd (cc e)

prefix_fine : (xs ys : List ScriptFault) → xs ++ ys ≡ [] → (xs ≡ []) × (ys ≡ [])
prefix_fine [] ys e = (refl, e)
prefix_fine (x ∷ xs) ys e = absurd (cc e)

-- Each word of a script asks for an action.
says : (before rest : List (List ℕ)) (word : List ℕ) → faults (before ++ word ∷ rest) ≡ [] → is_ok (said word) ≡ true
says before rest word lawful =
    let parts = ap (filter_map fault_at) (placed_behind-append [] before (word ∷ rest))
    ∙ filter_map-append fault_at (placed_behind [] before) (placed_behind before (word ∷ rest)) in
    let fine = (prefix_fine (faults before) (filter_map fault_at (placed_behind before (word ∷ rest))) (sym parts
    ∙ lawful)).1 in
    from_none (said word) before (passed_fault (fault_of before word) (length before + 1)
    (fine_first (fault_at (record { before = before; item = word }))
    (filter_map fault_at (placed_behind (before ++ word ∷ []) rest)) fine))

pub says_at : {R : Type 0} (f : R → List ℕ) (words : List R) (k : ℕ) (d : R) → k < length words
    → faults (map f words) ≡ [] → is_ok (said (f (get_or words k d))) ≡ true
says_at f words k d within lawful =
    says (map f (take k words)) (map f (drop (suc k) words)) (f (get_or words k d))
    (ap faults (sym (words_at f words k d within)) ∙ lawful)

-- What the words before a place ask for.
pub said_before : {R : Type 0} (f : R → List ℕ) (words : List R) (k : ℕ)
    → map said (map f (take k words)) ≡ take (k + 1 - 1) (map said (map f words))
said_before f words k =
    ap (map said) (sym (take-map f k words)) ∙ sym (take-map said k (map f words))
    ∙ ap (λ n. take n (map said (map f words))) (let same : k ≡ k + 1 - 1 = omega arith in same)
