-- What a run over two parts leaves.
use Rattle.std.proofs.Common.{◌≡◌, ◌⊎◌, IfSome, ℕ, false, is_some, List, [], ◌∷◌, ◌++◌, length, Option, Some}
use Rattle.std.proofs.Common.{None, codes, slice_get, refl, sym, ap, ◌∙◌, subst, inl, inr, arith, append-nil}
use Rattle.std.specs.Io.KnownBytes.{Consumes, IsAtEnd}
use Rattle.std.specs.Option.{option_to_list}
use Rattle.std.proofs.lemmas.List.{length-append}
use Rattle.tai_status.specs.Label.{Tai64n}
use Rattle.tai_status.specs.Lines.{texts_of}
use Rattle.tai_status.specs.Extended.{Extended}
use Rattle.mlog_script.specs.Script.{Act, Log, log_plans}
use Rattle.mlog_script.specs.Selection.{log_text}
use Rattle.mlog_files.specs.Files.{Files, Step, files_after, old_name}
use Rattle.mlog_files.specs.Store.{Reaches}
use Rattle.mlog_files.specs.Tails.{found}
use Rattle.mlog_core.specs.Feed.{IsNext}
use Rattle.mlog_core.specs.Parts.{Play, RunsPart, Turns, TurnsOver, RunsParts}
use Rattle.mlog_core.specs.Run.{planned_steps}
use Rattle.mlog_core.specs.Rotate.{rotation}
use Rattle.limit_tests.specs.Parts.{IsTwoParts, behind}

-- Lists of one and of two

pub record IsOne {A : Type 0} (xs : List A) : Type 0 where
  pub first : A
  pub is : xs ≡ first ∷ []

one_of : {A : Type 0} (xs : List A) → length xs ≡ 1 → IsOne xs
one_of [] count = absurd (omega arith)
one_of (x ∷ []) count = record { first = x; is = refl }
one_of (x ∷ y ∷ xs) count = absurd (omega arith)

pub record IsTwo {A : Type 0} (xs : List A) : Type 0 where
  pub first : A
  pub second : A
  pub is : xs ≡ first ∷ second ∷ []

two_of : {A : Type 0} (xs : List A) → length xs ≡ 2 → IsTwo xs
two_of [] count = absurd (omega arith)
two_of (x ∷ []) count = absurd (omega arith)
two_of (x ∷ y ∷ []) count = record { first = x; second = y; is = refl }
two_of (x ∷ y ∷ z ∷ xs) count = absurd (omega arith)

-- What is known stays known

readings_on : (past : List Tai64n) (now : Option (List Tai64n)) (more : List Tai64n) → Extended (Some past) now more
    → now ≡ Some (past ++ more)
readings_on past None more extended = absurd extended
readings_on past (Some now) more extended = ap Some extended

-- Files that are visible at the end were visible before.
record Came (before : Option Files) (after : Files) (steps : List Step) : Type 0 where
  files : Files
  there : before ≡ Some files
  now : after ≡ files_after steps files

came : (before : Option Files) (after : Files) (steps : List Step) → Reaches before (Some after) steps
    → Came before after steps
came None after steps reaches = absurd reaches
came (Some files) after steps reaches = record { files = files; there = refl; now = reaches }

all_read : (p : List ℕ) (left : Option (List ℕ)) (bytes : List ℕ) → Consumes (Some p) left bytes → IsAtEnd left
    → bytes ≡ p
all_read p None bytes consumes end = absurd consumes
all_read p (Some left) bytes consumes end =
    sym (consumes ∙ ap (λ (l : List ℕ). bytes ++ l) end ∙ append-nil bytes)

-- What a run of one part did to the first log, which had these files
record Gave (script : List Act) (p : List ℕ) (files : Files) (old new : Play) : Type 0 where
  labels : List Tai64n
  each : length labels ≡ length (texts_of p)
  gave : Extended old.readings new.readings labels
  logs : Reaches (old.store.visible.files 0) (new.store.visible.files 0)
      (planned_steps (slice_get (log_plans script) 0) (found files) (log_text script 0 labels p))

gave : (script : List Act) (p : List ℕ) (files : Files) (old new : Play) → old.feed.device.bytes ≡ Some p
    → old.store.visible.files 0 ≡ Some files → RunsPart script old new → Gave script p files old new
gave script p files old new bytes_are files_are ran =
    let runs = ran.runs in
    let bytes : runs.bytes ≡ p =
    all_read p new.feed.device.bytes runs.bytes
    (subst (λ (b : Option (List ℕ)). Consumes b new.feed.device.bytes runs.bytes) bytes_are runs.read) ran.read in
    let stood : runs.stood 0 ≡ found files =
    subst (λ (o : Option Files). IfSome o (λ files. runs.stood 0 ≡ found files)) files_are (runs.are_found 0) in
    record {
      labels = runs.labels;
      each = runs.each ∙ ap (λ (b : List ℕ). length (texts_of b)) bytes;
      gave = runs.gave;
      logs = subst (λ (b : List ℕ). Reaches (old.store.visible.files 0) (new.store.visible.files 0)
          (planned_steps (slice_get (log_plans script) 0) (found files) (log_text script 0 runs.labels b))) bytes
          (subst (λ s. Reaches (old.store.visible.files 0) (new.store.visible.files 0)
          (planned_steps (slice_get (log_plans script) 0) s (log_text script 0 runs.labels runs.bytes))) stood
          (runs.logs 0));
    }

-- The turns of an input that has one more part after the first

record OneTurn (script : List Act) (p : List ℕ) (old last : Play) : Type 0 where
  turn : Turns script old last
  none : last.feed.behind ≡ Some []
  bytes : last.feed.device.bytes ≡ Some p

next_is : (p : List ℕ) (bytes : Option (List ℕ)) (rest : Option (List (List ℕ))) → IsNext (Some (p ∷ [])) bytes rest
    → (rest ≡ Some []) × (bytes ≡ Some p)
next_is p None rest next = absurd next
next_is p (Some bytes) None next = absurd next
next_is p (Some bytes) (Some rest) next = (ap Some next.1, ap Some next.0)

no_next : (begun last : Play) (script : List Act) → begun.feed.behind ≡ Some [] → Turns script begun last → ⊥
no_next begun last script none turn =
    subst (λ (b : Option (List (List ℕ))). IsNext b last.feed.device.bytes last.feed.behind)
    (turn.runs.behind ∙ none) turn.opens.next

one_turn : (script : List Act) (p : List ℕ) (old last : Play) → old.feed.behind ≡ Some (p ∷ [])
    → Turns script old last → OneTurn script p old last
one_turn script p old last there turn =
    let next = next_is p last.feed.device.bytes last.feed.behind
    (subst (λ (b : Option (List (List ℕ))). IsNext b last.feed.device.bytes last.feed.behind)
    (turn.runs.behind ∙ there) turn.opens.next) in
    record { turn = turn; none = next.0; bytes = next.1 }

turns_are : (script : List Act) (p : List ℕ) (begun : List Play) (old last : Play) → old.feed.behind ≡ Some (p ∷ [])
    → TurnsOver begun script old last → (last ≡ old) ⊎ OneTurn script p old last
turns_are script p [] old last there turns = inl turns
turns_are script p (begun ∷ before) old last there turns =
    elim (turns_are script p before old begun there turns.0) [
      | inl same ↦ inr (one_turn script p old last there (subst (λ (b : Play). Turns script b last) same turns.1))
      | inr one ↦ absurd (no_next begun last script one.none turns.1)
    ]

-- Files, step by step

files_on : (a b : Option Files) (x y : Files) (steps : List Step) → a ≡ Some x → b ≡ Some y → Reaches a b steps
    → y ≡ files_after steps x
files_on a b x y steps from to reaches =
    subst (λ (o : Option Files). Reaches (Some x) o steps) to
    (subst (λ (o : Option Files). Reaches o b steps) from reaches)

abbrev one_log : List ℕ → List Act
one_log path = Log path ∷ []

abbrev empty : Files
empty = record { current = []; olds = [] }

abbrev first_part : List ℕ
first_part = codes "a" ++ 10 ∷ []

abbrev second_part : List ℕ
second_part = codes "b" ++ 10 ∷ codes "c" ++ 10 ∷ []

abbrev first_files : Files
first_files = record { current = first_part; olds = [] }

abbrev rotated_files : Tai64n → Files
rotated_files reading = record { current = []; olds = record { name = old_name reading; bytes = first_part } ∷ [] }

after_first : (path : List ℕ) (label : Tai64n)
    → files_after (planned_steps (slice_get (log_plans (one_log path)) 0) (found empty)
    (log_text (one_log path) 0 (label ∷ []) first_part)) empty ≡ first_files
after_first path label = refl

-- the files of the log, and the readings of the clock, after the turn and the second part
whole : (path : List ℕ) (old last new : Play) (final : Files) (given : List Tai64n)
    → old.feed.device.bytes ≡ Some first_part → old.store.visible.files 0 ≡ Some empty → old.readings ≡ Some []
    → new.store.visible.files 0 ≡ Some final → new.readings ≡ Some given
    → OneTurn (one_log path) second_part old last → RunsPart (one_log path) last new
    → IsTwoParts final given
whole path old last new final given old_bytes old_files old_readings new_files new_readings one ran =
    let script = one_log path in
    let turn = one.turn in
    let ended = turn.ended in
    let reading = turn.rotates.reading in
    let going : List Step = planned_steps (slice_get (log_plans script) 0) (ran.runs.stood 0)
    (log_text script 0 ran.runs.labels ran.runs.bytes) in
    let turning : List Step = rotation (slice_get (log_plans script) 0) reading (ended.store.visible.files 0) in
    let to = came (last.store.visible.files 0) final going
    (subst (λ (o : Option Files). Reaches (last.store.visible.files 0) o going) new_files (ran.runs.logs 0)) in
    let mid = came (ended.store.visible.files 0) to.files turning
    (subst (λ (o : Option Files). Reaches (ended.store.visible.files 0) o turning) to.there (turn.rotates.logs 0)) in
    let first = gave script first_part empty old ended old_bytes old_files turn.runs in
    let label = one_of first.labels first.each in
    let in_first : mid.files ≡ first_files =
    files_on (old.store.visible.files 0) (ended.store.visible.files 0) empty mid.files
    (planned_steps (slice_get (log_plans script) 0) (found empty) (log_text script 0 (label.first ∷ []) first_part))
    old_files mid.there
    (subst (λ (ls : List Tai64n). Reaches (old.store.visible.files 0) (ended.store.visible.files 0)
    (planned_steps (slice_get (log_plans script) 0) (found empty) (log_text script 0 ls first_part))) label.is
    first.logs) in
    let in_turn : to.files ≡ rotated_files reading =
    subst (λ (f : Files). to.files ≡ files_after (rotation (slice_get (log_plans script) 0) reading (Some f)) f)
    in_first
    (subst (λ (o : Option Files).
    to.files ≡ files_after (rotation (slice_get (log_plans script) 0) reading o) mid.files) mid.there mid.now) in
    let second = gave script second_part (rotated_files reading) last new one.bytes
    (to.there ∙ ap Some in_turn) ran in
    let labels = two_of second.labels second.each in
    let in_second : final ≡ record { current = second_part; olds = (rotated_files reading).olds } =
    files_on (last.store.visible.files 0) (new.store.visible.files 0) (rotated_files reading) final
    (planned_steps (slice_get (log_plans script) 0) (found (rotated_files reading))
    (log_text script 0 (labels.first ∷ labels.second ∷ []) second_part))
    (to.there ∙ ap Some in_turn) new_files
    (subst (λ (ls : List Tai64n). Reaches (last.store.visible.files 0) (new.store.visible.files 0)
    (planned_steps (slice_get (log_plans script) 0) (found (rotated_files reading))
    (log_text script 0 ls second_part))) labels.is second.logs) in
    let read_first : ended.readings ≡ Some (label.first ∷ []) =
    readings_on [] ended.readings (label.first ∷ [])
    (subst (λ (o : Option (List Tai64n)). Extended o ended.readings (label.first ∷ [])) old_readings
    (subst (λ (ls : List Tai64n). Extended old.readings ended.readings ls) label.is first.gave)) in
    let read_turn : last.readings ≡ Some (label.first ∷ reading ∷ []) =
    readings_on (label.first ∷ []) last.readings (reading ∷ [])
    (subst (λ (o : Option (List Tai64n)). Extended o last.readings (reading ∷ [])) read_first turn.rotates.gave) in
    let read_all : new.readings ≡ Some (label.first ∷ reading ∷ labels.first ∷ labels.second ∷ []) =
    readings_on (label.first ∷ reading ∷ []) new.readings (labels.first ∷ labels.second ∷ [])
    (subst (λ (o : Option (List Tai64n)). Extended o new.readings (labels.first ∷ labels.second ∷ [])) read_turn
    (subst (λ (ls : List Tai64n). Extended last.readings new.readings ls) labels.is second.gave)) in
    let all : Some given ≡ Some (label.first ∷ reading ∷ labels.first ∷ labels.second ∷ []) =
    sym new_readings ∙ read_all in
    record {
      first = label.first;
      rotation = reading;
      second = labels.first;
      third = labels.second;
      readings_are = cc all;
      olds = ap (λ (f : Files). f.olds) in_second;
      current = ap (λ (f : Files). f.current) in_second;
    }

pub two_parts : (path : List ℕ) (old new : Play) (final : Files) (given : List Tai64n)
    → old.feed.device.bytes ≡ Some first_part → old.feed.behind ≡ Some (second_part ∷ [])
    → old.store.visible.files 0 ≡ Some empty → old.readings ≡ Some []
    → new.store.visible.files 0 ≡ Some final → new.readings ≡ Some given
    → (new.feed.rotates ≡ false → new.feed.behind ≡ Some (second_part ∷ []) → ⊥)
    → RunsParts None (one_log path) old new → IsTwoParts final given
two_parts path old new final given old_bytes old_behind old_files old_readings new_files new_readings left ran =
    elim (turns_are (one_log path) second_part ran.begun old ran.last old_behind ran.turns) [
      | inl same ↦ absurd (left ran.ends.1
          (ran.ends.0.behind ∙ ap (λ (p : Play). p.feed.behind) same ∙ old_behind))
      | inr one ↦ whole path old ran.last new final given old_bytes old_files old_readings new_files new_readings one
          ran.ends.0
    ]

-- An input without a rotation to come has no later part.
pub none_left : (second : Option (List ℕ)) (p : List ℕ) → is_some second ≡ false → Some (behind second) ≡ Some (p ∷ [])
    → ⊥
none_left None p none there = cc there
none_left (Some part) p none there = cc none

-- If a log has one file, its last file is its first.
pub last_is_first : (logs rest : List Files) (popped : Option Files) (file : Files)
    → logs ≡ rest ++ option_to_list popped → popped ≡ Some file → length logs ≡ 1 → slice_get logs 0 ≡ Some file
last_is_first logs [] popped file split is count =
    subst (λ (l : List Files). slice_get l 0 ≡ Some file) (sym (split ∙ ap option_to_list is)) refl
last_is_first logs (first ∷ rest) popped file split is count =
    let all : logs ≡ (first ∷ rest) ++ file ∷ [] =
    split ∙ ap (λ (o : Option Files). (first ∷ rest) ++ option_to_list o) is in
    absurd (omega (arith, count, ap length all, length-append (first ∷ rest) (file ∷ [])))
