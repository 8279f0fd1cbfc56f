-- Folders of logs: what calls do one after the other.
use Rattle.std.proofs.Common.{◌≡◌, ℕ, ◌+◌, ◌<◌, true, false, List, [], ◌∷◌, ◌++◌, length, map, drop, get_or, Option}
use Rattle.std.proofs.Common.{Some, None, refl, sym, ap, ◌∙◌, arith, subst, append_assoc, append-nil}
use Rattle.std.specs.Prelude.{IfSome, IsSome, MatchOption, unwrap_or, take, Result, Ok, Err, OnOk, OnErr}
use Rattle.std.specs.Option.{option_map}
use Rattle.std.proofs.lemmas.Slice.Eq.{bytes_eq-Decides}
use Rattle.mlog_files.specs.Files.{Old, Files, files_after, append_steps, with_old}
use Rattle.mlog_files.specs.Store.{Reaches}
use Rattle.cmd_multilog.specs.Names.{with_name}
use Rattle.cmd_multilog.specs.Folder.{Folder, Changes, Locks, Opens, Extends, Syncs, Renames, without, Removes, Begins}
use Rattle.cmd_multilog.specs.Folder.{files_in, files_of, IsKept}
use Rattle.cmd_multilog.proofs.Naming.{names-with_old}

-- the files of a folder with this current file
abbrev files_with : List Old → Option (List ℕ) → Option Files
files_with olds current = option_map (λ bytes. record { current = bytes; olds = olds }) current

-- the folder after a sync, after a rename, and after an opening
abbrev synced : Folder → Folder
synced a = record { path = a.path; locked = a.locked; current = a.current; synced = true; olds = a.olds }

abbrev extended : List ℕ → Folder → List ℕ → Folder
extended piece a bytes = record {
  path = a.path;
  locked = a.locked;
  current = Some (bytes ++ piece);
  synced = false;
  olds = a.olds;
}

abbrev renamed : List ℕ → Folder → List ℕ → Folder
renamed name a bytes = record {
  path = a.path;
  locked = a.locked;
  current = None;
  synced = false;
  olds = with_old (record { name = name; bytes = bytes }) a.olds;
}

abbrev opened : Folder → Folder
opened a = record {
  path = a.path;
  locked = a.locked;
  current = Some (unwrap_or a.current []);
  synced = false;
  olds =
      a.olds;
}

abbrev removed : List ℕ → Folder → Folder
removed name a = record {
  path = a.path;
  locked = a.locked;
  current = a.current;
  synced = a.synced;
  olds =
      without name a.olds;
}

-- Files

appended_files : (bytes : List ℕ) (files : Files)
    → files_after (append_steps bytes) files ≡ record { current = files.current ++ bytes; olds = files.olds }
appended_files [] files =
    ap (λ (t : List ℕ). record { current = t; olds = files.olds }) (sym (append-nil files.current))
appended_files (b ∷ bs) files =
    appended_files bs (record { current = files.current ++ b ∷ []; olds = files.olds })
    ∙ ap (λ (t : List ℕ). record { current = t; olds = files.olds }) (append_assoc files.current (b ∷ []) bs)

pub extends_files : (a b : Option Folder) (piece : List ℕ) → Changes a b (Extends piece)
    → Reaches (files_of a) (files_of b) (append_steps piece)
extends_files None None piece h = tt
extends_files None (Some b) piece h = absurd h
extends_files (Some a) None piece h = absurd h
extends_files (Some a) (Some b) piece h =
    elim (a.current) as (λ cur. MatchOption cur ⊥ (λ bytes. b ≡ extended piece a bytes)
    → Reaches (files_with a.olds cur) (files_of (Some b)) (append_steps piece)) [
      | None ↦ λ never. absurd never
      | Some bytes ↦ λ e. subst
          (λ (f : Folder). Reaches (files_with a.olds (Some bytes)) (files_in f) (append_steps piece)) (sym e)
          (sym (appended_files piece (record { current = bytes; olds = a.olds })))
    ] h

renamed_gone : (a b : Folder) (name : List ℕ) → Renames name a b → b.current ≡ None
renamed_gone a b name h =
    elim (a.current) as (λ cur. MatchOption cur ⊥ (λ bytes. b ≡ renamed name a bytes) → b.current ≡ None) [
      | None ↦ λ never. absurd never
      | Some bytes ↦ λ e. ap (λ (f : Folder). f.current) e
    ] (h.1)

-- Paths

-- What is kept of a folder

pub kept-synced : (a b : Option Folder) (names : List (List ℕ)) (len : ℕ) → Changes a b Syncs → IsKept a names len
    → IsKept b names len
kept-synced None None names len h kept = tt
kept-synced None (Some b) names len h kept = absurd h
kept-synced (Some a) None names len h kept = absurd h
kept-synced (Some a) (Some b) names len h kept = subst (λ (f : Folder). IsKept (Some f) names len) (sym h) kept

pub kept-renamed : (a b : Option Folder) (name : List ℕ) (names : List (List ℕ)) (len n : ℕ)
    → Changes a b (Renames name)
    → IsKept a names len → IsKept b (with_name name names) n
kept-renamed None None name names len n h kept = tt
kept-renamed None (Some b) name names len n h kept = absurd h
kept-renamed (Some a) None name names len n h kept = absurd h
kept-renamed (Some a) (Some b) name names len n h kept =
    elim (a.current) as (λ cur. MatchOption cur ⊥ (λ bytes. b ≡ renamed name a bytes)
    → IsKept (Some b) (with_name name names) n) [
      | None ↦ λ never. absurd never
      | Some bytes ↦ λ e. subst (λ (f : Folder). IsKept (Some f) (with_name name names) n) (sym e) (
        kept.0,
        ap (with_name name) (kept.1) ∙ sym (names-with_old (record { name = name; bytes = bytes }) a.olds),
        tt,
      )
    ] (h.1)

pub kept-begun : (a b c : Option Folder) (name : List ℕ) (names : List (List ℕ)) → Changes a b (Renames name)
    → Changes b c Opens
    → IsKept b names 0 → IsKept c names 0
kept-begun None None None name names h k kept = tt
kept-begun None None (Some c) name names h k kept = absurd k
kept-begun None (Some b) c name names h k kept = absurd h
kept-begun (Some a) None c name names h k kept = absurd h
kept-begun (Some a) (Some b) None name names h k kept = absurd k
kept-begun (Some a) (Some b) (Some c) name names h k kept =
    let gone = renamed_gone a b name h in
    subst (λ (f : Folder). IsKept (Some f) names 0) (sym k)
    (kept.0, kept.1, ap (λ (cur : Option (List ℕ)). length (unwrap_or cur [])) (sym gone))

pub begun : (a b c : Option Folder) → Changes a b Locks → Changes b c Opens → Changes a c Begins
begun None None None h k = tt
begun None None (Some c) h k = absurd k
begun None (Some b) c h k = absurd h
begun (Some a) None c h k = absurd h
begun (Some a) (Some b) None h k = absurd k
begun (Some a) (Some b) (Some c) h k = k ∙ ap opened h

without-first : (name : List ℕ) (old : Old) (olds : List Old) → name ≡ old.name → without name (old ∷ olds) ≡ olds
without-first name old olds is = rw ((bytes_eq-Decides name old.name).1 is) refl

removed_olds : (olds : List Old) (first : List ℕ) (rest : List (List ℕ)) → first ∷ rest ≡ map (λ (o : Old). o.name) olds
    → without first olds ≡ drop 1 olds
removed_olds [] first rest is = cc is
removed_olds (old ∷ olds) first rest is =
    without-first first old olds (ap (λ (t : List (List ℕ)). get_or t 0 first) is)

drop-map : (olds : List Old) → map (λ (o : Old). o.name) (drop 1 olds) ≡ drop 1 (map (λ (o : Old). o.name) olds)
drop-map [] = refl
drop-map (old ∷ olds) = refl

-- the old file of the first name is removed
pub kept-removed : (a b : Option Folder) (first : List ℕ) (rest : List (List ℕ)) (len : ℕ) → Changes a b (Removes first)
    → IsKept a (first ∷ rest) len
    → IsKept b rest len
kept-removed None None first rest len h kept = tt
kept-removed None (Some b) first rest len h kept = absurd h
kept-removed (Some a) None first rest len h kept = absurd h
kept-removed (Some a) (Some b) first rest len h kept =
    let is = removed_olds a.olds first rest (kept.1) in
    subst (λ (f : Folder). IsKept (Some f) rest len) (sym h) (
      kept.0,
      ap (λ (t : List (List ℕ)). drop 1 t) (kept.1) ∙ sym (drop-map a.olds)
          ∙ ap (map (λ (o : Old). o.name)) (sym is),
      kept.2,
    )

-- the same, if the first name was read and removed at its place
pub kept-removed-first : (a b : Option Folder) (first : List ℕ) (names : List (List ℕ)) (len : ℕ)
    → Changes a b (Removes first) → 0 < length names
    → first ≡ get_or names 0 first → IsKept a names len → IsKept b (take 0 names ++ drop 1 names) len
kept-removed-first a b first [] len h some is kept = absurd (omega (arith, some))
kept-removed-first a b first (name ∷ names) len h some is kept =
    kept-removed a b first names len h (subst (λ (n : List ℕ). IsKept a (n ∷ names) len) (sym is) kept)

-- a new current file is begun, or there is none
pub kept-begun-or : {X E : Type 0} (r : Result X E) (a b c : Option Folder) (name : List ℕ) (names : List (List ℕ))
    → Changes a b (Renames name)
    → OnOk r (Changes b c Opens) → OnErr r (c ≡ b) → IsKept b names 0 → IsKept c names 0
kept-begun-or (Ok x) a b c name names h ok err kept = kept-begun a b c name names h ok kept
kept-begun-or (Err e) a b c name names h ok err kept = subst (λ (f : Option Folder). IsKept f names 0) (sym err) kept

if_some_any : {X : Type 0} (x : Option X) (P : Type 0) → P → IfSome x (λ _. P)
if_some_any None P p = tt
if_some_any (Some x) P p = p

-- A log whose current file was finished has one again, if the files are reported.
pub finish_begins : (o s n c : Option Folder) (name : List ℕ) → Changes o s Syncs → Changes s n (Renames name)
    → Changes n c Opens
    → IfSome (files_of o) (λ _. IsSome (files_of c))
finish_begins None s n c name k l m = tt
finish_begins (Some o) None n c name k l m = absurd k
finish_begins (Some o) (Some s) None c name k l m = absurd l
finish_begins (Some o) (Some s) (Some n) None name k l m = absurd m
finish_begins (Some o) (Some s) (Some n) (Some c) name k l m =
    if_some_any (files_in o) (IsSome (files_in c)) (rw m refl)

pub finish_begins_or : {T E : Type 0} (r : Result T E) (o s n c : Option Folder) (name : List ℕ) → Changes o s Syncs
    → Changes s n (Renames name) → OnOk r (Changes n c Opens)
    → OnOk r (IfSome (files_of o) (λ _. IsSome (files_of c)))
finish_begins_or (Ok x) o s n c name k l m = finish_begins o s n c name k l m
finish_begins_or (Err e) o s n c name k l m = tt
