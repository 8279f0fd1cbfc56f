-- How the logs and status files of a script are opened, one after another.
use Rattle.std.proofs.Common.{◌≡◌, ℕ, suc, ◌+◌, ◌≤◌, List, [], ◌∷◌, ◌++◌, length, take, Option, Some, None, refl, sym}
use Rattle.std.proofs.Common.{ap, ◌∙◌, arith, subst, append_assoc, append-nil, inl, inr}
use Rattle.std.proofs.Math.Seq.{take-suc}
use Rattle.std.proofs.lemmas.List.{take_all, length-append}
use Rattle.std.proofs.lemmas.Option.{slice_get-map, slice_get_within, get_or_from_slice_get, slice_get_cases}
use Rattle.std.specs.Prelude.{◌≢◌, slice_get, IfSome}
use Rattle.std.specs.IoError.{error_kind, raw_os_error}
use Rattle.std.specs.declared.io.Error.{Error}
use Rattle.std.specs.declared.io.ErrorKind.TheVariants as error
use Rattle.tai_status.specs.Causes.{cause_of}
use Rattle.cmd_multilog.specs.Folder.{Folder, Status, IsCause}
use Rattle.tai_status.specs.Extended.{Extended}
use Rattle.cmd_multilog.specs.Shelf.{Shelf, IsBegunAt, OpensLog, AsksFor, AsksForOne, AddsStatus, AddsNone}
use Rattle.std.specs.Option.{option_map}
use Rattle.mlog_script.specs.Script.{Act, Plan, log_plans}
use Rattle.cmd_multilog.specs.declared.fault.OpenFault.{OpenFault}
use Rattle.cmd_multilog.specs.Opening.{AllBegun, AllPlaced, Opens, IsFault, OneRefused, NoneRefused, OpensUpTo}
use Rattle.cmd_multilog.specs.Opening.{folders_of}

one_further : {X : Type 0} (xs : List X) (n : ℕ) (x : X) → slice_get xs n ≡ Some x
    → take (n + 1) xs ≡ take n xs ++ x ∷ []
one_further xs n x is =
    let e : n + 1 ≡ suc n = omega arith in
    ap (λ k. take k xs) e ∙ take-suc xs n x (slice_get_within xs n x is)
    ∙ ap (λ y. take n xs ++ y ∷ []) (get_or_from_slice_get xs n x x is)

all_taken : {X : Type 0} (xs : List X) (n : ℕ) → slice_get xs n ≡ None → take n xs ≡ xs
all_taken xs n is =
    elim ((slice_get_cases xs n).1) as (λ _. take n xs ≡ xs) [
      | inl found ↦ let some = found.2 in cc (sym is ∙ some)
      | inr past ↦ take_all n xs (past.0)
    ]

begun-more : (paths : List (List ℕ)) (folders : List (Option Folder)) (path : List ℕ) (folder : Option Folder)
    → AllBegun paths folders → IsBegunAt path folder
    → AllBegun (paths ++ path ∷ []) (folders ++ folder ∷ [])
begun-more [] [] path folder all one = (one, tt)
begun-more [] (f ∷ fs) path folder all one = absurd all
begun-more (p ∷ ps) [] path folder all one = absurd all
begun-more (p ∷ ps) (f ∷ fs) path folder all one = (all.0, begun-more ps fs path folder (all.1) one)

placed-more : (paths : List (List ℕ)) (statuses : List (Option Status)) (path : List ℕ) (status : Option Status)
    → AllPlaced paths statuses
    → IfSome status (λ s. s.path ≡ path) → AllPlaced (paths ++ path ∷ []) (statuses ++ status ∷ [])
placed-more [] [] path status all one = (one, tt)
placed-more [] (f ∷ fs) path status all one = absurd all
placed-more (p ∷ ps) [] path status all one = absurd all
placed-more (p ∷ ps) (f ∷ fs) path status all one = (all.0, placed-more ps fs path status (all.1) one)

extended-none : (a : Option (List (List ℕ))) → Extended a a []
extended-none None = tt
extended-none (Some past) = sym (append-nil past)

extended-both : (a b c : Option (List (List ℕ))) (ps qs : List (List ℕ)) → Extended a b ps → Extended b c qs
    → Extended a c (ps ++ qs)
extended-both None b c ps qs one two = tt
extended-both (Some past) None c ps qs one two = absurd one
extended-both (Some past) (Some now) None ps qs one two = absurd two
extended-both (Some past) (Some now) (Some later) ps qs one two =
    two ∙ ap (λ (t : List (List ℕ)). t ++ qs) one ∙ append_assoc past ps qs

extended-same : (a b c : Option (List (List ℕ))) (ps : List (List ℕ)) → Extended a b ps → c ≡ b → Extended a c ps
extended-same a b c ps one same = subst (λ (t : Option (List (List ℕ))). Extended a t ps) (sym same) one

pub opens-none : (a : Shelf) → Opens a a [] [] []
opens-none a = record {
  folders = [];
  placed = [];
  all_begun = tt;
  all_placed = tt;
  logs = sym (append-nil a.logs);
  statuses = sym (append-nil a.statuses);
  alerts = refl;
  asked_for = extended-none a.asked;
  failures = refl;
}

pub opens-log : (a b c : Shelf) (paths : List (List ℕ)) (n : ℕ) (path : List ℕ)
    → Opens a b (take n paths) [] (take n paths) → slice_get paths n ≡ Some path
    → OpensLog b c path → Opens a c (take (n + 1) paths) [] (take (n + 1) paths)
opens-log a b c paths n path o is l =
    subst (λ (ps : List (List ℕ)). Opens a c ps [] ps) (sym (one_further paths n path is)) (record {
      folders = o.folders ++ l.folder ∷ [];
      placed = o.placed;
      all_begun = begun-more (take n paths) o.folders path l.folder o.all_begun l.begun;
      all_placed = o.all_placed;
      logs = l.logs ∙ ap (λ (t : List (Option Folder)). t ++ l.folder ∷ []) o.logs
          ∙ append_assoc a.logs o.folders (l.folder ∷ []);
      statuses = l.statuses ∙ o.statuses;
      alerts = l.alerts ∙ o.alerts;
      asked_for = extended-both a.asked b.asked c.asked (take n paths) (path ∷ []) o.asked_for l.asked;
      failures = l.failures ∙ o.failures;
    })

pub opens-status : (a b c : Shelf) (paths : List (List ℕ)) (n : ℕ) (path : List ℕ) → Opens a b [] (take n paths) []
    → slice_get paths n ≡ Some path
    → AddsStatus b c path → Opens a c [] (take (n + 1) paths) []
opens-status a b c paths n path o is l =
    subst (λ (ps : List (List ℕ)). Opens a c [] ps []) (sym (one_further paths n path is)) (record {
      folders = o.folders;
      placed = o.placed ++ l.status ∷ [];
      all_begun = o.all_begun;
      all_placed = placed-more (take n paths) o.placed path l.status o.all_placed l.at;
      logs = l.logs ∙ o.logs;
      statuses = l.statuses ∙ ap (λ (t : List (Option Status)). t ++ l.status ∷ []) o.statuses
          ∙ append_assoc a.statuses o.placed (l.status ∷ []);
      alerts = l.alerts ∙ o.alerts;
      asked_for = extended-same a.asked b.asked c.asked [] o.asked_for l.asked;
      failures = l.failures ∙ o.failures;
    })

pub opens-adds_none : (a b c : Shelf) (paths files asked more : List (List ℕ)) → Opens a b paths files asked
    → AddsNone b c
    → Extended a.asked c.asked more → Opens a c paths files more
opens-adds_none a b c paths files asked more o l asks = record {
  folders = o.folders;
  placed = o.placed;
  all_begun = o.all_begun;
  all_placed = o.all_placed;
  logs = l.logs ∙ o.logs;
  statuses = l.statuses ∙ o.statuses;
  alerts = l.alerts ∙ o.alerts;
  asked_for = asks;
  failures = l.failures ∙ o.failures;
}

pub opens-all-logs : (a b : Shelf) (paths : List (List ℕ)) (n : ℕ) → Opens a b (take n paths) [] (take n paths)
    → slice_get paths n ≡ None
    → Opens a b paths [] paths
opens-all-logs a b paths n o is = subst (λ (ps : List (List ℕ)). Opens a b ps [] ps) (all_taken paths n is) o

pub opens-all-files : (a b : Shelf) (paths : List (List ℕ)) (n : ℕ) → Opens a b [] (take n paths) []
    → slice_get paths n ≡ None → Opens a b [] paths []
opens-all-files a b paths n o is = subst (λ (ps : List (List ℕ)). Opens a b [] ps []) (all_taken paths n is) o

none_begun : (folders : List (Option Folder)) → AllBegun [] folders → folders ≡ []
none_begun [] h = refl
none_begun (f ∷ fs) h = absurd h

none_placed : (statuses : List (Option Status)) → AllPlaced [] statuses → statuses ≡ []
none_placed [] h = refl
none_placed (f ∷ fs) h = absurd h

-- the logs, and then the status files
pub opens-both : (a b c : Shelf) (paths files asked : List (List ℕ)) → Opens a b paths [] asked → Opens b c [] files []
    → Opens a c paths files asked
opens-both a b c paths files asked o l = record {
  folders = o.folders;
  placed = l.placed;
  all_begun = o.all_begun;
  all_placed = l.all_placed;
  logs = l.logs ∙ ap (λ (t : List (Option Folder)). b.logs ++ t) (none_begun l.folders l.all_begun) ∙ append-nil b.logs
      ∙ o.logs;
  statuses = l.statuses ∙ ap (λ (t : List (Option Status)). t ++ l.placed) (o.statuses
      ∙ ap (λ (t : List (Option Status)). a.statuses ++ t) (none_placed o.placed o.all_placed) ∙ append-nil a.statuses);
  alerts = l.alerts ∙ o.alerts;
  asked_for = subst (λ (ps : List (List ℕ)). Extended a.asked c.asked ps) (append-nil asked)
      (extended-both a.asked b.asked c.asked asked [] o.asked_for l.asked_for);
  failures = l.failures ∙ o.failures;
}

-- the folder of a log of the script
pub folder_at : (script : List Act) (log : ℕ) (found : Option Plan) (plan : Plan) (path : List ℕ)
    → found ≡ slice_get (log_plans script) log
    → found ≡ Some plan → path ≡ plan.folder → slice_get (folders_of script) log ≡ Some path
folder_at script log found plan path there is named =
    slice_get-map (λ (p : Plan). p.folder) (log_plans script) log
    ∙ ap (option_map (λ (p : Plan). p.folder)) (sym there ∙ is)
    ∙ ap (λ (t : List ℕ). Some t) (sym named)

pub no_folder_at : (script : List Act) (log : ℕ) (found : Option Plan) → found ≡ slice_get (log_plans script) log
    → found ≡ None → slice_get (folders_of script) log ≡ None
no_folder_at script log found there is =
    slice_get-map (λ (p : Plan). p.folder) (log_plans script) log
    ∙ ap (option_map (λ (p : Plan). p.folder)) (sym there ∙ is)

pub longer : {X : Type 0} (old new : List X) (x : X) (n : ℕ) → new ≡ old ++ x ∷ [] → length old ≡ n → length new ≡ n + 1
longer old new x n is len = ap length is ∙ length-append old (x ∷ []) ∙ ap (λ k. k + 1) len

-- its folder was asked for
one_more : (a b c : Shelf) (script : List Act) (log : ℕ) (path : List ℕ)
    → Opens a b (take log (folders_of script)) [] (take log (folders_of script))
    → AddsNone b c → AsksForOne b c path → slice_get (folders_of script) log ≡ Some path
    → Opens a c (take log (folders_of script)) [] (take (log + 1) (folders_of script))
one_more a b c script log path o none one is =
    let paths = take log (folders_of script) in
    opens-adds_none a b c paths [] paths (take (log + 1) (folders_of script)) o none
    (subst (λ (ps : List (List ℕ)). Extended a.asked c.asked ps) (sym (one_further (folders_of script) log path is))
    (extended-both a.asked b.asked c.asked paths (path ∷ []) o.asked_for one))

-- no call to open folders failed, except for a lack of memory
not_refused : (a b c : Shelf) (fault : Error) → b.gave ≡ a.gave → IsCause fault b.gave c.gave
    → error_kind fault ≡ error.OutOfMemory → NoneRefused a.gave c.gave
not_refused a b c fault well (inl gave) kind = inr (record {
  error = fault;
  gave = subst (λ (t : Option (List Error)). Extended t c.gave (fault ∷ [])) well gave;
  kind_is = kind;
})
not_refused a b c fault well (inr (same, lacks)) kind = inl (same ∙ well)

-- one call failed
refused : (a b c : Shelf) (fault : Error) → b.gave ≡ a.gave → IsCause fault b.gave c.gave
    → error_kind fault ≢ error.OutOfMemory
    → OneRefused (cause_of (raw_os_error fault) (error_kind fault)) a.gave c.gave
refused a b c fault well (inl gave) kind = record {
  error = fault;
  gave = subst (λ (t : Option (List Error)). Extended t c.gave (fault ∷ [])) well gave;
  kind_is = kind;
  cause_is = refl;
}
refused a b c fault well (inr (same, lacks)) kind = absurd (kind lacks)

-- a log that is not opened
pub unopened : (a b c : Shelf) (script : List Act) (log : ℕ) (path : List ℕ) (fault : Error) (cause : OpenFault)
    → Opens a b (take log (folders_of script)) [] (take log (folders_of script)) → b.gave ≡ a.gave → AddsNone b c
    → AsksFor fault b c path → IsCause fault b.gave c.gave → slice_get (folders_of script) log ≡ Some path
    → IsFault fault log cause → OpensUpTo a c script cause
unopened a b c script log path fault cause o well none (inl one) gave is (inl (kind, e)) =
    subst (λ (w : OpenFault). OpensUpTo a c script w) (sym e) (
      log,
      0,
      log + 1,
      omega arith,
      not_refused a b c fault well gave kind,
      one_more a b c script log path o none one is,
    )
unopened a b c script log path fault cause o well none (inr (same, lacks)) gave is (inl (kind, e)) =
    let paths = take log (folders_of script) in
    subst (λ (w : OpenFault). OpensUpTo a c script w) (sym e) (
      log,
      0,
      log,
      omega arith,
      not_refused a b c fault well gave kind,
      opens-adds_none a b c paths [] paths paths o none
          (extended-same a.asked b.asked c.asked paths o.asked_for same),
    )
unopened a b c script log path fault cause o well none (inl one) gave is (inr (kind, e)) =
    subst (λ (w : OpenFault). OpensUpTo a c script w) (sym e) (
      slice_get_within (folders_of script) log path is,
      refused a b c fault well gave kind,
      one_more a b c script log path o none one is,
    )
unopened a b c script log path fault cause o well none (inr (same, lacks)) gave is (inr (kind, e)) =
    absurd (kind lacks)

-- status files that are not all placed
pub not_placed : (a b c : Shelf) (paths all : List (List ℕ)) → Opens a b paths [] paths → c.gave ≡ a.gave
    → ((files : ℕ) × Opens b c [] (take files all) [])
    → (logs : ℕ) × (files : ℕ) × (asked : ℕ) × (asked ≤ logs + 1) × NoneRefused a.gave c.gave
    × Opens a c (take logs paths) (take files all) (take asked paths)
not_placed a b c paths all o well (files, some) = (
  length paths,
  files,
  length paths,
  omega arith,
  inl well,
  subst (λ (ps : List (List ℕ)). Opens a c ps (take files all) ps) (sym (take_all (length paths) paths (omega arith)))
      (opens-both a b c paths (take files all) paths o some),
)
