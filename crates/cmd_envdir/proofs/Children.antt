-- The child of `envdir`: what a command says of variables, faults that come from no file, and names in byte order.
use Rattle.std.proofs.Common.{◌≡◌, ℕ, suc, ◌+◌, ◌<◌, ◌||◌, Bool, true, false, List, [], ◌∷◌, drop, drop-cons, length}
use Rattle.std.proofs.Common.{Option, Some, None, refl, sym, ap, ◌∙◌, arith, subst, String}
use Rattle.std.proofs.lemmas.List.{length-map, get_or-map}
use Rattle.std.specs.Prelude.{◌≢◌, bytes_eq, option_map, find, get_or, map, string_bytes, string_cmp, IsSorted}
use Rattle.std.specs.Prelude.{if◌then◌else◌, Result, Err, MatchOption, IsOkUnless, IsErrOf}
use Rattle.std.specs.List.{IsDistinct, AllByRecursion}
use Rattle.std.proofs.lemmas.Slice.Eq.{bytes_eq-Decides}
use Rattle.env_title.specs.Env.{Binding, HasDistinctNames, is_named, value_of}
use Rattle.env_title.specs.Files.{File, has_file}
use Rattle.env_title.specs.Faults.{first_fault}
use Rattle.env_title.specs.declared.fault.EnvFault.{EnvFault}
use Rattle.env_title.specs.declared.fault.EnvFault.TheVariants as why
use Rattle.env_title.proofs.Faulty.{never_memory}
use Rattle.cmd_envdir.specs.declared.fault.EnvdirFault.{EnvdirFault}
use Rattle.cmd_envdir.specs.declared.fault.EnvdirFault.TheVariants as fault
use Rattle.cmd_envdir.specs.Child.{said_of, AreInByteOrder}
use Rattle.cmd_envdir.specs.Ends.{starved, IsFirstFault}
use Rattle.cmd_envdir.specs.Sayings.{said_after_files, said_after_set}

-- that a variable is removed
abbrev gone : Option (Option (List ℕ))
gone = Some None

-- what is said of each variable
abbrev Sayings : Type 0
Sayings = List ℕ → Option (Option (List ℕ))

-- the item at a place, and those after it
cut : {X : Type 0} (items : List X) (i : ℕ) (item : X) → i < length items → item ≡ get_or items i item
    → drop i items ≡ item ∷ drop (i + 1) items
cut items i item within is =
    let next : suc i ≡ i + 1 = omega arith in
    drop-cons items i item within ∙ ap (λ x. x ∷ drop (suc i) items) (sym is) ∙ ap (λ k. item ∷ drop k items) next

-- what is said of a variable after one with this name is changed
changed : (name at : List ℕ) (said : Option (Option (List ℕ))) (before after : Sayings) → after at ≡ said
    → ((other : List ℕ) → other ≢ at → after other ≡ before other)
    → after name ≡ (if bytes_eq name at then said else before name)
changed name at said before after set others =
    elim (bytes_eq name at) as (λ b. bytes_eq name at ≡ b → after name ≡ (if b then said else before name)) [
      | true ↦ λ same. ap after ((bytes_eq-Decides name at).0 same) ∙ set
      | false ↦ λ differ. others name (λ same. let yes = (bytes_eq-Decides name at).1 same in let no : true ≡ false =
          sym yes ∙ differ in cc no)
    ] refl

-- a name that is removed, and those after it
pub taken_further : (files : List File) (i : ℕ) (file : File) (before after all : Sayings) → i < length files
    → file ≡ get_or files i file
    → after file.name ≡ Some None → ((other : List ℕ) → other ≢ file.name → after other ≡ before other)
    → ((name : List ℕ) → said_after_files (drop i files) name (before name) ≡ all name)
    → (name : List ℕ) → said_after_files (drop (i + 1) files) name (after name) ≡ all name
taken_further files i file before after all within is taken others so name =
    ap (said_after_files (drop (i + 1) files) name) (changed name file.name (Some None) before after taken others)
    ∙ ap (λ rest. said_after_files rest name (before name)) (sym (cut files i file within is))
    ∙ so name

pub bytes_eq-sym : (xs ys : List ℕ) → bytes_eq xs ys ≡ bytes_eq ys xs
bytes_eq-sym xs ys =
    elim (bytes_eq xs ys) as (λ b. bytes_eq xs ys ≡ b → b ≡ bytes_eq ys xs) [
      | true ↦ λ same. sym ((bytes_eq-Decides ys xs).1 (sym ((bytes_eq-Decides xs ys).0 same)))
      | false ↦ λ differ. elim (bytes_eq ys xs) as (λ b. bytes_eq ys xs ≡ b → false ≡ b) [
        | true ↦ λ same. sym differ ∙ (bytes_eq-Decides xs ys).1 (sym ((bytes_eq-Decides ys xs).0 same))
        | false ↦ λ _. refl
      ] refl
    ] refl

-- a variable that is set, and those after it
pub set_further : (variables : List Binding) (i : ℕ) (variable : Binding) (before after all : Sayings)
    → i < length variables
    → variable ≡ get_or variables i variable
    → after variable.name ≡ Some (Some variable.value)
    → ((other : List ℕ) → other ≢ variable.name → after other ≡ before other)
    → ((name : List ℕ) → said_after_set (drop i variables) name (before name) ≡ all name)
    → (name : List ℕ) → said_after_set (drop (i + 1) variables) name (after name) ≡ all name
set_further variables i variable before after all within is set others so name =
    ap (said_after_set (drop (i + 1) variables) name) (
    changed name variable.name (Some (Some variable.value)) before after set others
    ∙ ap (λ b. if b then Some (Some variable.value) else before name) (bytes_eq-sym name variable.name)
    )
    ∙ ap (λ rest. said_after_set rest name (before name)) (sym (cut variables i variable within is))
    ∙ so name

-- All files

taken_away : (files : List File) (name : List ℕ) (before : Option (Option (List ℕ)))
    → said_after_files files name before ≡ (if has_file files name then gone else before)
taken_away [] name before = refl
taken_away (file ∷ files) name before =
    elim (bytes_eq name file.name) as (λ b. said_after_files files name (if b then gone else before)
    ≡ (if b || has_file files name then gone else before)) [
      | true ↦ taken_away files name (gone) ∙ elim (has_file files name) as (λ b. (if b then gone else gone) ≡ gone) [
        | true ↦ refl
        | false ↦ refl
      ]
      | false ↦ taken_away files name before
    ]

-- All variables

-- what is set: a value, if there is one
abbrev set_or : Option (List ℕ) → Option (Option (List ℕ)) → Option (Option (List ℕ))
set_or (Some value) before = Some (Some value)
set_or None before = before

-- names that are no longer in the list are not set
not_set : (at name : List ℕ) (variables : List Binding) (before : Option (Option (List ℕ))) → bytes_eq at name ≡ true
    → AllByRecursion (λ other. bytes_eq at other.name ≡ false) variables → said_after_set variables name before ≡ before
not_set at name [] before same apart = refl
not_set at name (variable ∷ variables) before same apart =
    let is = (bytes_eq-Decides at name).0 same in
    let differ : bytes_eq variable.name name ≡ false = bytes_eq-sym variable.name name
    ∙ ap (λ n. bytes_eq n variable.name) (sym is) ∙ apart.0 in
    ap (λ b. said_after_set variables name (if b then Some (Some variable.value) else before)) differ
    ∙ not_set at name variables before same apart.1

set_all : (variables : List Binding) (name : List ℕ) (before : Option (Option (List ℕ))) → HasDistinctNames variables
    → said_after_set variables name before ≡ set_or (value_of variables name) before
unfolding IsDistinct
set_all [] name before distinct = refl
set_all (variable ∷ variables) name before distinct =
    elim (bytes_eq variable.name name) as (λ b. bytes_eq variable.name name ≡ b
    → said_after_set variables name (if b then Some (Some variable.value) else before)
    ≡ set_or (option_map (λ v. v.value) (if b then Some variable else find (is_named name) variables)) before) [
      | true ↦ λ same. not_set variable.name name variables (Some (Some variable.value)) same distinct.0
      | false ↦ λ _. set_all variables name before distinct.1
    ] refl

set_or-taken : (value : Option (List ℕ)) (taken : Bool) → set_or value (if taken then gone else None)
    ≡ said_of value taken
set_or-taken (Some value) taken = refl
set_or-taken None true = refl
set_or-taken None false = refl

-- A command that removed the names of files, and then set these variables, says this of each variable.
pub said_whole : (files : List File) (variables : List Binding) (name : List ℕ) → HasDistinctNames variables
    → said_after_set variables name (said_after_files files name None)
    ≡ said_of (value_of variables name) (has_file files name)
said_whole files variables name distinct =
    ap (said_after_set variables name) (taken_away files name None)
    ∙ set_all variables name (if has_file files name then gone else None) distinct
    ∙ set_or-taken (value_of variables name) (has_file files name)

-- Faults

-- If memory is lacking, the first fault is reported, if there is one.
starved_at : (files : List File) (o : Option EnvFault) → first_fault files ≡ o → IsFirstFault (starved o) files
starved_at files None is = is
starved_at files (Some (why.NameHasEquals place)) is = is
starved_at files (Some (why.NotText place)) is = is
starved_at files (Some why.OutOfMemory) is = absurd (never_memory files is)

pub starved_first : (files : List File) (reported : EnvdirFault) → reported ≡ starved (first_fault files)
    → IsFirstFault reported files
starved_first files reported is =
    subst (λ (w : EnvdirFault). IsFirstFault w files) (sym is) (starved_at files (first_fault files) refl)

-- Memory is reported as lacking only if no file has a fault.
pub wanted : {T : Type 0} (files : List File) (r : Result T EnvFault)
    → MatchOption (first_fault files) (IsOkUnless r why.OutOfMemory) (λ f. IsErrOf r f) → r ≡ Err why.OutOfMemory
    → first_fault files ≡ None
wanted {T} files r refuses is =
    elim (first_fault files) as (λ o. first_fault files ≡ o
    → MatchOption o (IsOkUnless r why.OutOfMemory) (λ f. IsErrOf r f) → o ≡ None) [
      | None ↦ λ _ h. refl
      | Some f ↦ λ bad h.
          let same : why.OutOfMemory ≡ f = cc (subst (λ (q : Result T EnvFault). IsErrOf q f) is h) in
          absurd (never_memory files (bad ∙ ap {B = Option EnvFault} (λ (w : EnvFault). Some w) (sym same)))
    ] refl refuses

-- Names

-- texts in order, by their bytes
pub in_byte_order : {Z : Type 0} (names : List (String Z)) → IsSorted string_cmp names
    → AreInByteOrder (map string_bytes names)
in_byte_order [] h = λ k d low within. absurd (omega (arith, within))
in_byte_order {Z} (name ∷ names) h = λ k d low within.
    let texts : length (map string_bytes (name ∷ names)) ≡ length (name ∷ names) =
    length-map (name ∷ names) string_bytes in
    let far : k + 1 < length (name ∷ names) = subst (λ (n : ℕ). k + 1 < n) texts within in
    let near : k < length (name ∷ names) = omega (arith, far) in
    let later = get_or-map string_bytes (name ∷ names) (k + 1) name d far in
    let sooner = get_or-map string_bytes (name ∷ names) k name d near in
    rw (later, sooner) (h k name low far)
