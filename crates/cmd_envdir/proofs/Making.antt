-- What a shell and `env` make of variables by the commands of files.
use Rattle.std.proofs.Common.{◌≡◌, ℕ, ◌==◌, true, false, cond, List, [], ◌∷◌, ◌++◌, refl, sym, ◌∙◌, ap, subst, length}
use Rattle.std.specs.Prelude.{Result, Ok, Err, IfOk, Bool, Option, Some, None, option_map, not, ◌&&◌, ◌||◌, filter}
use Rattle.std.specs.Prelude.{find, fold, bytes_eq, codes, flat_map, if◌then◌else◌, is_some, map, All}
use Rattle.std.specs.List.{IsDistinct, AllByRecursion, list_any}
use Rattle.std.proofs.lemmas.Grind.{flat_map-append}
use Rattle.std.proofs.lemmas.List.{append_assoc, append-nil}
use Rattle.std.proofs.lemmas.List.Elements.{All-nil, All-cons, filter-append}
use Rattle.std.proofs.lemmas.List.Folds.{list_any-append}
use Rattle.std.proofs.lemmas.Map.Views.{any-filter_same}
use Rattle.std.proofs.lemmas.Bool.{ne_eqb}
use Rattle.std.proofs.lemmas.Slice.Eq.{bytes_eq-Decides}
use Rattle.env_title.specs.Env.{Binding, HasDistinctNames, binding, is_named, value_of, without, put}
use Rattle.env_title.specs.Files.{File, is_hidden, env_after}
use Rattle.env_title.specs.Laws.{LastFileDecides, last_file, value_by}
use Rattle.cmd_envdir.specs.Names.{is_identifier, is_left, is_plain, is_reserved, own_names}
use Rattle.cmd_envdir.specs.Shell.{commands_from, shell_commands}
use Rattle.cmd_envdir.specs.Shell.Position.{Between}
use Rattle.cmd_envdir.specs.Script.{Change, HandsOn, ReadsAsScriptOf, assignment, bound_by, changed, command_of}
use Rattle.cmd_envdir.specs.Script.{env_words, is_settled, made_of, names_file, removal, start_of}
use Rattle.cmd_envdir.specs.Quoting.{file_line, is_set, line_of, lines_text, removed_text, script_text, set_text}
use Rattle.cmd_envdir.specs.Quoting.{start_text, are_none, env_text, escaped, word_text}
use Rattle.cmd_envdir.proofs.Quoting.{read_line, read_words}
use Rattle.cmd_envdir.proofs.Children.{bytes_eq-sym}

abbrev Value : Type 0
Value = Option (List ℕ)

same : (xs ys : List ℕ) → bytes_eq xs ys ≡ true → xs ≡ ys
same xs ys e = (bytes_eq-Decides xs ys).0 e

abbrev none : Value
none = None

abbrev or_else : Value → Value → Value
or_else (Some value) other = Some value
or_else None other = other

or_empty : (value : Value) → or_else value None ≡ value
or_empty (Some value) = refl
or_empty None = refl

-- the value of a variable after one is removed
after_removal : (env : List Binding) (gone name : List ℕ)
    → value_of (without env gone) name ≡ (if bytes_eq gone name then None else value_of env name)
after_removal [] gone name = elim (bytes_eq gone name) as (λ b. none ≡ (if b then none else none)) [
  | true ↦ refl
  | false ↦ refl
]
after_removal (variable ∷ env) gone name =
    elim (bytes_eq variable.name gone) as (λ b. bytes_eq variable.name gone ≡ b →
    value_of (cond (not b) (variable ∷ without env gone) (without env gone)) name
    ≡ (if bytes_eq gone name then None else value_of (variable ∷ env) name)) [
      | true ↦ λ is.
          let called : bytes_eq variable.name name ≡ bytes_eq gone name =
          ap (λ n. bytes_eq n name) (same variable.name gone is) in
          after_removal env gone name
          ∙ elim (bytes_eq gone name) as (λ b. bytes_eq variable.name name ≡ b → (if b then None else value_of env name)
          ≡ (if b then None else value_of (variable ∷ env) name)) [
            | true ↦ λ _. refl
            | false ↦ λ apart. rw apart refl
          ] called
      | false ↦ λ other.
          elim (bytes_eq variable.name name) as (λ b. bytes_eq variable.name name ≡ b →
          option_map (λ (v : Binding). v.value) (cond b (Some variable) (find (is_named name) (without env gone)))
          ≡ (if bytes_eq gone name then None else option_map (λ (v : Binding). v.value)
          (cond b (Some variable) (find (is_named name) env)))) [
            | true ↦ λ is.
                elim (bytes_eq gone name) as (λ b. bytes_eq gone name ≡ b
                → Some variable.value ≡ (if b then None else Some variable.value)) [
                  | true ↦ λ too.
                      let one : variable.name ≡ gone = same variable.name name is ∙ sym (same gone name too) in
                      let never : true ≡ false = sym ((bytes_eq-Decides variable.name gone).1 one) ∙ other in
                      cc never
                  | false ↦ λ _. refl
                ] refl
            | false ↦ λ _. after_removal env gone name
          ] refl
    ] refl

-- a variable that is last
found_behind : (env : List Binding) (last : Binding) (name : List ℕ)
    → value_of (env ++ last ∷ []) name ≡ or_else (value_of env name) (value_of (last ∷ []) name)
found_behind [] last name = refl
found_behind (variable ∷ env) last name =
    elim (bytes_eq variable.name name) as (λ b.
    option_map (λ (v : Binding). v.value) (cond b (Some variable) (find (is_named name) (env ++ last ∷ [])))
    ≡ or_else (option_map (λ (v : Binding). v.value) (cond b (Some variable) (find (is_named name) env)))
    (value_of (last ∷ []) name)) [
      | true ↦ refl
      | false ↦ found_behind env last name
    ]

-- the value of a variable after one is set
after_setting : (env : List Binding) (set : Binding) (name : List ℕ)
    → value_of (put env set.name set.value) name ≡ or_else (value_of (set ∷ []) name) (value_of env name)
after_setting env set name =
    found_behind (without env set.name) (binding set.name set.value) name
    ∙ ap (λ value. or_else value (value_of (set ∷ []) name)) (after_removal env set.name name)
    ∙ elim (bytes_eq set.name name) as (λ b.
    or_else (if b then None else value_of env name) (option_map (λ (v : Binding). v.value) (cond b (Some set) None))
    ≡ or_else (option_map (λ (v : Binding). v.value) (cond b (Some set) None)) (value_of env name)) [
      | true ↦ refl
      | false ↦ or_empty (value_of env name)
    ]

-- names that are different from one name
not_there : (set : List Binding) (at name : List ℕ) → bytes_eq at name ≡ true
    → AllByRecursion (λ other. bytes_eq at other.name ≡ false) set → value_of set name ≡ None
not_there [] at name is apart = refl
not_there (variable ∷ set) at name is apart =
    elim (bytes_eq variable.name name) as (λ b. bytes_eq variable.name name ≡ b →
    option_map (λ (v : Binding). v.value) (cond b (Some variable) (find (is_named name) set)) ≡ None) [
      | true ↦ λ too.
          let one : at ≡ variable.name = same at name is ∙ sym (same variable.name name too) in
          let never : true ≡ false = sym ((bytes_eq-Decides at variable.name).1 one) ∙ apart.0 in
          cc never
      | false ↦ λ _. not_there set at name is apart.1
    ] refl

-- the value of a variable after some are set, with no name twice
after_settings : (set env : List Binding) (name : List ℕ) → HasDistinctNames set
    → value_of (fold (λ before variable. put before variable.name variable.value) env set) name
    ≡ or_else (value_of set name) (value_of env name)
unfolding IsDistinct
after_settings [] env name distinct = refl
after_settings (variable ∷ set) env name distinct =
    after_settings set (put env variable.name variable.value) name distinct.1
    ∙ ap (or_else (value_of set name)) (after_setting env variable name)
    ∙ elim (bytes_eq variable.name name) as (λ b. bytes_eq variable.name name ≡ b →
    or_else (value_of set name)
    (or_else (option_map (λ (v : Binding). v.value) (cond b (Some variable) None)) (value_of env name))
    ≡ or_else (option_map (λ (v : Binding). v.value) (cond b (Some variable) (find (is_named name) set)))
    (value_of env name)) [
      | true ↦ λ is. rw (not_there set variable.name name is distinct.0) refl
      | false ↦ λ _. refl
    ] refl

-- The names that the commands handle

-- the names of the files that are not hidden
abbrev names : List File → List (List ℕ)
names files = map (λ file. file.name) (filter (λ file. not (is_hidden file)) files)

-- the names that a shell changes
abbrev lines_of : List File → List (List ℕ)
lines_of files = own_names ++ filter is_plain (names files)

-- whether `env` must remove a name
abbrev goes : (target : List Binding) → List ℕ → Bool
goes target name = not (is_plain name) && not (is_some (value_of target name))

abbrev removed_of : (target : List Binding) → List File → List (List ℕ)
removed_of target files = filter (goes target) (names files)

abbrev set_of : List File → (target : List Binding) → List Binding
set_of files target = filter (λ variable. is_set files variable.name) target

abbrev change : (target : List Binding) → List ℕ → Change
change target name = record { name = name; value = value_of target name }

abbrev changes_of : (target : List Binding) → List (List ℕ) → List Change
changes_of target ns = map (change target) ns

-- a name among those that pass a test
among : (test : List ℕ → Bool) (name : List ℕ) (ns : List (List ℕ))
    → list_any (bytes_eq name) (filter test ns) ≡ (test name && list_any (bytes_eq name) ns)
among test name ns =
    any-filter_same (bytes_eq name) test (test name) (λ other is. ap test (sym (same name other is))) ns

-- What the commands make

-- the value of a variable after a change of one
bound_value : (env : List Binding) (at name : List ℕ) (value : Value)
    → value_of (bound_by env at value) name ≡ (if bytes_eq at name then value else value_of env name)
bound_value env at name None = after_removal env at name
bound_value env at name (Some value) =
    after_setting env (binding at value) name
    ∙ elim (bytes_eq at name) as (λ b.
    or_else (option_map (λ (v : Binding). v.value) (cond b (Some (binding at value)) None)) (value_of env name)
    ≡ (if b then Some value else value_of env name)) [
      | true ↦ refl
      | false ↦ refl
    ]

-- the value after changes: the new value for the names that are changed
changed_value : (ns : List (List ℕ)) (target own : List Binding) (name : List ℕ)
    → value_of (changed own (changes_of target ns)) name
    ≡ (if list_any (bytes_eq name) ns then value_of target name else value_of own name)
changed_value [] target own name = refl
changed_value (at ∷ ns) target own name =
    changed_value ns target (bound_by own at (value_of target at)) name
    ∙ ap (λ (value : Value). if list_any (bytes_eq name) ns then value_of target name else value)
    (bound_value own at name (value_of target at)
    ∙ ap (λ (b : Bool). if b then value_of target at else value_of own name) (bytes_eq-sym at name))
    ∙ elim (bytes_eq name at) as (λ b. bytes_eq name at ≡ b →
    (if list_any (bytes_eq name) ns then value_of target name
    else (if b then value_of target at else value_of own name))
    ≡ (if b || list_any (bytes_eq name) ns then value_of target name else value_of own name)) [
      | true ↦ λ is.
          ap (λ (n : List ℕ). if list_any (bytes_eq name) ns then value_of target name else value_of target n)
          (sym (same name at is))
          ∙ elim (list_any (bytes_eq name) ns) as (λ b. (if b then value_of target name else value_of target name)
          ≡ value_of target name) [
            | true ↦ refl
            | false ↦ refl
          ]
      | false ↦ λ _. refl
    ] refl

-- the value after variables are removed
removed_value : (removed : List (List ℕ)) (env : List Binding) (name : List ℕ)
    → value_of (fold without env removed) name
    ≡ (if list_any (bytes_eq name) removed then None else value_of env name)
removed_value [] env name = refl
removed_value (gone ∷ removed) env name =
    removed_value removed (without env gone) name
    ∙ ap (λ (value : Value). if list_any (bytes_eq name) removed then None else value)
    (after_removal env gone name
    ∙ ap (λ (b : Bool). if b then none else value_of env name) (bytes_eq-sym gone name))
    ∙ elim (bytes_eq name gone) as (λ b.
    (if list_any (bytes_eq name) removed then none else (if b then None else value_of env name))
    ≡ (if b || list_any (bytes_eq name) removed then None else value_of env name)) [
      | true ↦ elim (list_any (bytes_eq name) removed) as (λ b. (if b then none else none) ≡ none) [
        | true ↦ refl
        | false ↦ refl
      ]
      | false ↦ refl
    ]

-- the value among variables that pass a test of their names
filtered_value : (test : List ℕ → Bool) (env : List Binding) (name : List ℕ)
    → value_of (filter (λ variable. test variable.name) env) name ≡ (if test name then value_of env name else None)
filtered_value test [] name = elim (test name) as (λ b. none ≡ (if b then none else none)) [
  | true ↦ refl
  | false ↦ refl
]
filtered_value test (variable ∷ env) name =
    elim (bytes_eq variable.name name) as (λ b. bytes_eq variable.name name ≡ b →
    value_of (filter (λ v. test v.name) (variable ∷ env)) name
    ≡ (if test name then option_map (λ (v : Binding). v.value) (cond b (Some variable) (find (is_named name) env))
    else None)) [
      | true ↦ λ is.
          elim (test variable.name) as (λ b. test variable.name ≡ b →
          value_of (cond b (variable ∷ filter (λ v. test v.name) env) (filter (λ v. test v.name) env)) name
          ≡ (if test name then Some variable.value else None)) [
            | true ↦ λ passes. rw (is, sym (ap test (same variable.name name is)) ∙ passes) refl
            | false ↦ λ fails.
                let no : test name ≡ false = sym (ap test (same variable.name name is)) ∙ fails in
                filtered_value test env name
                ∙ ap (λ (b : Bool). if b then value_of env name else None) no
                ∙ ap (λ (b : Bool). if b then Some variable.value else none) (sym no)
          ] refl
      | false ↦ λ other.
          elim (test variable.name) as (λ b.
          value_of (cond b (variable ∷ filter (λ v. test v.name) env) (filter (λ v. test v.name) env)) name
          ≡ (if test name then value_of env name else None)) [
            | true ↦ rw other (filtered_value test env name)
            | false ↦ filtered_value test env name
          ]
    ] refl

all_of_filter : {X : Type 0} (P : X → Type 0) (test : X → Bool) (xs : List X) → AllByRecursion P xs
    → AllByRecursion P (filter test xs)
all_of_filter P test [] all = tt
all_of_filter P test (x ∷ xs) all =
    elim (test x) as (λ b. AllByRecursion P (cond b (x ∷ filter test xs) (filter test xs))) [
      | true ↦ (all.0, all_of_filter P test xs all.1)
      | false ↦ all_of_filter P test xs all.1
    ]

-- a part of variables with distinct names has distinct names
apart_filter : (test : Binding → Bool) (env : List Binding) → HasDistinctNames env → HasDistinctNames (filter test env)
unfolding IsDistinct
apart_filter test [] distinct = tt
apart_filter test (variable ∷ env) distinct =
    elim (test variable) as (λ b. HasDistinctNames (cond b (variable ∷ filter test env) (filter test env))) [
      | true ↦ (
        all_of_filter (λ other. bytes_eq variable.name other.name ≡ false) test env distinct.0,
        apart_filter test env distinct.1,
      )
      | false ↦ apart_filter test env distinct.1
    ]

-- what all commands together make of a variable
made_value : (files : List File) (target own : List Binding) (name : List ℕ) → HasDistinctNames target
    → value_of (made_of (changed own (changes_of target (lines_of files))) (removed_of target files)
    (set_of files target)) name
    ≡ or_else (if is_set files name then value_of target name else None)
    (if goes target name && names_file files name then None
    else (if list_any (bytes_eq name) (lines_of files) then value_of target name else value_of own name))
made_value files target own name distinct =
    after_settings (set_of files target)
    (fold without (changed own (changes_of target (lines_of files))) (removed_of target files)) name
    (apart_filter (λ variable. is_set files variable.name) target distinct)
    ∙ ap (λ (value : Value). or_else value (value_of
    (fold without (changed own (changes_of target (lines_of files))) (removed_of target files)) name))
    (filtered_value (is_set files) target name)
    ∙ ap (or_else (if is_set files name then value_of target name else None)) (
    removed_value (removed_of target files) (changed own (changes_of target (lines_of files))) name
    ∙ ap (λ (b : Bool). if b then None else value_of (changed own (changes_of target (lines_of files))) name)
    (among (goes target) name (names files))
    ∙ ap (λ (value : Value). if goes target name && names_file files name then None else value)
    (changed_value (lines_of files) target own name))

-- The files make the same of it

neither : (a b : Bool) → (a || b) ≡ false → (a ≡ false) × (b ≡ false)
neither true b h = cc h
neither false b h = (refl, h)

-- no file of this name is the last one
no_file : (files : List File) (name : List ℕ) → names_file files name ≡ false → last_file files name ≡ None
no_file [] name none_has = refl
no_file (file ∷ files) name none_has =
    elim (is_hidden file) as (λ b. is_hidden file ≡ b → last_file (file ∷ files) name ≡ None) [
      | true ↦ λ hidden. rw hidden (no_file files name (ap (λ b. list_any (bytes_eq name)
          (map (λ (f : File). f.name) (cond (not b) (file ∷ filter (λ f. not (is_hidden f)) files)
          (filter (λ f. not (is_hidden f)) files)))) (sym hidden) ∙ none_has))
      | false ↦ λ visible.
          let any : (bytes_eq name file.name || names_file files name) ≡ false =
          ap (λ b. list_any (bytes_eq name)
          (map (λ (f : File). f.name) (cond (not b) (file ∷ filter (λ f. not (is_hidden f)) files)
          (filter (λ f. not (is_hidden f)) files)))) (sym visible) ∙ none_has in
          let parts = neither (bytes_eq name file.name) (names_file files name) any in
          rw (visible, bytes_eq-sym file.name name ∙ parts.0) (no_file files name parts.1)
    ] refl

-- a variable that no file names stays
unnamed : LastFileDecides → (files : List File) (before : List Binding) (name : List ℕ)
    → names_file files name ≡ false → value_of (env_after files before) name ≡ value_of before name
unnamed decides files before name none_has =
    decides files before name ∙ ap (λ (last : Option File). value_by last (value_of before name))
    (no_file files name none_has)

-- whether the shell changes a name
in_lines : (files : List File) (name : List ℕ) → list_any (bytes_eq name) (lines_of files)
    ≡ (is_plain name && (list_any (bytes_eq name) own_names || names_file files name))
in_lines files name =
    ap (list_any (bytes_eq name)) (sym (filter-append is_plain own_names (names files)))
    ∙ among is_plain name (own_names ++ names files)
    ∙ ap (λ (b : Bool). is_plain name && b) (list_any-append (bytes_eq name) own_names (names files))

abbrev Made : List File → (before own : List Binding) → (name : List ℕ) → Type 0
Made files before own name =
    let target = env_after files before in
    or_else (if is_set files name then value_of target name else None)
    (if goes target name && names_file files name then None
    else (if is_plain name && (list_any (bytes_eq name) own_names || names_file files name) then value_of target name
    else value_of own name))
    ≡ value_of target name

-- a name that a shell sets as it is asked to
made_plain : LastFileDecides → (files : List File) (before own : List Binding) (name : List ℕ) → HandsOn before own
    → is_plain name ≡ true → Made files before own name
made_plain decides files before own name hands plain =
    rw plain (elim (list_any (bytes_eq name) own_names) as (λ b. list_any (bytes_eq name) own_names ≡ b
    → (if b || names_file files name then value_of (env_after files before) name else value_of own name)
    ≡ value_of (env_after files before) name) [
      | true ↦ λ _. refl
      | false ↦ λ not_own.
          elim (names_file files name) as (λ b. names_file files name ≡ b
          → (if b then value_of (env_after files before) name else value_of own name)
          ≡ value_of (env_after files before) name) [
            | true ↦ λ _. refl
            | false ↦ λ none_has. hands name plain not_own ∙ sym (unnamed decides files before name none_has)
          ] refl
    ] refl)

-- any other name that a file has
made_file : (files : List File) (before own : List Binding) (name : List ℕ) → is_plain name ≡ false
    → names_file files name ≡ true → Made files before own name
made_file files before own name odd has =
    rw (odd, has) (elim (value_of (env_after files before) name) as (λ value.
    or_else value (if not (is_some value) && true then None else value_of own name) ≡ value) [
      | Some value ↦ refl
      | None ↦ refl
    ])

-- any other name that was there before
made_kept : LastFileDecides → (files : List File) (before own : List Binding) (name : List ℕ) → is_plain name ≡ false
    → names_file files name ≡ false → (is_some (value_of before name) && not (is_left name)) ≡ true
    → Made files before own name
made_kept decides files before own name odd none_has kept =
    elim (is_left name) as (λ b. is_left name ≡ b → (is_some (value_of before name) && not b) ≡ true
    → Made files before own name) [
      | true ↦ λ left there. elim (is_some (value_of before name)) as (λ b. (b && false) ≡ true
          → Made files before own name) [
            | true ↦ λ never. cc never
            | false ↦ λ never. cc never
          ] there
      | false ↦ λ stays there. rw (odd, none_has, stays) (
          elim (value_of before name) as (λ value. (is_some value && true) ≡ true
          → value_of (env_after files before) name
          ≡ value → or_else (value_of (env_after files before) name)
          (if not (is_some (value_of (env_after files before) name)) && false then None else value_of own name)
          ≡ value_of (env_after files before) name) [
            | Some value ↦ λ _ is. rw is refl
            | None ↦ λ never _. cc never
          ] there (unnamed decides files before name none_has))
    ] refl kept

makes_it : LastFileDecides → (files : List File) (before own : List Binding) (name : List ℕ) → HandsOn before own
    → is_settled files before name ≡ true → Made files before own name
makes_it decides files before own name hands settled =
    elim (is_plain name) as (λ b. is_plain name ≡ b
    → (b || (names_file files name || (is_some (value_of before name) && not (is_left name)))) ≡ true
    → Made files before own name) [
      | true ↦ λ plain _. made_plain decides files before own name hands plain
      | false ↦ λ odd else_settled.
          elim (names_file files name) as (λ b. names_file files name ≡ b
          → (b || (is_some (value_of before name) && not (is_left name))) ≡ true → Made files before own name) [
            | true ↦ λ has _. made_file files before own name odd has
            | false ↦ λ none_has kept. made_kept decides files before own name odd none_has kept
          ] refl else_settled
    ] refl settled

-- The text has these commands

line_texts : (target : List Binding) (files : List File)
    → flat_map (file_line target) files ≡ flat_map (line_of target) (filter is_plain (names files))
line_texts target [] = refl
line_texts target (file ∷ files) =
    elim (is_hidden file) as (λ b. is_hidden file ≡ b → flat_map (file_line target) (file ∷ files)
    ≡ flat_map (line_of target) (filter is_plain (names (file ∷ files)))) [
      | true ↦ λ hidden. rw hidden (line_texts target files)
      | false ↦ λ visible.
          elim (is_plain file.name) as (λ b. is_plain file.name ≡ b → flat_map (file_line target) (file ∷ files)
          ≡ flat_map (line_of target) (filter is_plain (names (file ∷ files)))) [
            | true ↦ λ plain. rw (visible, plain)
                (ap (λ text. line_of target file.name ++ text) (line_texts target files))
            | false ↦ λ odd. rw (visible, odd) (line_texts target files)
          ] refl
    ] refl

removal_texts : (target : List Binding) (files : List File)
    → flat_map (removed_text target) files ≡ flat_map word_text (flat_map removal (removed_of target files))
removal_texts target [] = refl
removal_texts target (file ∷ files) =
    elim (is_hidden file) as (λ b. is_hidden file ≡ b → flat_map (removed_text target) (file ∷ files)
    ≡ flat_map word_text (flat_map removal (removed_of target (file ∷ files)))) [
      | true ↦ λ hidden. rw hidden (removal_texts target files)
      | false ↦ λ visible.
          elim (goes target file.name) as (λ b. goes target file.name ≡ b →
          flat_map (removed_text target) (file ∷ files)
          ≡ flat_map word_text (flat_map removal (removed_of target (file ∷ files)))) [
            | true ↦ λ gone. rw (visible, gone) (
                append_assoc (word_text (codes "-u")) (word_text file.name) (flat_map (removed_text target) files)
                ∙ ap (λ text. word_text (codes "-u") ++ (word_text file.name ++ text)) (removal_texts target files))
            | false ↦ λ stays. rw (visible, stays) (removal_texts target files)
          ] refl
    ] refl

abbrev assigned : Binding → List ℕ
assigned variable = assignment variable.name variable.value

set_texts : (files : List File) (target : List Binding)
    → flat_map (set_text files) target ≡ flat_map word_text (map assigned (set_of files target))
set_texts files [] = refl
set_texts files (variable ∷ target) =
    elim (is_set files variable.name) as (λ b. is_set files variable.name ≡ b →
    flat_map (set_text files) (variable ∷ target)
    ≡ flat_map word_text (map assigned (set_of files (variable ∷ target)))) [
      | true ↦ λ is. rw is (ap (λ text. word_text (assigned variable) ++ text) (set_texts files target))
      | false ↦ λ is_not. rw is_not (set_texts files target)
    ] refl

-- lines of names that a shell sets, and what follows
read_lines : (target : List Binding) (ns : List (List ℕ)) (rest : List ℕ) (commands : List (List (List ℕ)))
    → AllByRecursion (λ n. is_identifier n ≡ true) ns
    → commands_from (Between []) rest ≡ Some commands
    → commands_from (Between []) (flat_map (line_of target) ns ++ rest)
    ≡ Some (map command_of (changes_of target ns) ++ commands)
read_lines target [] rest commands all last = last
read_lines target (name ∷ ns) rest commands all last =
    ap (commands_from (Between [])) (append_assoc (line_of target name) (flat_map (line_of target) ns) rest)
    ∙ read_line name (value_of target name) (flat_map (line_of target) ns ++ rest) all.0
    ∙ ap (option_map (λ more. command_of (change target name) ∷ more))
    (read_lines target ns rest commands all.1 last)

-- the last command, by `env`
read_by_env : (removed : List (List ℕ)) (set : List Binding) (program : List (List ℕ))
    → commands_from (Between []) (env_text (flat_map word_text (flat_map removal removed))
    (flat_map word_text (map assigned set)) ++ flat_map word_text program)
    ≡ Some (((codes "exec" ∷ codes "/usr/bin/env" ∷ env_words removed set) ++ program) ∷ [])
read_by_env removed set program =
    ap (λ text. commands_from (Between (codes "exec" ∷ codes "/usr/bin/env" ∷ [])) (text ++ flat_map word_text program))
    (sym (flat_map-append word_text (flat_map removal removed) (codes "--" ∷ map assigned set)))
    ∙ ap (commands_from (Between (codes "exec" ∷ codes "/usr/bin/env" ∷ []))) (
    sym (flat_map-append word_text (env_words removed set) program)
    ∙ sym (append-nil (flat_map word_text (env_words removed set ++ program))))
    ∙ read_words (env_words removed set ++ program) (codes "exec" ∷ codes "/usr/bin/env" ∷ []) []

not_empty : (byte : ℕ) (bytes : List ℕ) → (length (byte ∷ bytes) == 0) ≡ false
not_empty byte bytes = ne_eqb (length (byte ∷ bytes)) 0 (λ is. cc is)

-- a text with words for `env`
read_start_by : (removals settings after : List ℕ) (commands : List (List (List ℕ)))
    → are_none removals settings ≡ false
    → commands_from (Between []) (env_text removals settings ++ after) ≡ Some commands
    → commands_from (Between []) (start_text removals settings ++ after) ≡ Some commands
read_start_by removals settings after commands some reads =
    ap (λ (b : Bool). commands_from (Between [])
    ((if b then codes "exec " else env_text removals settings) ++ after)) some ∙ reads

read_start : (removed : List (List ℕ)) (set : List Binding) (program : List (List ℕ))
    → commands_from (Between []) (start_text (flat_map word_text (flat_map removal removed))
    (flat_map word_text (map assigned set)) ++ flat_map word_text program)
    ≡ Some ((start_of removed set ++ program) ∷ [])
read_start [] [] program =
    ap (commands_from (Between (codes "exec" ∷ []))) (sym (append-nil (flat_map word_text program)))
    ∙ read_words program (codes "exec" ∷ []) []
read_start (name ∷ removed) set program =
    let rest = 45 ∷ 117 ∷ 39 ∷ 32 ∷ word_text name ++ flat_map word_text (flat_map removal removed) in
    let settings = flat_map word_text (map assigned set) in
    read_start_by (39 ∷ rest) settings (flat_map word_text program) ((start_of (name ∷ removed) set ++ program) ∷ [])
    (ap (λ (b : Bool). b && length settings == 0) (not_empty 39 rest))
    (read_by_env (name ∷ removed) set program)
read_start [] (variable ∷ set) program =
    let settings = flat_map word_text (map assigned (variable ∷ set)) in
    read_start_by [] settings (flat_map word_text program) ((start_of [] (variable ∷ set) ++ program) ∷ [])
    (not_empty 39 ((escaped (assigned variable) ++ 39 ∷ 32 ∷ []) ++ flat_map word_text (map assigned set)))
    (read_by_env [] (variable ∷ set) program)

plain_is_name : (name : List ℕ) → is_plain name ≡ true → is_identifier name ≡ true
plain_is_name name plain =
    elim (is_identifier name) as (λ b. (b && (not (is_reserved name) && not (is_left name))) ≡ true
    → b ≡ true) [
      | true ↦ λ _. refl
      | false ↦ λ never. never
    ] plain

-- for each name that passes a test, what follows from the test is true
all_filtered : (P : List ℕ → Type 0) → ((n : List ℕ) → is_plain n ≡ true → P n) → (ns : List (List ℕ))
    → AllByRecursion P (filter is_plain ns)
all_filtered P so [] = tt
all_filtered P so (n ∷ ns) =
    elim (is_plain n) as (λ b. is_plain n ≡ b
    → AllByRecursion P (cond b (n ∷ filter is_plain ns) (filter is_plain ns))) [
      | true ↦ λ plain. (so n plain, all_filtered P so ns)
      | false ↦ λ _. all_filtered P so ns
    ] refl

all_changes : (target : List Binding) (ns : List (List ℕ)) → AllByRecursion (λ n. is_plain n ≡ true) ns
    → All (λ (c : Change). is_plain c.name ≡ true) (changes_of target ns)
all_changes target [] all = All-nil (λ (c : Change). is_plain c.name ≡ true)
all_changes target (n ∷ ns) all =
    All-cons (λ (c : Change). is_plain c.name ≡ true) (change target n) (changes_of target ns) all.0
    (all_changes target ns all.1)

all_unseen : (files : List File) (target : List Binding)
    → All (λ (variable : Binding). is_plain variable.name ≡ false) (set_of files target)
all_unseen files [] = All-nil (λ (variable : Binding). is_plain variable.name ≡ false)
all_unseen files (variable ∷ target) =
    elim (is_plain variable.name) as (λ b. is_plain variable.name ≡ b →
    All (λ (variable : Binding). is_plain variable.name ≡ false) (set_of files (variable ∷ target))) [
      | true ↦ λ plain. rw plain (all_unseen files target)
      | false ↦ λ odd.
          elim (names_file files variable.name || not (is_left variable.name)) as (λ b.
          (names_file files variable.name || not (is_left variable.name)) ≡ b →
          All (λ (variable : Binding). is_plain variable.name ≡ false) (set_of files (variable ∷ target))) [
            | true ↦ λ is. rw (odd, is) (
                All-cons (λ (variable : Binding). is_plain variable.name ≡ false) variable (set_of files target) odd
                (all_unseen files target))
            | false ↦ λ is_not. rw (odd, is_not) (all_unseen files target)
          ] refl
    ] refl

all_lines : (P : List ℕ → Type 0) → ((n : List ℕ) → is_plain n ≡ true → P n) → (files : List File)
    → AllByRecursion P (lines_of files)
all_lines P so files =
    subst (AllByRecursion P) (filter-append is_plain own_names (names files))
    (all_filtered P so (own_names ++ names files))

reads_it : (target : List Binding) (files : List File) (program : List (List ℕ))
    → shell_commands (script_text target files program)
    ≡ Some (map command_of (changes_of target (lines_of files))
    ++ (start_of (removed_of target files) (set_of files target) ++ program) ∷ [])
reads_it target files program =
    ap shell_commands (
    ap (λ text. (flat_map (line_of target) own_names ++ text)
    ++ (start_text (flat_map (removed_text target) files) (flat_map (set_text files) target)
    ++ flat_map word_text program)) (line_texts target files)
    ∙ ap (λ text. text ++ (start_text (flat_map (removed_text target) files) (flat_map (set_text files) target)
    ++ flat_map word_text program))
    (sym (flat_map-append (line_of target) own_names (filter is_plain (names files))))
    ∙ ap (λ removals. flat_map (line_of target) (lines_of files)
    ++ (start_text removals (flat_map (set_text files) target) ++ flat_map word_text program))
    (removal_texts target files)
    ∙ ap (λ settings. flat_map (line_of target) (lines_of files)
    ++ (start_text (flat_map word_text (flat_map removal (removed_of target files))) settings
    ++ flat_map word_text program))
    (set_texts files target))
    ∙ read_lines target (lines_of files)
    (start_text (flat_map word_text (flat_map removal (removed_of target files)))
    (flat_map word_text (map assigned (set_of files target))) ++ flat_map word_text program)
    ((start_of (removed_of target files) (set_of files target) ++ program) ∷ [])
    (all_lines (λ n. is_identifier n ≡ true) plain_is_name files)
    (read_start (removed_of target files) (set_of files target) program)

-- the text is written in these parts
pub in_order : (target variables : List Binding) (files : List File) (program : List (List ℕ))
    (removals settings one two three : List ℕ) → removals ≡ flat_map (removed_text target) files
    → settings ≡ flat_map (set_text files) variables → variables ≡ target → one ≡ lines_text target files
    → two ≡ one ++ start_text removals settings → three ≡ two ++ flat_map word_text program
    → three ≡ script_text target files program
in_order target variables files program removals settings one two three removed set same_ones lines start words =
    let lines_are = lines_text target files in
    let words_are = flat_map word_text program in
    words
    ∙ ap (λ text. text ++ words_are) (start ∙ ap (λ text. text ++ start_text removals settings) lines)
    ∙ append_assoc lines_are (start_text removals settings) words_are
    ∙ ap (λ text. lines_are ++ (start_text text settings ++ words_are)) removed
    ∙ ap (λ text. lines_are ++ (start_text (flat_map (removed_text target) files) text ++ words_are))
    (set ∙ ap (flat_map (set_text files)) same_ones)

-- the text of these commands
reads_as_script : LastFileDecides → (files : List File) (before target : List Binding) (program : List (List ℕ))
    (text : List ℕ)
    → target ≡ env_after files before → HasDistinctNames target → text ≡ script_text target files program
    → ReadsAsScriptOf files before program text
reads_as_script decides files before target program text is distinct written = record {
  changes = changes_of target (lines_of files);
  removed = removed_of target files;
  set = set_of files target;
  reads = ap shell_commands written ∙ reads_it target files program;
  plain = all_changes target (lines_of files) (all_lines (λ n. is_plain n ≡ true) (λ n plain. plain) files);
  unseen = all_unseen files target;
  makes = λ own name hands settled.
      made_value files target own name distinct
      ∙ ap (λ (b : Bool). or_else (if is_set files name then value_of target name else None)
      (if goes target name && names_file files name then None
      else (if b then value_of target name else value_of own name))) (in_lines files name)
      ∙ subst (λ (t : List Binding). or_else (if is_set files name then value_of t name else None)
      (if goes t name && names_file files name then None
      else (if is_plain name && (list_any (bytes_eq name) own_names || names_file files name) then value_of t name
      else value_of own name)) ≡ value_of (env_after files before) name) (sym is)
      (makes_it decides files before own name hands settled);
}

-- the same, if there was memory for the text
pub if_written : {T E : Type 0} (r : Result T E) (items : T → List ℕ) → LastFileDecides
    → (files : List File) (target : List Binding) (program : List (List ℕ)) → HasDistinctNames target
    → IfOk r (λ text. items text ≡ script_text target files program)
    → (before : List Binding) → target ≡ env_after files before
    → IfOk r (λ text. ReadsAsScriptOf files before program (items text))
if_written (Ok text) items decides files target program distinct written before is =
    reads_as_script decides files before target program (items text) is distinct written
if_written (Err error) items decides files target program distinct written before is = tt
