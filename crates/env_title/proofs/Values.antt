-- The value of a variable after files.
use Rattle.std.proofs.Common.{◌≡◌, ℕ, true, false, cond, List, [], ◌∷◌, ◌++◌, refl, sym, ◌∙◌, ap, subst}
use Rattle.std.specs.Prelude.{Option, Some, None, option_map, not, ◌&&◌, filter, find, bytes_eq}
use Rattle.std.specs.List.{last_or}
use Rattle.env_title.specs.Env.{Binding, HasDistinctNames, binding, is_named, value_of, without, put}
use Rattle.env_title.specs.Files.{File, is_hidden, is_empty, file_value, env_after, after_file}
use Rattle.env_title.specs.Laws.{last_file, value_by}
use Rattle.env_title.proofs.Distinct.{distinct-without, distinct-put}
use Rattle.env_title.proofs.Steps.{same, env_after-nothing, env_after-hidden, env_after-visible}

none_without : (env : List Binding) (name : List ℕ) → value_of (without env name) name ≡ None
none_without [] name = refl
none_without (variable ∷ env) name =
    elim (bytes_eq variable.name name) as (λ b. bytes_eq variable.name name ≡ b →
    value_of (cond (not b) (variable ∷ without env name) (without env name)) name ≡ None) [
      | true ↦ λ _. none_without env name
      | false ↦ λ other. rw other (none_without env name)
    ] refl

other_without : (env : List Binding) (gone name : List ℕ) → bytes_eq gone name ≡ false
    → value_of (without env gone) name ≡ value_of env name
other_without [] gone name apart = refl
other_without (variable ∷ env) gone name apart =
    elim (bytes_eq variable.name gone) as (λ b. bytes_eq variable.name gone ≡ b →
    value_of (cond (not b) (variable ∷ without env gone) (without env gone)) name ≡ value_of (variable ∷ env) name) [
      | true ↦ λ is.
          let other : bytes_eq variable.name name ≡ false = ap (λ n. bytes_eq n name) (same variable.name gone is)
          ∙ apart in
          rw other (other_without env gone name apart)
      | false ↦ λ _.
          elim (bytes_eq variable.name name) as (λ b.
          option_map (λ (v : Binding). v.value) (cond b (Some variable) (find (is_named name) (without env gone)))
          ≡ option_map (λ (v : Binding). v.value) (cond b (Some variable) (find (is_named name) env))) [
            | true ↦ refl
            | false ↦ other_without env gone name apart
          ]
    ] refl

found_last : (env : List Binding) (last : Binding) (name : List ℕ) → value_of env name ≡ None
    → bytes_eq last.name name ≡ true
    → value_of (env ++ last ∷ []) name ≡ Some last.value
found_last [] last name none is = rw is refl
found_last (variable ∷ env) last name none is =
    elim (bytes_eq variable.name name) as (λ b. bytes_eq variable.name name ≡ b
    → value_of (variable ∷ env ++ last ∷ []) name ≡ Some last.value) [
      | true ↦ λ found. let never : Some variable.value ≡ None = rw found at none in cc
      | false ↦ λ other. let later : value_of env name ≡ None = rw other at none in
          rw other (found_last env last name later is)
    ] refl

not_last : (env : List Binding) (last : Binding) (name : List ℕ) → bytes_eq last.name name ≡ false
    → value_of (env ++ last ∷ []) name ≡ value_of env name
not_last [] last name other = rw other refl
not_last (variable ∷ env) last name other =
    elim (bytes_eq variable.name name) as (λ b.
    option_map (λ (v : Binding). v.value) (cond b (Some variable) (find (is_named name) (env ++ last ∷ [])))
    ≡ option_map (λ (v : Binding). v.value) (cond b (Some variable) (find (is_named name) env))) [
      | true ↦ refl
      | false ↦ not_last env last name other
    ]

-- a file decides the value of its own name
own_value : (env : List Binding) (file : File) (name : List ℕ) → bytes_eq file.name name ≡ true
    → value_of (after_file env file) name ≡ value_by (Some file) (value_of env name)
own_value env file name is =
    let called = same file.name name is in
    let gone : value_of (without env file.name) name ≡ None =
    ap (λ n. value_of (without env n) name) called ∙ none_without env name in
    elim (is_empty file) as (λ b.
    value_of (cond b (without env file.name) (put env file.name (file_value file.bytes))) name
    ≡ cond b None (Some (file_value file.bytes))) [
      | true ↦ gone
      | false ↦ found_last (without env file.name) (binding file.name (file_value file.bytes)) name gone is
    ]

-- a file decides the value of no other name
other_value : (env : List Binding) (file : File) (name : List ℕ) → bytes_eq file.name name ≡ false
    → value_of (after_file env file) name ≡ value_of env name
other_value env file name other =
    elim (is_empty file) as (λ b.
    value_of (cond b (without env file.name) (put env file.name (file_value file.bytes))) name ≡ value_of env name) [
      | true ↦ other_without env file.name name other
      | false ↦ not_last (without env file.name) (binding file.name (file_value file.bytes)) name other
          ∙ other_without env file.name name other
    ]

-- If there is a file, the value before it makes no difference.
settled : (files : List File) (file : File) (one two : Option (List ℕ))
    → value_by (last_or (Some file) files) one ≡ value_by (last_or (Some file) files) two
settled [] file one two = refl
settled (x ∷ files) file one two = settled files x one two

later_decides : (files : List File) (file : File) (before : Option (List ℕ))
    → value_by (last_or None files) (value_by (Some file) before) ≡ value_by (last_or (Some file) files) before
later_decides [] file before = refl
later_decides (x ∷ files) file before = settled files x (value_by (Some file) before) before

pub decides : (files : List File) (env : List Binding) (name : List ℕ)
    → value_of (env_after files env) name ≡ value_by (last_file files name) (value_of env name)
decides [] env name = ap (λ e. value_of e name) (env_after-nothing env)
decides (file ∷ files) env name =
    elim (is_hidden file) as (λ b. is_hidden file ≡ b →
    value_of (env_after (file ∷ files) env) name ≡ value_by (last_file (file ∷ files) name) (value_of env name)) [
      | true ↦ λ hidden.
          ap (λ e. value_of e name) (env_after-hidden file files env hidden) ∙ rw hidden (decides files env name)
      | false ↦ λ visible.
          elim (bytes_eq file.name name) as (λ b. bytes_eq file.name name ≡ b →
          value_of (env_after (file ∷ files) env) name ≡ value_by (last_file (file ∷ files) name) (value_of env name)) [
            | true ↦ λ is.
                ap (λ e. value_of e name) (env_after-visible file files env visible)
                ∙ decides files (after_file env file) name
                ∙ ap (value_by (last_file files name)) (own_value env file name is)
                ∙ rw (visible, is) (later_decides (filter (λ f. not (is_hidden f) && bytes_eq f.name name) files) file
                (value_of env name))
            | false ↦ λ other.
                ap (λ e. value_of e name) (env_after-visible file files env visible)
                ∙ decides files (after_file env file) name
                ∙ rw (visible, other) (ap (value_by (last_file files name)) (other_value env file name other))
          ] refl
    ] refl

pub follows : (files more : List File) (env : List Binding) → env_after (files ++ more) env
    ≡ env_after more (env_after files env)
follows [] more env = ap (env_after more) (sym (env_after-nothing env))
follows (file ∷ files) more env =
    elim (is_hidden file) as (λ b. is_hidden file ≡ b → env_after (file ∷ (files ++ more)) env
    ≡ env_after more (env_after (file ∷ files) env)) [
      | true ↦ λ hidden.
          env_after-hidden file (files ++ more) env hidden ∙ follows files more env
          ∙ ap (env_after more) (sym (env_after-hidden file files env hidden))
      | false ↦ λ visible.
          env_after-visible file (files ++ more) env visible ∙ follows files more (after_file env file)
          ∙ ap (env_after more) (sym (env_after-visible file files env visible))
    ] refl

distinct-file : (env : List Binding) (file : File) → HasDistinctNames env → HasDistinctNames (after_file env file)
distinct-file env file distinct =
    elim (is_empty file) as (λ b.
    HasDistinctNames (cond b (without env file.name) (put env file.name (file_value file.bytes)))) [
      | true ↦ distinct-without env file.name distinct
      | false ↦ distinct-put env file.name (file_value file.bytes) distinct
    ]

pub stay_distinct : (files : List File) (env : List Binding) → HasDistinctNames env
    → HasDistinctNames (env_after files env)
stay_distinct [] env distinct = subst HasDistinctNames (sym (env_after-nothing env)) distinct
stay_distinct (file ∷ files) env distinct =
    elim (is_hidden file) as (λ b. is_hidden file ≡ b → HasDistinctNames (env_after (file ∷ files) env)) [
      | true ↦ λ hidden. subst HasDistinctNames (sym (env_after-hidden file files env hidden))
          (stay_distinct files env distinct)
      | false ↦ λ visible.
          subst HasDistinctNames (sym (env_after-visible file files env visible))
          (stay_distinct files (after_file env file) (distinct-file env file distinct))
    ] refl
