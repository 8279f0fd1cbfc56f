-- The environment after files, file by file.
use Rattle.std.proofs.Common.{◌≡◌, ℕ, suc, ◌+◌, ◌<◌, length, get_or, drop, drop-cons, arith, true, false, cond, ◌||◌}
use Rattle.std.proofs.Common.{List, [], ◌∷◌, ◌++◌, refl, sym, ◌∙◌, ap, append_assoc}
use Rattle.std.specs.Prelude.{not, filter, map, bytes_eq}
use Rattle.std.proofs.lemmas.List.{append-nil}
use Rattle.std.proofs.lemmas.List.Elements.{filter-append}
use Rattle.std.proofs.lemmas.Slice.Eq.{bytes_eq-Decides}
use Rattle.env_title.specs.Env.{Binding, binding, without, put}
use Rattle.env_title.specs.Files.{File, is_hidden, is_empty, file_value, has_file, last_of_each_name, env_after}
use Rattle.env_title.specs.Files.{after_file}

-- the file at a place, and those after it
pub file_and_rest : (files : List File) (i : ℕ) (file : File) → i < length files → file ≡ get_or files i file
    → drop i files ≡ file ∷ drop (i + 1) files
file_and_rest files i file within is =
    let next : suc i ≡ i + 1 = omega arith in
    drop-cons files i file within ∙ ap (λ f. f ∷ drop (suc i) files) (sym is) ∙ ap (λ k. file ∷ drop k files) next

-- two names that pass the test are equal
pub same : (xs ys : List ℕ) → bytes_eq xs ys ≡ true → xs ≡ ys
same xs ys e = (bytes_eq-Decides xs ys).0 e

-- the last files have the names that the files have
has_last : (files : List File) (name : List ℕ) → has_file (last_of_each_name files) name ≡ has_file files name
has_last [] name = refl
has_last (file ∷ later) name =
    elim (has_file later file.name) as (λ b. has_file later file.name ≡ b →
    has_file (cond b (last_of_each_name later) (file ∷ last_of_each_name later)) name
    ≡ (bytes_eq name file.name || has_file later name)) [
      | true ↦ λ again. elim (bytes_eq name file.name) as (λ b. bytes_eq name file.name ≡ b →
          has_file (last_of_each_name later) name ≡ (b || has_file later name)) [
            | true ↦ λ is. has_last later name ∙ ap (has_file later) (same name file.name is) ∙ again
            | false ↦ λ _. has_last later name
          ] refl
      | false ↦ λ _. ap (λ b. bytes_eq name file.name || b) (has_last later name)
    ] refl

-- the variables that the counting files leave
abbrev left_by : List File → List Binding → List Binding
left_by counted env = filter (λ variable. not (has_file counted variable.name)) env

-- a variable that a later file removes need not be removed before
left_by-without : (counted : List File) (env : List Binding) (name : List ℕ) → has_file counted name ≡ true
    → left_by counted (without env name) ≡ left_by counted env
left_by-without counted [] name again = refl
left_by-without counted (variable ∷ env) name again =
    elim (bytes_eq variable.name name) as (λ b. bytes_eq variable.name name ≡ b →
    left_by counted (cond (not b) (variable ∷ without env name) (without env name))
    ≡ left_by counted (variable ∷ env)) [
      | true ↦ λ is.
          let taken : has_file counted variable.name ≡ true = ap (has_file counted) (same variable.name name is)
          ∙ again in
          rw taken (left_by-without counted env name again)
      | false ↦ λ _.
          ap (λ rest. cond (not (has_file counted variable.name)) (variable ∷ rest) rest)
          (left_by-without counted env name again)
    ] refl

-- otherwise its own file removes it
left_by-cons : (file : File) (counted : List File) (env : List Binding)
    → left_by counted (without env file.name) ≡ left_by (file ∷ counted) env
left_by-cons file counted [] = refl
left_by-cons file counted (variable ∷ env) =
    elim (bytes_eq variable.name file.name) as (λ b.
    left_by counted (cond (not b) (variable ∷ without env file.name) (without env file.name))
    ≡ cond (not (b || has_file counted variable.name)) (variable ∷ left_by (file ∷ counted) env)
    (left_by (file ∷ counted) env)) [
      | true ↦ left_by-cons file counted env
      | false ↦ ap (λ rest. cond (not (has_file counted variable.name)) (variable ∷ rest) rest)
          (left_by-cons file counted env)
    ]

-- what the files that count set
abbrev sets : List File → List Binding
sets counted = map (λ file. binding file.name (file_value file.bytes)) (filter (λ file. not (is_empty file)) counted)

-- A file before others of its name does nothing.
step_again : (counted : List File) (env : List Binding) (file : File) → has_file counted file.name ≡ true
    → left_by counted (after_file env file) ≡ left_by counted env
step_again counted env file again =
    elim (is_empty file) as (λ b.
    left_by counted (cond b (without env file.name) (put env file.name (file_value file.bytes)))
    ≡ left_by counted env) [
      | true ↦ left_by-without counted env file.name again
      | false ↦
          filter-append (λ variable. not (has_file counted variable.name)) (without env file.name)
          (binding file.name (file_value file.bytes) ∷ [])
          ∙ rw again (append-nil (left_by counted (without env file.name))
          ∙ left_by-without counted env file.name again)
    ]

-- A file that counts sets its variable, which comes before those of the later files.
step_last : (counted : List File) (env : List Binding) (file : File) → has_file counted file.name ≡ false
    → left_by counted (after_file env file) ++ sets counted ≡ left_by (file ∷ counted) env ++ sets (file ∷ counted)
step_last counted env file last =
    elim (is_empty file) as (λ b.
    left_by counted (cond b (without env file.name) (put env file.name (file_value file.bytes))) ++ sets counted
    ≡ left_by (file ∷ counted) env ++ map (λ f. binding f.name (file_value f.bytes))
    (cond (not b) (file ∷ filter (λ f. not (is_empty f)) counted) (filter (λ f. not (is_empty f)) counted))) [
      | true ↦ ap (λ front. front ++ sets counted) (left_by-cons file counted env)
      | false ↦
          ap (λ front. front ++ sets counted)
          (filter-append (λ variable. not (has_file counted variable.name)) (without env file.name)
          (binding file.name (file_value file.bytes) ∷ []))
          ∙ rw last
          (append_assoc (left_by counted (without env file.name)) (binding file.name (file_value file.bytes) ∷ [])
          (sets counted)
          ∙ ap (λ front. front ++ binding file.name (file_value file.bytes) ∷ sets counted)
          (left_by-cons file counted env))
    ]

pub env_after-hidden : (file : File) (files : List File) (env : List Binding) → is_hidden file ≡ true
    → env_after (file ∷ files) env ≡ env_after files env
env_after-hidden file files env hidden = rw hidden refl

pub env_after-visible : (file : File) (files : List File) (env : List Binding) → is_hidden file ≡ false
    → env_after (file ∷ files) env ≡ env_after files (after_file env file)
env_after-visible file files env visible =
    let others = filter (λ f. not (is_hidden f)) files in
    let counted = last_of_each_name others in
    rw visible
    (elim (has_file others file.name) as (λ b. has_file others file.name ≡ b →
    left_by (cond b counted (file ∷ counted)) env ++ sets (cond b counted (file ∷ counted))
    ≡ left_by counted (after_file env file) ++ sets counted) [
      | true ↦ λ again. ap (λ front. front ++ sets counted)
          (sym (step_again counted env file (has_last others file.name ∙ again)))
      | false ↦ λ last. sym (step_last counted env file (has_last others file.name ∙ last))
    ] refl)

left_by-nothing : (env : List Binding) → left_by [] env ≡ env
left_by-nothing [] = refl
left_by-nothing (variable ∷ env) = ap (λ rest. variable ∷ rest) (left_by-nothing env)

pub env_after-nothing : (env : List Binding) → env_after [] env ≡ env
env_after-nothing env = append-nil (left_by [] env) ∙ left_by-nothing env
