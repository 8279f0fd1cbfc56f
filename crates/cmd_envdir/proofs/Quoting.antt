-- Lines and words in single quotes are read as they are.
use Rattle.std.proofs.Common.{◌≡◌, ℕ, ◌==◌, true, false, List, [], ◌∷◌, ◌++◌, refl, sym, ◌∙◌, ap, cond}
use Rattle.std.specs.Prelude.{Bool, ◌&&◌, not, Option, Some, None, option_map, flat_map, codes, length}
use Rattle.std.specs.Char.{is_ascii_digit}
use Rattle.std.specs.List.{list_all}
use Rattle.std.proofs.lemmas.List.{append_assoc, append-nil}
use Rattle.std.proofs.lemmas.Bool.Decides.{Decides-eqb}
use Rattle.cmd_envdir.specs.Names.{is_identifier, is_letter_or_digit}
use Rattle.cmd_envdir.specs.Shell.{commands_from}
use Rattle.cmd_envdir.specs.Shell.Position.{Between, Inside, Quoted}
use Rattle.cmd_envdir.specs.Script.{command_by}
use Rattle.cmd_envdir.specs.Quoting.{escaped, line_by, word_text}

-- the commands of a shell
abbrev pub Commands : Type 0
Commands = Option (List (List (List ℕ)))

-- two facts of one test
and_parts : (a b : Bool) → (a && b) ≡ true → (a ≡ true) × (b ≡ true)
and_parts true b h = (refl, h)
and_parts false b h = cc h

-- bytes outside of quotes
read_bare : (bytes : List ℕ) (words : List (List ℕ)) (word rest : List ℕ) → list_all is_letter_or_digit bytes ≡ true
    → commands_from (Inside words word) (bytes ++ rest) ≡ commands_from (Inside words (word ++ bytes)) rest
read_bare [] words word rest all = ap (λ w. commands_from (Inside words w) rest) (sym (append-nil word))
read_bare (byte ∷ bytes) words word rest all =
    let parts = and_parts (is_letter_or_digit byte) (list_all is_letter_or_digit bytes) all in
    rw parts.0 (
    read_bare bytes words (word ++ byte ∷ []) rest parts.1
    ∙ ap (λ w. commands_from (Inside words w) rest) (append_assoc word (byte ∷ []) bytes))

-- a name is a word
read_name : (name : List ℕ) (words : List (List ℕ)) (rest : List ℕ) → is_identifier name ≡ true
    → commands_from (Between words) (name ++ rest) ≡ commands_from (Inside words name) rest
read_name [] words rest is = cc is
read_name (first ∷ name) words rest is =
    let named = and_parts (not (length (first ∷ name) == 0)) (not (is_ascii_digit first)
    && (is_letter_or_digit first && list_all is_letter_or_digit name)) is in
    let bare = and_parts (not (is_ascii_digit first)) (is_letter_or_digit first && list_all is_letter_or_digit name)
    named.1 in
    let parts = and_parts (is_letter_or_digit first) (list_all is_letter_or_digit name) bare.1 in
    rw parts.0 (read_bare name words (first ∷ []) rest parts.1)

-- what is quoted is read as it is
read_quoted : (bytes : List ℕ) (words : List (List ℕ)) (word rest : List ℕ)
    → commands_from (Quoted words word) (escaped bytes ++ 39 ∷ rest)
    ≡ commands_from (Inside words (word ++ bytes)) rest
read_quoted [] words word rest = ap (λ w. commands_from (Inside words w) rest) (sym (append-nil word))
read_quoted (byte ∷ bytes) words word rest =
    elim (byte == 39) as (λ b. byte == 39 ≡ b → commands_from (Quoted words word) (escaped (byte ∷ bytes) ++ 39 ∷ rest)
    ≡ commands_from (Inside words (word ++ byte ∷ bytes)) rest) [
      | true ↦ λ is. rw is (
          read_quoted bytes words (word ++ 39 ∷ []) rest
          ∙ ap (λ w. commands_from (Inside words w) rest) (append_assoc word (39 ∷ []) bytes)
          ∙ ap (λ b. commands_from (Inside words (word ++ b ∷ bytes)) rest) (sym ((Decides-eqb byte 39).0 is)))
      | false ↦ λ other. rw other (
          ap (λ b. cond b (commands_from (Inside words word) (escaped bytes ++ 39 ∷ rest))
          (commands_from (Quoted words (word ++ byte ∷ [])) (escaped bytes ++ 39 ∷ rest))) other
          ∙ read_quoted bytes words (word ++ byte ∷ []) rest
          ∙ ap (λ w. commands_from (Inside words w) rest) (append_assoc word (byte ∷ []) bytes))
    ] refl

-- quoted words are read one by one
pub read_words : (more : List (List ℕ)) (words : List (List ℕ)) (rest : List ℕ)
    → commands_from (Between words) (flat_map word_text more ++ rest) ≡ commands_from (Between (words ++ more)) rest
read_words [] words rest = ap (λ w. commands_from (Between w) rest) (sym (append-nil words))
read_words (word ∷ more) words rest =
    ap (commands_from (Between words)) (append_assoc (word_text word) (flat_map word_text more) rest)
    ∙ ap (commands_from (Quoted words []))
    (append_assoc (escaped word) (39 ∷ 32 ∷ []) (flat_map word_text more ++ rest))
    ∙ read_quoted word words [] (32 ∷ flat_map word_text more ++ rest)
    ∙ read_words more (words ++ word ∷ []) rest
    ∙ ap (λ w. commands_from (Between w) rest) (append_assoc words (word ∷ []) more)

-- a line is a command
pub read_line : (name : List ℕ) (value : Option (List ℕ)) (rest : List ℕ) → is_identifier name ≡ true
    → commands_from (Between []) (line_by name value ++ rest)
    ≡ option_map (λ commands. command_by name value ∷ commands) (commands_from (Between []) rest)
read_line name None rest is =
    ap (commands_from (Between (codes "unset" ∷ []))) (append_assoc name (10 ∷ []) rest)
    ∙ read_name name (codes "unset" ∷ []) (10 ∷ rest) is
read_line name (Some value) rest is =
    ap (commands_from (Between (codes "export" ∷ []))) (
    append_assoc name (61 ∷ 39 ∷ escaped value ++ 39 ∷ 10 ∷ []) rest
    ∙ ap (λ text. name ++ 61 ∷ 39 ∷ text) (append_assoc (escaped value) (39 ∷ 10 ∷ []) rest))
    ∙ read_name name (codes "export" ∷ []) (61 ∷ 39 ∷ escaped value ++ 39 ∷ 10 ∷ rest) is
    ∙ read_quoted value (codes "export" ∷ []) (name ++ 61 ∷ []) (10 ∷ rest)
    ∙ ap (λ word. option_map (λ commands. (codes "export" ∷ word ∷ []) ∷ commands) (commands_from (Between []) rest))
    (append_assoc name (61 ∷ []) value)

-- what is added in four parts
pub in_parts : (old a b c d one two three four : List ℕ) → one ≡ old ++ a → two ≡ one ++ b → three ≡ two ++ c
    → four ≡ three ++ d → four ≡ old ++ (a ++ (b ++ (c ++ d)))
in_parts old a b c d one two three four e1 e2 e3 e4 =
    e4
    ∙ ap (λ text. text ++ d) (e3 ∙ ap (λ text. text ++ c) (e2 ∙ ap (λ text. text ++ b) e1))
    ∙ append_assoc ((old ++ a) ++ b) c d
    ∙ append_assoc (old ++ a) b (c ++ d)
    ∙ append_assoc old a (b ++ (c ++ d))
