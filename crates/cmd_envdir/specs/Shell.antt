-- How a shell reads commands (POSIX, Shell Command Language, 2.2, 2.3 and 2.10), and their words. A word consists of
-- letters, digits, `_`, `-`, `/`, and what is in single quotes or after a backslash; after the first word also of `=`.
-- This definition does not cover other bytes outside of quotes.
use Rattle.std.specs.Prelude.{ℕ, ◌==◌, ◌||◌, if◌then◌else◌, Bool, List, [], ◌∷◌, ◌++◌, length}
use Rattle.std.specs.Prelude.{Option, Some, None, option_map}
use Rattle.cmd_envdir.specs.Names.{is_letter_or_digit}

-- the place of a shell in a text, after these words of a command. It is between words, or in a word after these bytes
-- of it. In a word, it may also be within single quotes or after a backslash.
pub data Position : Type 0 where
  Between : (words : List (List ℕ)) → Position
  Inside : (words : List (List ℕ)) → (word : List ℕ) → Position
  Quoted : (words : List (List ℕ)) → (word : List ℕ) → Position
  Escaped : (words : List (List ℕ)) → (word : List ℕ) → Position

-- whether a byte outside of quotes belongs to the word
abbrev pub is_bare : ℕ → Bool
is_bare byte = is_letter_or_digit byte || (byte == 45 || byte == 47)

-- the commands that a shell reads from that place on; the last one goes as far as the text
abbrev pub commands_from : Position → List ℕ → Option (List (List (List ℕ)))
commands_from (Between words) [] = Some (words ∷ [])
commands_from (Inside words word) [] = Some ((words ++ word ∷ []) ∷ [])
commands_from (Quoted words word) [] = None
commands_from (Escaped words word) [] = None
commands_from (Between words) (byte ∷ text) =
    if is_bare byte then commands_from (Inside words (byte ∷ [])) text
    else (if byte == 32 then commands_from (Between words) text
    else (if byte == 39 then commands_from (Quoted words []) text
    else (if byte == 10 then option_map (λ commands. words ∷ commands) (commands_from (Between []) text) else None)))
commands_from (Inside words word) (byte ∷ text) =
    if is_bare byte then commands_from (Inside words (word ++ byte ∷ [])) text
    else (if byte == 32 then commands_from (Between (words ++ word ∷ [])) text
    else (if byte == 39 then commands_from (Quoted words word) text
    else (if byte == 10 then option_map (λ commands. (words ++ word ∷ []) ∷ commands) (commands_from (Between []) text)
    else (if byte == 92 then commands_from (Escaped words word) text
    else (if byte == 61 then (if length words == 0 then None else commands_from (Inside words (word ++ 61 ∷ [])) text)
    else None)))))
commands_from (Quoted words word) (byte ∷ text) =
    if byte == 39 then commands_from (Inside words word) text
    else commands_from (Quoted words (word ++ byte ∷ [])) text
commands_from (Escaped words word) (byte ∷ text) =
    if byte == 10 then None else commands_from (Inside words (word ++ byte ∷ [])) text

-- the commands of a text
abbrev pub shell_commands : List ℕ → Option (List (List (List ℕ)))
shell_commands text = commands_from (Between []) text
