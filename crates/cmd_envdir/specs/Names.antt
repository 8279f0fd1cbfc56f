-- Which variables a shell can set (POSIX, Definitions, 3.231, and Shell Command Language, 2.5.3; the pages dash(1) and
-- bash(1)).
use Rattle.std.specs.Prelude.{ℕ, nat_eq, nat_le, ◌==◌, ◌&&◌, ◌||◌, not, Bool, List, [], ◌∷◌, codes, bytes_eq, length}
use Rattle.std.specs.Prelude.{slice_index}
use Rattle.std.specs.Char.{is_ascii_digit}
use Rattle.std.specs.List.{list_all, list_any, starts_with}

-- whether a byte is an ASCII letter or an underscore
abbrev pub is_letter : ℕ → Bool
is_letter byte = (nat_le 65 byte && nat_le byte 90) || ((nat_le 97 byte && nat_le byte 122) || byte == 95)

abbrev pub is_letter_or_digit : ℕ → Bool
is_letter_or_digit byte = is_letter byte || is_ascii_digit byte

-- whether a text is a name for a shell
abbrev pub is_identifier : List ℕ → Bool
is_identifier name =
    not (length name == 0) && (not (is_ascii_digit (slice_index name 0)) && list_all is_letter_or_digit name)

-- names that dash or bash sets by itself, or does not allow to be set
abbrev pub reserved : List (List ℕ)
reserved = (
    codes "PPID" ∷
    codes "UID" ∷
    codes "EUID" ∷
    codes "GROUPS" ∷
    codes "OPTIND" ∷
    codes "OPTERR" ∷
    codes "LINENO" ∷
    codes "SHELLOPTS" ∷
    codes "DIRSTACK" ∷
    codes "EPOCHSECONDS" ∷
    codes "EPOCHREALTIME" ∷
    codes "FUNCNAME" ∷
    codes "HISTCMD" ∷
    codes "PIPESTATUS" ∷
    codes "RANDOM" ∷
    codes "SECONDS" ∷
    codes "SRANDOM" ∷
    codes "POSIXLY_CORRECT" ∷ [])

abbrev pub is_reserved : List ℕ → Bool
is_reserved name = list_any (bytes_eq name) reserved

-- more names of that kind: a shell may change the value that it was given, and this is left to the shell
abbrev pub is_left : List ℕ → Bool
is_left name =
    list_any (bytes_eq name) (codes "_" ∷ codes "SHLVL" ∷ codes "PS1" ∷ codes "PS2" ∷ codes "PS4" ∷ [])
    || starts_with nat_eq name (codes "BASH")

-- Whether a shell sets the variable with this name as it is asked to.
abbrev pub is_plain : List ℕ → Bool
is_plain name = is_identifier name && (not (is_reserved name) && not (is_left name))

-- names that a shell sets when it begins, and allows to be set
abbrev pub own_names : List (List ℕ)
own_names = codes "PWD" ∷ codes "OLDPWD" ∷ codes "IFS" ∷ []
