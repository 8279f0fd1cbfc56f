-- What the words of `trace` ask for. The words of a command line are those of clap (https://docs.rs/clap): its
-- specification says which words a command line takes, and what each argument gets.
use Rattle.std.specs.Prelude.{List, ℕ, [], ◌∷◌, Bool, true, false, bytes_eq, codes, Option, Some, None, option_map}
use Rattle.clap.specs.Kinds.{Kinds}
use Rattle.clap.specs.Words.{App, Row, Rule, fault_of, first_of, matches_of, new_app, new_rule, with_rule}
use Rattle.clap.specs.declared.builder.action.ArgAction.TheVariants.{Set, SetTrue}
use Rattle.trace_words.specs.declared.TraceWords.{TraceWords}

-- What words ask for: a file; the event to break at, if there is one; and whether to show local times.
pub record Request : Type 0 where
  pub file : List ℕ
  pub at : Option (List ℕ)
  pub local : Bool

-- what the words that were read ask for
abbrev pub request_of : TraceWords → Request
request_of words = record {
  file = words.file.now;
  at = option_map (λ at. at.now) words.at;
  local = words.local;
}

-- the word FILE, which must be there
abbrev pub file_rule : Rule
file_rule = record (new_rule (codes "FILE")) { required = true; action = Some Set }

-- the option `--break SPEC`
abbrev pub break_rule : Rule
break_rule = record (new_rule (codes "break")) { long = Some (codes "break"); action = Some Set }

-- the flag `--local`
abbrev pub local_rule : Rule
local_rule = record (new_rule (codes "local")) { long = Some (codes "local"); action = Some SetTrue }

-- a command line without the program's name, and without the flags for help and version
abbrev pub without_extras : App → App
without_extras line = record line {
  top = record line.top { no_binary_name = true; disable_help_flag = true; disable_version_flag = true };
}

-- the command line `FILE [--break SPEC] [--local]`
abbrev pub trace_line : App
trace_line =
    with_rule (with_rule (with_rule (without_extras (new_app (codes "trace"))) file_rule) break_rule) local_rule

-- whether a flag is set, by its value
abbrev pub is_set : Option (List ℕ) → Bool
is_set (Some text) = bytes_eq text (codes "true")
is_set None = false

-- what words with this file ask for, by what their arguments got
abbrev pub asked_with : List Row → (file : List ℕ) → Request
asked_with rows file =
    record { file = file; at = first_of (codes "break") rows; local = is_set (first_of (codes "local") rows) }

-- the file in the words, what they break at, and whether they ask for local times
abbrev pub given_by : List (List ℕ) → Option Request
given_by words =
    option_map (asked_with (matches_of trace_line words)) (first_of (codes "FILE") (matches_of trace_line words))

-- The same if a parse of the words has no fault, and nothing if it has one.
abbrev pub where_faultless : Kinds → List (List ℕ) → Option Request
where_faultless [] words = given_by words
where_faultless (fault ∷ faults) words = None

-- what words ask for
unfoldable pub asked_of : List (List ℕ) → Option Request
asked_of words = where_faultless (fault_of trace_line words) words
