-- Words that ask `trace` for nothing.
use Rattle.std.proofs.Common.{◌≡◌, ◌<◌, ◌∙◌, List, ℕ, Bool, [], ◌∷◌, length, map, Option, Some, None}
use Rattle.std.proofs.Common.{sym, subst, arith, inl}
use Rattle.std.specs.Prelude.{ℤ, IfSome}
use Rattle.std.specs.declared.io.ErrorKind.{ErrorKind}
use Rattle.sup_trace.specs.declared.breaks.Break.{Break}
use Rattle.tai_status.specs.Counted.{Device, Reports}
use Rattle.trace_words.specs.Words.{asked_of}
use Rattle.trace_words.proofs.Examples.{no_word}
use Rattle.cmd_base.specs.Known.{IsKnown, KnownFiles}
use Rattle.svc_places.specs.Places.{KnownPlaces}
use Rattle.cmd_base.specs.Usage.{usage_text}
use Rattle.cmd_base.specs.declared.command.Command.TheVariants as command
use Rattle.cmd_trace.specs.Traced.{AskFor, DoesAsked, TraceEnds}

-- if the command line takes no words, they ask for no file
pub asks_nothing : (words : List (List ℕ)) → asked_of words ≡ None → (file : List ℕ) (at : Option Break) (local : Bool)
    → AskFor words file at local → ⊥
asks_nothing words none file at local asked = let never = sym none ∙ asked.1.0 in cc never

-- no words at all
pub ends_without_words : {W : Type 0} (text : W → List ℕ) (words : List W) (ahead : ℤ → ℤ) (files : KnownFiles) (places : KnownPlaces)
    (status : ℕ) (writer writes faults reports : Device) → length words ≡ 0 → status ≡ 100 → writes ≡ writer
    → Reports faults reports (usage_text command.Trace)
    → TraceEnds ahead files places (map text words) status writer writes faults reports
ends_without_words text [] ahead files places status writer writes faults reports none is unwritten reported = record {
  wrong = asks_nothing [] no_word;
  unwritten = unwritten;
  reported = reported;
  status_is = is;
}
ends_without_words text (word ∷ words) ahead files places status writer writes faults reports none is unwritten reported =
    absurd (omega (arith, none))

-- words that ask for something
pub ends_asked : {W : Type 0} (text : W → List ℕ) (words : List W) (ahead : ℤ → ℤ) (files : KnownFiles) (places : KnownPlaces)
    (status : ℕ) (writer writes faults reports : Device) → 0 < length words
    → DoesAsked ahead files places (map text words) status writer writes faults reports
    → TraceEnds ahead files places (map text words) status writer writes faults reports
ends_asked text [] ahead files places status writer writes faults reports some does = absurd (omega (arith, some))
ends_asked text (word ∷ words) ahead files places status writer writes faults reports some does = inl does

-- What holds for the kind of an error holds for the kind that is known.
pub if_known : (known : Option ErrorKind) (kind : ErrorKind) (P : ErrorKind → Type 0) → IsKnown known kind → P kind
    → IfSome known P
if_known None kind P is holds = tt
if_known (Some other) kind P is holds = subst P is holds
