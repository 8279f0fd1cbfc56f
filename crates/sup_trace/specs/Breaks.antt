-- The entry at which a replay breaks.
use Rattle.std.specs.Prelude.{◌≡◌, ◌↔◌, ℕ, ◌+◌, ◌-◌, ◌<◌, Bool, IsTrue, slice_get, IsSomeAnd}
use Rattle.std.specs.List.{Any}
use Rattle.tai_status.specs.declared.phase.Phase.{Phase}
use Rattle.sup_core.specs.declared.asks.Ask.{Ask}
use Rattle.sup_core.specs.declared.asks.Ask.TheVariants.{Signal}
use Rattle.sup_core.specs.declared.asks.Reply.{Reply}
use Rattle.sup_core.specs.declared.asks.Reply.TheVariants.{Held, Took}
use Rattle.sup_core.specs.declared.asks.Sig.{Sig}
use Rattle.sup_core.specs.declared.event.Event.{Event}
use Rattle.sup_core.specs.declared.event.Event.TheVariants as event
use Rattle.sup_core.specs.History.{History, phase_of}
use Rattle.sup_core.specs.Rules.{next, reply_to}
use Rattle.sup_trace.specs.declared.breaks.Break.{Break}
use Rattle.sup_trace.specs.declared.breaks.Break.TheVariants as break
use Rattle.sup_trace.specs.Content.{Content}
use Rattle.sup_trace.specs.Explained.{before}

-- An ask is this signal, to any process.
abbrev pub IsSignal : Sig → Ask → Type 0
IsSignal sig (Signal other pid) = other ≡ sig
IsSignal sig ask = ⊥

-- A reply asks for this signal.
abbrev pub AsksFor : Sig → Reply → Type 0
AsksFor sig Held = ⊥
AsksFor sig (Took asks) = Any (IsSignal sig) asks

-- An event is that byte, or leads to that phase, or asks for that signal.
abbrev pub Breaks : Break → History → Event → Type 0
Breaks (break.Byte byte) past happened = happened ≡ event.Byte byte
Breaks (break.Phase phase) past happened = phase_of (next past happened) ≡ phase
Breaks (break.Signal sig) past happened = AsksFor sig (reply_to past happened)

-- Whether the break is met, at every place at which this event has this reply and this phase after it.
abbrev pub AnswersBreak : (met : Bool) → Break → Event → Reply → Phase → Type 0
AnswersBreak met at happened reply phase =
    (past : History) → reply ≡ reply_to past happened → phase ≡ phase_of (next past happened)
    → IsTrue met ↔ Breaks at past happened

-- The entry at a place, counted from 0, meets the break.
abbrev pub BreaksAt : Content → Break → ℕ → Type 0
BreaksAt content at place = IsSomeAnd (slice_get content.entries place) (Breaks at (before content place))

-- This number, counted from 1, is the number of the first such entry.
pub record IsFirstBreak (content : Content) (at : Break) (number : ℕ) : Type 0 where
  pub above : 0 < number
  pub here : BreaksAt content at (number - 1)
  pub first : (place : ℕ) → place + 1 < number → ¬ BreaksAt content at place

-- There is no such entry.
abbrev pub HasNoBreak : Content → Break → Type 0
HasNoBreak content at = (place : ℕ) → ¬ BreaksAt content at place
