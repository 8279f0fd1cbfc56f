-- What the text of a trace says.
use Rattle.std.specs.Prelude.{ℕ, ◌≤◌, ◌^◌, List, length, IfSome}
use Rattle.std.specs.List.{AllByRecursion}
use Rattle.tai_status.specs.Label.{IsLabel}
use Rattle.tai_status.specs.Record.{IsStatus}
use Rattle.sup_core.specs.declared.event.Event.{Event}
use Rattle.sup_core.specs.State.{State, IsState}
use Rattle.sup_core.specs.History.{History, Opened, state_of}
use Rattle.sup_core.specs.Runs.{followed_by, AreTaken}
use Rattle.sup_core.specs.Reading.{IsInRange}

-- The base is the state of a machine. The count of folded events says how many events had led to it; it may stop before
-- the true number. The entries are the events taken since then, oldest first.
pub record Content : Type 0 where
  pub base : State
  pub folded : ℕ
  pub entries : List Event

-- the history of the entries after the base
abbrev pub content_history : Content → History
content_history content = followed_by (Opened content.base) content.entries

-- the state that the base and the entries replay to
abbrev pub replay_of : Content → State
replay_of content = state_of (content_history content)

-- The conditions on what a text can hold. There are at most 65,536 entries, each is taken in its turn, the count stops
-- at `2 ^ 63`, and numbers and labels are in range.
pub record IsContent (content : Content) : Type 0 where
  pub state : IsState content.base
  pub status : IsStatus content.base.status
  pub until : IfSome content.base.until IsLabel
  pub count : content.folded ≤ 2 ^ 63
  pub limit : length content.entries ≤ 65536
  pub taken : AreTaken (Opened content.base) content.entries
  pub ranges : AllByRecursion IsInRange content.entries

-- a trace's text with this base, this count and these entries
abbrev pub content_of : State → ℕ → List Event → Content
content_of base folded entries = record { base = base; folded = folded; entries = entries }

-- The part of `IsContent` that does not follow from the types of machines and events.
pub record IsTraceText (content : Content) : Type 0 where
  pub count : content.folded ≤ 2 ^ 63
  pub limit : length content.entries ≤ 65536
  pub taken : AreTaken (Opened content.base) content.entries
