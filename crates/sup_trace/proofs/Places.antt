-- A replay at a place: the machine before the entry there, the reply, and the entry's line.
use Rattle.std.proofs.Common.{◌≡◌, ℕ, ◌+◌, ◌-◌, ◌<◌, ◌≤◌, List, [], ◌∷◌, ◌++◌, length, take, map, get_or, Some}
use Rattle.std.proofs.Common.{slice_get, Result, Ok, Err, codes, append_assoc, subst, sym, ap, ◌∙◌, arith, refl, inl}
use Rattle.std.proofs.Common.{inr, zero-add}
use Rattle.std.specs.Prelude.{IsSomeAnd, IfOk}
use Rattle.std.specs.List.{enumerate_from}
use Rattle.std.proofs.lemmas.Bool.{cases_lt}
use Rattle.std.proofs.lemmas.List.{length-map, map_push, take-map, take_more}
use Rattle.std.proofs.lemmas.List.FromFn.{get_or-enumerate_from, length-enumerate_from}
use Rattle.std.proofs.lemmas.Option.{slice_get_past, slice_get_read}
use Rattle.sup_core.specs.declared.asks.Reply.{Reply}
use Rattle.sup_core.specs.declared.event.Event.{Event}
use Rattle.tai_status.specs.declared.phase.Phase.{Phase}
use Rattle.sup_core.specs.History.{History, Opened, phase_of}
use Rattle.sup_core.specs.Rules.{IsEvent, next, reply_to}
use Rattle.sup_core.specs.Text.{answer_text}
use Rattle.sup_core.proofs.Laws.{AreTaken-at, next-taken}
use Rattle.sup_trace.specs.declared.breaks.Break.{Break}
use Rattle.sup_trace.specs.Content.{Content, IsTraceText}
use Rattle.sup_trace.specs.Explained.{before, answer_at, explained, explained_line}
use Rattle.sup_trace.specs.Breaks.{Breaks, BreaksAt, IsFirstBreak}

-- What is known of the entry at a place.
pub record IsEntry (content : Content) (place : ℕ) (event : Event) : Type 0 where
  pub condition : IsEvent event
  pub next_is : before content (place + 1) ≡ next (before content place) event
  pub here : slice_get content.entries place ≡ Some event
  pub within : place < length content.entries
  pub at : event ≡ get_or content.entries place event

pub entry_at : (content : Content) (entries : List Event) (place : ℕ) (event : Event) → IsTraceText content
    → entries ≡ content.entries
    → place < length entries → event ≡ get_or entries place event → IsEntry content place event
entry_at content entries place event text same below at =
    let within : place < length content.entries = omega (arith, ap length same) in
    let here : event ≡ get_or content.entries place event = at ∙ ap (λ events. get_or events place event) same in
    let taken = AreTaken-at (Opened content.base) content.entries place event text.taken within here in
    record {
      condition = taken.condition;
      next_is = taken.next ∙ sym (next-taken (before content place) event taken.taken);
      here = slice_get_read content.entries (length content.entries) place event refl within here;
      within = within;
      at = here;
    }

-- The line of the entry is the next one.
explained-more : (content : Content) (place : ℕ) (event : Event) → place < length content.entries
    → event ≡ get_or content.entries place event
    → take (place + 1) (explained content) ≡ take place (explained content) ++ explained_line content place event ∷ []
explained-more content place event below at =
    let placed = enumerate_from 0 content.entries in
    let line : ℕ × Event → List ℕ = λ p. explained_line content p.0 p.1 in
    let within : place < length placed = omega (arith, length-enumerate_from 0 content.entries) in
    let here : get_or placed place (place, event) ≡ (place, event) =
    get_or-enumerate_from 0 content.entries place (place, event) below
    ∙ ap {B = ℕ × Event} (λ k. (k, get_or content.entries place event)) (zero-add place)
    ∙ ap {B = ℕ × Event} (λ e. (place, e)) (sym at) in
    take-map line (place + 1) placed
    ∙ ap (map line) (take_more placed place (place, event) within)
    ∙ map_push line (take place placed) (get_or placed place (place, event))
    ∙ ap (λ p. map line (take place placed) ++ line p ∷ []) here
    ∙ ap (λ lines. lines ++ explained_line content place event ∷ []) (sym (take-map line place placed))

-- the reply as the code makes it
pub answer-made : (past : History) (event : Event) (reply : Reply) (phase : Phase) → reply ≡ reply_to past event
    → phase ≡ phase_of (next past event) → answer_text reply phase ≡ answer_at past event
answer-made past event reply phase answered led =
    ap (λ (r : Reply). answer_text r phase) answered ∙ ap (λ (p : Phase). answer_text (reply_to past event) p) led

-- the line as the code makes it, from texts that are shown
pub line-made : {L E : Type 0} (bytes : L → List ℕ) (r : Result L E) (number shown content event answer : List ℕ)
    → shown ≡ event → content ≡ answer
    → IfOk r (λ line. bytes line ≡ number ++ (codes " " ++ (shown ++ (codes ": " ++ content))))
    → IfOk r (λ line. bytes line ≡ number ++ codes " " ++ event ++ codes ": " ++ answer)
line-made bytes (Err e) number shown content event answer is so made = tt
line-made bytes (Ok line) number shown content event answer is so made =
    made ∙ ap (λ (text : List ℕ). number ++ (codes " " ++ (shown ++ (codes ": " ++ text)))) so
    ∙ ap (λ (text : List ℕ). number ++ (codes " " ++ (text ++ (codes ": " ++ answer)))) is
    ∙ simp append_assoc

pub lines-more : (content : Content) (place : ℕ) (event : Event) (lines : List (List ℕ)) (line : List ℕ)
    → place < length content.entries
    → event ≡ get_or content.entries place event → lines ≡ take place (explained content)
    → line ≡ explained_line content place event
    → lines ++ line ∷ [] ≡ take (place + 1) (explained content)
lines-more content place event lines line below at so_far here =
    ap (λ (l : List (List ℕ)). l ++ line ∷ []) so_far
    ∙ ap (λ (x : List ℕ). take place (explained content) ++ x ∷ []) here
    ∙ sym (explained-more content place event below at)

pub length-explained : (content : Content) → length (explained content) ≡ length content.entries
length-explained content = length-map (enumerate_from 0 content.entries) (λ p. explained_line content p.0 p.1)
    ∙ length-enumerate_from 0 content.entries

-- Breaks

breaks_here : (content : Content) (at : Break) (place : ℕ) (event : Event) → IsEntry content place event
    → Breaks at (before content place) event → BreaksAt content at place
breaks_here content at place event entry breaks =
    subst (λ found. IsSomeAnd found (Breaks at (before content place))) (sym entry.here) breaks

-- an entry that does not meet the break
pub no_break : (content : Content) (at : Break) (place : ℕ) (event : Event) → IsEntry content place event
    → ¬ Breaks at (before content place) event → ¬ BreaksAt content at place
no_break content at place event entry none breaks =
    none (subst (λ found. IsSomeAnd found (Breaks at (before content place))) entry.here breaks)

-- none up to a place, and the entry there
pub first_found : (content : Content) (at : Break) (place : ℕ) (event : Event) → IsEntry content place event
    → ((earlier : ℕ) → earlier < place → ¬ BreaksAt content at earlier) → Breaks at (before content place) event
    → IsFirstBreak content at (place + 1)
first_found content at place event entry none breaks =
    let same : place ≡ place + 1 - 1 = omega arith in
    record {
      above = omega arith;
      here = subst (BreaksAt content at) same (breaks_here content at place event entry breaks);
      first = λ earlier below. none earlier (omega arith);
    }

-- none up to the end
pub no_break_at_all : (content : Content) (at : Break) (n : ℕ) → length content.entries ≤ n
    → ((earlier : ℕ) → earlier < n → ¬ BreaksAt content at earlier) → (place : ℕ) → ¬ BreaksAt content at place
no_break_at_all content at n end none place breaks =
    elim (cases_lt place n) [
      | inl below ↦ none place below breaks
      | inr past ↦ subst (λ found. IsSomeAnd found (Breaks at (before content place)))
          (slice_get_past content.entries place (omega arith)) breaks
    ]
