-- A replay at a place: what is known of the entry there, and the line of it.
use Rattle.std.proofs.Common.{◌≡◌, ℕ, ◌+◌, ◌<◌, List, [], ◌∷◌, ◌++◌, length, take, map, get_or, append_assoc, sym, ap}
use Rattle.std.proofs.Common.{◌∙◌, arith, zero-add}
use Rattle.std.specs.Prelude.{ℤ}
use Rattle.std.specs.List.{enumerate_from}
use Rattle.std.proofs.lemmas.List.{length-map, map_push, take-map, take_more}
use Rattle.std.proofs.lemmas.List.FromFn.{get_or-enumerate_from, length-enumerate_from}
use Rattle.sup_core.specs.declared.event.Event.{Event}
use Rattle.sup_core.specs.History.{Opened}
use Rattle.sup_core.specs.Rules.{IsEvent, next}
use Rattle.sup_core.proofs.Laws.{AreTaken-at, next-taken}
use Rattle.sup_trace.specs.Content.{Content, IsTraceText}
use Rattle.sup_trace.specs.Explained.{before}
use Rattle.cmd_base.specs.Printed.{printed}
use Rattle.cmd_trace.specs.Local.{local_line, local_lines}

-- What is known of the entry at a place.
pub record IsEntry (content : Content) (place : ℕ) (event : Event) : Type 0 where
  pub condition : IsEvent event
  pub next_is : before content (place + 1) ≡ next (before content place) event
  pub within : place < length content.entries
  pub at : event ≡ get_or content.entries place event

pub entry_at : (content : Content) (entries : List Event) (place : ℕ) (event : Event) → IsTraceText content
    → entries ≡ content.entries
    → place < length entries → event ≡ get_or entries place event → IsEntry content place event
entry_at content entries place event text same below at =
    let within : place < length content.entries = omega (arith, ap length same) in
    let here : event ≡ get_or content.entries place event = at ∙ ap (λ events. get_or events place event) same in
    let taken = AreTaken-at (Opened content.base) content.entries place event text.taken within here in
    record {
      condition = taken.condition;
      next_is = taken.next ∙ sym (next-taken (before content place) event taken.taken);
      within = within;
      at = here;
    }

-- The line of the entry is the next one.
lines-more : (ahead : ℤ → ℤ) (content : Content) (place : ℕ) (event : Event) → IsEntry content place event
    → take (place + 1) (local_lines ahead content)
    ≡ take place (local_lines ahead content) ++ local_line ahead (place + 1) (before content place) event ∷ []
lines-more ahead content place event entry =
    let placed = enumerate_from 0 content.entries in
    let line : ℕ × Event → List ℕ = λ p. local_line ahead (p.0 + 1) (before content p.0) p.1 in
    let within : place < length placed = omega (arith, entry.within, length-enumerate_from 0 content.entries) in
    let here : get_or placed place (place, event) ≡ (place, event) =
    get_or-enumerate_from 0 content.entries place (place, event) entry.within
    ∙ ap {B = ℕ × Event} (λ k. (k, get_or content.entries place event)) (zero-add place)
    ∙ ap {B = ℕ × Event} (λ e. (place, e)) (sym entry.at) in
    take-map line (place + 1) placed
    ∙ ap (map line) (take_more placed place (place, event) within)
    ∙ map_push line (take place placed) (get_or placed place (place, event))
    ∙ ap (λ p. map line (take place placed) ++ line p ∷ []) here
    ∙ ap (λ lines. lines ++ line (place, event) ∷ []) (sym (take-map line place placed))

printed-more : (lines : List (List ℕ)) (line : List ℕ) → printed (lines ++ line ∷ []) ≡ printed lines
    ++ (line ++ 10 ∷ [])
printed-more [] line = simp append_assoc
printed-more (first ∷ lines) line = rw (printed-more lines line) (simp append_assoc)

regrouped : (a b c d : List ℕ) → a ++ b ++ c ++ d ≡ a ++ (b ++ (c ++ d))
regrouped a b c d = simp append_assoc

-- with the line of the entry the lines up to the next place are written
pub written-more : (ahead : ℤ → ℤ) (content : Content) (place : ℕ) (event : Event) (start so_far more : List ℕ)
    → IsEntry content place event
    → so_far ≡ start ++ printed (take place (local_lines ahead content))
    → more ≡ so_far ++ local_line ahead (place + 1) (before content place) event ++ 10 ∷ []
    → more ≡ start ++ printed (take (place + 1) (local_lines ahead content))
written-more ahead content place event start so_far more entry is grown =
    let line = local_line ahead (place + 1) (before content place) event in
    let lines = local_lines ahead content in
    grown ∙ ap (λ (text : List ℕ). text ++ line ++ 10 ∷ []) is
    ∙ regrouped start (printed (take place lines)) line (10 ∷ [])
    ∙ ap (λ (text : List ℕ). start ++ text) (sym (printed-more (take place lines) line))
    ∙ ap (λ (texts : List (List ℕ)). start ++ printed texts) (sym (lines-more ahead content place event entry))

pub length-local_lines : (ahead : ℤ → ℤ) (content : Content)
    → length (local_lines ahead content) ≡ length content.entries
length-local_lines ahead content =
    length-map (enumerate_from 0 content.entries) (λ p. local_line ahead (p.0 + 1) (before content p.0) p.1)
    ∙ length-enumerate_from 0 content.entries
