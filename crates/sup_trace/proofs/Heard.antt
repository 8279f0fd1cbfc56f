-- What is read is written so: a text that is read is the text of what it says.
use Rattle.std.proofs.Common.{◌≡◌, ℕ, ◌+◌, ◌^◌, ◌<◌, ◌≤◌, ◌==◌, nat_lt, Bool, true, false, not, List, [], ◌∷◌, ◌++◌}
use Rattle.std.proofs.Common.{map, flat_map, append_assoc, length, Option, Some, None, Result, Ok, Err, refl, sym, ap}
use Rattle.std.proofs.Common.{◌∙◌, arith, codes, decimal, subst, ◌⊎◌, inl, inr, ⊎_elim}
use Rattle.std.specs.Prelude.{IfSome, IfErr, if◌then◌else◌, bytes_eq}
use Rattle.std.specs.List.{join_with_byte}
use Rattle.std.proofs.lemmas.Slice.Eq.{bytes_eq-Decides}
use Rattle.std.proofs.lemmas.List.Splits.{join_with_byte-slice_split}
use Rattle.tai_status.specs.Label.{Tai64n, IsLabel}
use Rattle.tai_status.specs.Record.{Status, IsStatus}
use Rattle.sup_core.specs.declared.event.Event.{Event}
use Rattle.tai_status.specs.declared.phase.Phase.{Phase}
use Rattle.sup_core.specs.declared.reading.EventFault.{EventFault}
use Rattle.sup_core.specs.State.{State, IsState, is_state}
use Rattle.sup_core.specs.History.{Opened}
use Rattle.sup_core.specs.Rules.{takes}
use Rattle.sup_core.specs.Text.{event_text}
use Rattle.sup_core.specs.Reading.{fields, event_from, IsInRange}
use Rattle.sup_core.proofs.Standing.{is_state-decides}
use Rattle.sup_core.proofs.Laws.{AreTaken-append}
use Rattle.sup_core.proofs.Lines.{event_text-event_from, IsEvent-in_range}
use Rattle.sup_core.proofs.Fields.{split_some_part}
use Rattle.sup_trace.specs.declared.fault.TraceFault.{TraceFault}
use Rattle.sup_trace.specs.declared.fault.TraceFaultKind.{TraceFaultKind}
use Rattle.sup_trace.specs.declared.fault.TraceFaultKind.TheVariants as kind
use Rattle.sup_trace.specs.Content.{Content, content_of, content_history, IsContent}
use Rattle.sup_trace.specs.Text.{header, front_lines, lines_text, base_fields, base_text, end_text, trace_lines}
use Rattle.sup_trace.specs.Text.{trace_text}
use Rattle.sup_trace.specs.Reading.{Heard, Nothing, Header, Entries, Whole, folded_of_text, phase_of_text}
use Rattle.sup_trace.specs.Reading.{status_of_text, exiting_of_text, until_of_text, standing, state_of_parts, base_from}
use Rattle.sup_trace.specs.Reading.{base_result, with_entry, entry_result, end_result, later_result, line_result}
use Rattle.sup_trace.specs.Reading.{
  at_end,
  content_by_parts,
  parts_of,
  content_from,
  HasEntryAt,
  ReadsEntry,
  heard_along,
}
use Rattle.std.proofs.lemmas.List.{map-append, length-append, append-nil}
use Rattle.sup_trace.proofs.Steps.{followed, along_after, some_rest, fault_after_entry}
use Rattle.sup_trace.proofs.Lists.{AllByRecursion-joined}
use Rattle.sup_trace.proofs.Parts.{SpellsFolded, folded_of_text-found, phase_of_text-found, SpellsStatus}
use Rattle.sup_trace.proofs.Parts.{status_of_text-found, exiting_of_text-found, until_of_text-found}

-- what a choice that succeeds shows
test_true : {A E : Type 0} (test : Bool) (a : Result A E) (e : E) (x : A) → (if test then a else Err e) ≡ Ok x
    → (test ≡ true) × (a ≡ Ok x)
test_true true a e x h = (refl, h)
test_true false a e x h = cc h

-- the header
header_spelt : (line : List ℕ) (more : Heard) → line_result Nothing line ≡ Ok more → (line ≡ header) × (more ≡ Header)
header_spelt line more h =
    let is = test_true (bytes_eq line header) (Ok Header) kind.Line more h in
    ((bytes_eq-Decides line header).0 is.0, let e : Header ≡ more = cc is.1 in sym e)

-- a base's line, and what it says
pub record SpellsBase (parts : List (List ℕ)) (more : Heard) : Type 0 where
  pub folded : ℕ
  pub base : State
  pub is : parts ≡ base_fields folded base
  pub more_is : more ≡ Entries (content_of base folded [])
  pub state : IsState base
  pub status : IsStatus base.status
  pub until : IfSome base.until IsLabel
  pub limit : folded ≤ 2 ^ 63

some_of : {A : Type 0} (R : A → Type 0) (o : Option A) (x : A) → IfSome o R → o ≡ Some x → R x
some_of R (Some y) x h is = let e : y ≡ x = cc is in subst R e h
some_of R None x h is = cc is

based : (more : Heard) (ft pt st et ut : List ℕ) (f : Option ℕ) (p : Option Phase) (s : Option Status) (e : Option Bool)
    (u : Option (Option Tai64n))
    → folded_of_text ft ≡ f → phase_of_text pt ≡ p → status_of_text st ≡ s → exiting_of_text et ≡ e
    → until_of_text ut ≡ u
    → base_from f (standing p s e) u ≡ Ok more → SpellsBase (codes "base" ∷ ft ∷ pt ∷ st ∷ et ∷ ut ∷ []) more
based more ft pt st et ut (Some f) (Some p) (Some s) (Some e) (Some u) fi pi si ei ui h =
    let base = state_of_parts (p, s, e) u in
    let stands = test_true (is_state base) (Ok (Entries (content_of base f []))) kind.Line more h in
    let folded = some_of (SpellsFolded ft) (folded_of_text ft) f (folded_of_text-found ft) fi in
    let phase = phase_of_text-found pt p pi in
    let status = some_of (SpellsStatus st) (status_of_text st) s (status_of_text-found st) si in
    let exiting = exiting_of_text-found et e ei in
    let until = until_of_text-found ut u ui in
    record {
      folded = f;
      base = base;
      is = cc (folded.is, phase, status.is, exiting, until.is);
      more_is = let same : Entries (content_of base f []) ≡ more = cc stands.1 in sym same;
      state = (is_state-decides base).1 stands.0;
      status = status.range;
      until = until.range;
      limit = folded.limit;
    }
based more ft pt st et ut None p s e u fi pi si ei ui h = cc h
based more ft pt st et ut (Some f) None s e u fi pi si ei ui h = cc h
based more ft pt st et ut (Some f) (Some p) None e u fi pi si ei ui h = cc h
based more ft pt st et ut (Some f) (Some p) (Some s) None u fi pi si ei ui h = cc h
based more ft pt st et ut (Some f) (Some p) (Some s) (Some e) None fi pi si ei ui h = cc h

base_spelt : (parts : List (List ℕ)) (more : Heard) → base_result parts ≡ Ok more → SpellsBase parts more
base_spelt (word ∷ ft ∷ pt ∷ st ∷ et ∷ ut ∷ []) more h =
    let is = test_true (bytes_eq word (codes "base")) _ kind.Line more h in
    let name = (bytes_eq-Decides word (codes "base")).0 is.0 in
    let content = based more ft pt st et ut _ _ _ _ _ refl refl refl refl refl is.1 in
    subst (λ (w : List ℕ). SpellsBase (w ∷ ft ∷ pt ∷ st ∷ et ∷ ut ∷ []) more) (sym name) content
base_spelt [] more h = cc h
base_spelt (a ∷ []) more h = cc h
base_spelt (a ∷ b ∷ []) more h = cc h
base_spelt (a ∷ b ∷ c ∷ []) more h = cc h
base_spelt (a ∷ b ∷ c ∷ d ∷ []) more h = cc h
base_spelt (a ∷ b ∷ c ∷ d ∷ e ∷ []) more h = cc h
base_spelt (a ∷ b ∷ c ∷ d ∷ e ∷ f ∷ g ∷ rest) more h = cc h

-- an event's line, and what it says
pub record SpellsEntry (content : Content) (line : List ℕ) (more : Heard) : Type 0 where
  pub event : Event
  pub is : line ≡ event_text event
  pub range : IsInRange event
  pub room : length content.entries < 65536
  pub taken : takes (content_history content) event ≡ true
  pub more_is : more ≡ Entries (with_entry content event)

test_false : {A E : Type 0} (test : Bool) (b : Result A E) (e : E) (x : A) → (if test then Err e else b) ≡ Ok x
    → (test ≡ false) × (b ≡ Ok x)
test_false true b e x h = cc h
test_false false b e x h = (refl, h)

lt-from_not : (m n : ℕ) → not (nat_lt m n) ≡ false → m < n
lt-from_not m n h = grind (arith)

entry_spelt : (content : Content) (line : List ℕ) (more : Heard) (r : Result Event EventFault)
    → r ≡ event_from (fields line)
    → entry_result content r ≡ Ok more → SpellsEntry content line more
entry_spelt content line more (Err fault) is h = cc h
entry_spelt content line more (Ok event) is h =
    let text = event_text-event_from line (Ok event) is in
    let room = test_false (not (nat_lt (length content.entries) 65536)) _ kind.Line more h in
    let taken = test_true (takes (content_history content) event)
    (Ok (Entries (with_entry content event))) kind.NotTaken more
    room.1 in
    record {
      event = event;
      is = text.1;
      range = text.0;
      room = lt-from_not _ _ room.0;
      taken = taken.0;
      more_is = let same : Entries (with_entry content event) ≡ more = cc taken.1 in sym same;
    }

-- the end line
end_spelt : (content : Content) (parts : List (List ℕ)) (more : Heard) → end_result content parts ≡ Ok more
    → (parts ≡ decimal (length content.entries) ∷ []) × (more ≡ Whole content)
end_spelt content (count ∷ []) more h =
    let is = test_true (bytes_eq count (decimal (length content.entries))) (Ok (Whole content)) kind.Number more h in (
      ap (λ (text : List ℕ). text ∷ []) ((bytes_eq-Decides count (decimal (length content.entries))).0 is.0),
      let same : Whole content ≡ more = cc is.1 in sym same,
    )
end_spelt content [] more h = cc h
end_spelt content (a ∷ b ∷ rest) more h = cc h

later_spelt : (content : Content) (line : List ℕ) (more : Heard) (parts : List (List ℕ)) → parts ≡ fields line
    → later_result content parts ≡ Ok more
    → ((line ≡ end_text (length content.entries)) × (more ≡ Whole content)) ⊎ SpellsEntry content line more
later_spelt content line more [] is h = cc h
later_spelt content line more (word ∷ rest) is h =
    elim (bytes_eq word (codes "end")) as (λ b. bytes_eq word (codes "end") ≡ b
    → (if b then end_result content rest else entry_result content (event_from (word ∷ rest))) ≡ Ok more
    → ((line ≡ end_text (length content.entries)) × (more ≡ Whole content)) ⊎ SpellsEntry content line more) [
      | true ↦ λ at h.
          let ends = end_spelt content rest more h in
          let name = (bytes_eq-Decides word (codes "end")).0 at in
          let parts : word ∷ rest ≡ codes "end" ∷ decimal (length content.entries) ∷ [] = cc (name, ends.0) in
          inl (sym (join_with_byte-slice_split 32 line) ∙ ap (join_with_byte 32) (sym is ∙ parts), ends.1)
      | false ↦ λ at h. inr (entry_spelt content line more _ (ap event_from is) h)
    ] refl h

-- The content is valid, and these are its lines.
abbrev IsHeard : Heard → List (List ℕ) → Type 0
IsHeard Nothing lines = lines ≡ []
IsHeard Header lines = lines ≡ header ∷ []
IsHeard (Entries content) lines =
    IsContent content × (lines ≡ header ∷ base_text content.folded content.base ∷ map event_text content.entries)
IsHeard (Whole content) lines = IsContent content × (lines ≡ trace_lines content)

heard_base : (line : List ℕ) (more : Heard) → SpellsBase (fields line) more → IsHeard more (header ∷ line ∷ [])
heard_base line more reports =
    let content = content_of reports.base reports.folded [] in
    let text : line ≡ base_text reports.folded reports.base = sym (join_with_byte-slice_split 32 line)
    ∙ ap (join_with_byte 32) reports.is in
    let is : IsContent content = record {
      state = reports.state;
      status = reports.status;
      until = reports.until;
      count = reports.limit;
      limit = omega arith;
      taken = tt;
      ranges = tt;
    } in
    subst (λ (m : Heard). IsHeard m (header ∷ line ∷ [])) (sym reports.more_is) (
      is,
      ap (λ (l : List ℕ). header ∷ l ∷ []) text,
    )

heard_entry : (content : Content) (line : List ℕ) (lines : List (List ℕ)) (more : Heard) → SpellsEntry content line more
    → IsHeard (Entries content) lines
    → IsHeard more (lines ++ line ∷ [])
heard_entry content line lines more reports h =
    let was = h.0 in
    let next : IsContent (with_entry content reports.event) = record {
      state = was.state;
      status = was.status;
      until = was.until;
      count = was.count;
      limit = let room = reports.room in rw (length-append content.entries (reports.event ∷ [])) (omega (arith, room));
      taken = AreTaken-append (Opened content.base) content.entries reports.event was.taken
          (IsEvent-in_range reports.event reports.range) reports.taken;
      ranges = AllByRecursion-joined IsInRange content.entries (reports.event ∷ []) was.ranges (reports.range, tt);
    } in
    let front : List (List ℕ) = header ∷ base_text content.folded content.base ∷ [] in
    let text : lines ++ line ∷ [] ≡ header ∷ base_text content.folded content.base
    ∷ map event_text (content.entries ++ reports.event ∷ []) =
    ap (λ (ls : List (List ℕ)). ls ++ line ∷ []) h.1
    ∙ ap (λ (l : List ℕ). header ∷ base_text content.folded content.base ∷ (map event_text content.entries
    ++ l ∷ [])) reports.is
    ∙ ap (λ (ls : List (List ℕ)). header ∷ base_text content.folded content.base ∷ ls)
    (sym (map-append event_text content.entries (reports.event ∷ []))) in
    subst (λ (m : Heard). IsHeard m (lines ++ line ∷ [])) (sym reports.more_is) (next, text)

heard_end : (content : Content) (line : List ℕ) (lines : List (List ℕ)) (more : Heard)
    → line ≡ end_text (length content.entries)
    → more ≡ Whole content
    → IsHeard (Entries content) lines → IsHeard more (lines ++ line ∷ [])
heard_end content line lines more is whole h =
    subst (λ (m : Heard). IsHeard m (lines ++ line ∷ [])) (sym whole) (
      h.0,
      ap (λ (ls : List (List ℕ)). ls ++ line ∷ []) h.1
          ∙ ap (λ (l : List ℕ). header ∷ base_text content.folded content.base ∷ (map event_text content.entries
          ++ l ∷ [])) is,
    )

heard_line : (heard : Heard) (line : List ℕ) (lines : List (List ℕ)) (more : Heard) → IsHeard heard lines
    → line_result heard line ≡ Ok more
    → IsHeard more (lines ++ line ∷ [])
heard_line Nothing line lines more h is =
    let content = header_spelt line more is in
    subst (λ (m : Heard). IsHeard m (lines ++ line ∷ [])) (sym content.1)
    (ap (λ (ls : List (List ℕ)). ls ++ line ∷ []) h ∙ ap (λ (l : List ℕ). l ∷ []) content.0)
heard_line Header line lines more h is =
    subst (λ (ls : List (List ℕ)). IsHeard more (ls ++ line ∷ [])) (sym h)
    (heard_base line more (base_spelt (fields line) more is))
heard_line (Entries content) line lines more h is =
    ⊎_elim (λ (e : (line ≡ end_text (length content.entries))
    × (more ≡ Whole content)). heard_end content line lines more e.0
    e.1 h)
    (λ (reports : SpellsEntry content line more). heard_entry content line lines more reports h)
    (later_spelt content line more (fields line) refl is)
heard_line (Whole content) line lines more h is = cc is

heard_rest : (number : ℕ) (heard : Heard) (lines : List (List ℕ)) (rest : List ℕ) (content : Content)
    → IsHeard heard lines
    → at_end number heard rest ≡ Ok content
    → IsContent content × (lines ++ rest ∷ [] ≡ trace_lines content ++ [] ∷ [])
heard_rest number Nothing lines rest content h is = cc is
heard_rest number Header lines rest content h is = cc is
heard_rest number (Entries other) lines rest content h is = cc is
heard_rest number (Whole all) lines [] content h is =
    let same : all ≡ content = cc is in
    (subst IsContent same h.0, ap (λ (ls : List (List ℕ)). ls ++ [] ∷ []) (h.1 ∙ ap trace_lines same))
heard_rest number (Whole all) lines (byte ∷ rest) content h is = cc is

heard_after : (number : ℕ) (line : List ℕ) (lines parts : List (List ℕ)) (content : Content)
    (r : Result Heard TraceFaultKind)
    → ((more : Heard) → r ≡ Ok more → IsHeard more (lines ++ line ∷ []))
    → ((more : Heard) → IsHeard more (lines ++ line ∷ []) → content_by_parts (number + 1) more parts ≡ Ok content
    → IsContent content × ((lines ++ line ∷ []) ++ parts ≡ trace_lines content ++ [] ∷ []))
    → followed number parts r ≡ Ok content → IsContent content
    × (lines ++ line ∷ parts ≡ trace_lines content ++ [] ∷ [])
heard_after number line lines parts content (Ok more) here rest is =
    let all = rest more (here more refl) is in
    (all.0, sym (append_assoc lines (line ∷ []) parts) ∙ all.1)
heard_after number line lines parts content (Err why) here rest is = cc is

heard_parts : (number : ℕ) (heard : Heard) (lines parts : List (List ℕ)) (content : Content) → (parts ≡ [] → ⊥)
    → IsHeard heard lines
    → content_by_parts number heard parts ≡ Ok content → IsContent content
    × (lines ++ parts ≡ trace_lines content ++ [] ∷ [])
heard_parts number heard lines [] content some h is = absurd (some refl)
heard_parts number heard lines (rest ∷ []) content some h is = heard_rest number heard lines rest content h is
heard_parts number heard lines (line ∷ part ∷ parts) content some h is =
    heard_after number line lines (part ∷ parts) content (line_result heard line)
    (λ more said_so. heard_line heard line lines more h said_so)
    (λ more so rest. heard_parts (number + 1) more (lines ++ line ∷ []) (part ∷ parts) content (λ e. cc e) so rest) is

-- a text of lines, each with its newline
join_lines : (lines : List (List ℕ)) → join_with_byte 10 (lines ++ [] ∷ []) ≡ flat_map (λ line. line ++ 10 ∷ []) lines
join_lines [] = refl
join_lines (line ∷ []) = sym (append-nil (line ++ 10 ∷ []))
join_lines (line ∷ next ∷ lines) =
    ap (λ (rest : List ℕ). line ++ 10 ∷ rest) (join_lines (next ∷ lines)) ∙ sym (append_assoc line (10 ∷ []) _)

-- The content that a text is read as has that text.
pub content_from-found : (text : List ℕ) (content : Content) → content_from text ≡ Ok content → IsContent content
    × (text ≡ trace_text content)
content_from-found text content is =
    let all = heard_parts 1 Nothing [] (parts_of text) content (split_some_part (λ byte. byte == 10) text) refl is in
    (all.0, sym (join_with_byte-slice_split 10 text) ∙ ap (join_with_byte 10) all.1 ∙ join_lines (trace_lines content))

-- The first lines

heard_further : (before lines : List (List ℕ)) (line : List ℕ) (more : Heard) (r : Result Heard TraceFaultKind)
    → ((next : Heard) → r ≡ Ok next → IsHeard next (before ++ line ∷ []))
    → ((next : Heard) → IsHeard next (before ++ line ∷ []) → heard_along next lines ≡ Ok more
    → IsHeard more ((before ++ line ∷ []) ++ lines))
    → along_after lines r ≡ Ok more → IsHeard more (before ++ line ∷ lines)
heard_further before lines line more (Ok next) here rest is =
    subst (IsHeard more) (append_assoc before (line ∷ []) lines) (rest next (here next refl) is)
heard_further before lines line more (Err why) here rest is = cc is

heard_lines : (heard more : Heard) (before lines : List (List ℕ)) → IsHeard heard before
    → heard_along heard lines ≡ Ok more
    → IsHeard more (before ++ lines)
heard_lines heard more before [] h is =
    let same : heard ≡ more = cc is in
    subst (λ (m : Heard). IsHeard m (before ++ [])) same (subst (IsHeard heard) (sym (append-nil before)) h)
heard_lines heard more before (line ∷ lines) h is =
    heard_further before lines line more (line_result heard line)
    (λ (next : Heard) here. heard_line heard line before next h here)
    (λ (next : Heard) so along. heard_lines next more (before ++ line ∷ []) lines so along) is

join_first : (line : List ℕ) (parts : List (List ℕ)) → (parts ≡ [] → ⊥) → join_with_byte 10 (line ∷ parts)
    ≡ line ++ 10 ∷ join_with_byte 10 parts
join_first line [] some = absurd (some refl)
join_first line (part ∷ parts) some = refl

join_front : (lines rest : List (List ℕ)) → (rest ≡ [] → ⊥)
    → join_with_byte 10 (lines ++ rest) ≡ lines_text lines ++ join_with_byte 10 rest
join_front [] rest some = refl
join_front (line ∷ lines) rest some =
    let last = join_with_byte 10 rest in
    join_first line (lines ++ rest) (some_rest lines rest some)
    ∙ ap (λ (text : List ℕ). line ++ 10 ∷ text) (join_front lines rest some)
    ∙ sym (append_assoc line (10 ∷ []) (lines_text lines ++ last))
    ∙ sym (append_assoc (line ++ 10 ∷ []) (lines_text lines) last)

-- If an entry is read, the text has an entry.
has_entry : (text : List ℕ) (at : ℕ) → ReadsEntry at 1 Nothing (parts_of text) → HasEntryAt text at
has_entry text at reads =
    let content = reads.content in
    let heard = heard_lines Nothing (Entries content) [] reads.lines refl reads.is in
    let place = reads.place in
    let long : length reads.lines ≡ length (front_lines content) = ap length heard.1 in
    record {
      content = content;
      so = heard.0;
      some = reads.some;
      number = omega (arith, place, long);
      rest = join_with_byte 10 reads.rest;
      begins = sym (join_with_byte-slice_split 10 text)
          ∙ ap (join_with_byte 10) (reads.cut ∙ ap (λ (lines : List (List ℕ)). lines ++ reads.rest) heard.1)
          ∙ join_front (front_lines content) reads.rest reads.ended;
    }

pub memory_entry : (text : List ℕ) (r : Result Content TraceFault)
    → IfErr r (λ fault. fault.kind ≡ kind.OutOfMemory → ReadsEntry fault.line 1 Nothing (parts_of text))
    → IfErr r (λ fault. fault.kind ≡ kind.OutOfMemory → HasEntryAt text fault.line)
memory_entry text (Ok content) h = tt
memory_entry text (Err fault) h = λ memory. has_entry text fault.line (h memory)

pub memory_later : (text : List ℕ) (r : Result Content TraceFault)
    → IfErr r (λ fault. fault.kind ≡ kind.OutOfMemory → ReadsEntry fault.line 1 Nothing (parts_of text))
    → IfErr r (λ fault. fault.kind ≡ kind.OutOfMemory → (first : TraceFault) → content_from text ≡ Err first
    → fault.line < first.line)
memory_later text (Ok content) h = tt
memory_later text (Err fault) h =
    λ memory first is. fault_after_entry fault.line 1 Nothing (parts_of text) first (h memory) is
