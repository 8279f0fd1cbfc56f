use Rattle.std.proofs.Common.{◌≡◌, ℕ, ◌+◌, ◌^◌, ◌<◌, length}
use Rattle.sup_trace.specs.Reading.{Entries, content_by_parts, parts_of, ReadsEntry}
use Rattle.sup_trace.proofs.reading.Reading.take_entries.Given as goal

-- The text that is left gives the same result. An entry that is read from it is read from the whole text.
abbrev pub invariant-entries : goal.invariant-entries
invariant-entries g l = record {
  room : l.lines.number + length l.lines.rest.now < 2 ^ 64;
  content : content_by_parts l.fn.lines.number (Entries l.fn.self) (parts_of l.fn.lines.rest.now)
      ≡ content_by_parts l.lines.number (Entries l.self) (parts_of l.lines.rest.now);
  entry : (at : ℕ) → ReadsEntry at l.lines.number (Entries l.self) (parts_of l.lines.rest.now)
      → ReadsEntry at l.fn.lines.number (Entries l.fn.self) (parts_of l.fn.lines.rest.now);
}

abbrev pub decreases-entries : goal.decreases-entries
decreases-entries g l = length l.lines.rest.now
