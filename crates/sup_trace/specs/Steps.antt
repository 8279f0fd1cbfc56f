-- The steps of reading a text line by line. No public contract names these definitions.
use Rattle.std.specs.Prelude.{◌≡◌, ◌≢◌, Err}
use Rattle.sup_trace.specs.declared.fault.TraceFault.{TraceFault}
use Rattle.sup_trace.specs.declared.fault.TraceFaultKind.TheVariants as kind
use Rattle.sup_trace.specs.declared.lines.TextLines.{TextLines}
use Rattle.sup_trace.specs.Reading.{
  Heard,
  parts_of,
  content_by_parts,
  ReadsEntry,
  ReadsItsEntries,
  ReadsLine,
  SpellsAlike,
}

-- The next line is read.
abbrev pub ReadsNext : (old new : TextLines) (heard more : Heard) → Type 0
ReadsNext old new heard more = ReadsLine old.number new.number old.rest.now new.rest.now heard more

-- Reading from this place ends in this fault, unless memory runs out.
abbrev pub EndsInFault : TextLines → Heard → TraceFault → Type 0
EndsInFault lines heard fault =
    fault.kind ≢ kind.OutOfMemory → content_by_parts lines.number heard (parts_of lines.rest.now) ≡ Err fault

-- If memory runs out, the line is that of an entry.
abbrev pub WantsMemory : TextLines → Heard → TraceFault → Type 0
WantsMemory lines heard fault =
    fault.kind ≡ kind.OutOfMemory → ReadsEntry fault.line lines.number heard (parts_of lines.rest.now)

-- Reading from this place gives what reading from that place gives.
abbrev pub ReadsAlike : (here : TextLines) (heard : Heard) (there : TextLines) (more : Heard) → Type 0
ReadsAlike here heard there more = SpellsAlike here.number heard here.rest.now there.number more there.rest.now

-- An entry that is read from that place is read from this one.
abbrev pub KeepsEntries : (here : TextLines) (heard : Heard) (there : TextLines) (more : Heard) → Type 0
KeepsEntries here heard there more = ReadsItsEntries here.number heard here.rest.now there.number more there.rest.now
