-- The parts of a line, in the order in which they are read. Only private functions use these words, except
-- `fields_after`. The result of reading a line is defined in specs/Reading.
use Rattle.std.specs.Prelude.{ℕ, List, [], ◌∷◌, codes, Option, Some, None, Result, Err, ok_or}
use Rattle.tai_status.specs.Label.{Tai64n}
use Rattle.sup_core.specs.declared.reading.Word.{Word}
use Rattle.sup_core.specs.declared.reading.Word.TheVariants as word
use Rattle.sup_core.specs.declared.reading.EventFault.{EventFault}
use Rattle.sup_core.specs.declared.reading.EventFault.TheVariants as fault
use Rattle.sup_core.specs.Reading.{fields, byte_of_text, label_of_text}

-- the first word of an event's line
abbrev pub word_name : Word → List ℕ
word_name word.Byte = codes "byte"
word_name word.Started = codes "started"
word_name word.Failed = codes "failed"
word_name word.Death = codes "death"
word_name word.Clock = codes "clock"

-- the fields after a space, if there is one
abbrev pub fields_after : Option (List ℕ) → List (List ℕ)
fields_after None = []
fields_after (Some rest) = fields rest

-- the field, if there is just one
abbrev pub sole : List (List ℕ) → Option (List ℕ)
sole (field ∷ []) = Some field
sole other = None

-- the label, if it is the one field left
abbrev pub sole_label : List (List ℕ) → Result Tai64n EventFault
sole_label (text ∷ []) = ok_or (label_of_text text) fault.Label
sole_label other = Err fault.Line

-- the byte, if it is the one field left
abbrev pub sole_byte : List (List ℕ) → Result ℕ EventFault
sole_byte (text ∷ []) = ok_or (byte_of_text text) fault.Line
sole_byte other = Err fault.Line
