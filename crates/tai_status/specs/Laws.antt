-- Facts about the definitions, in plain words.
use Rattle.std.specs.Prelude.{◌≡◌, ◌↔◌, ◌<◌, ℕ, List, [], ◌∷◌, ◌++◌, length, map, flat_map}
use Rattle.tai_status.specs.Record.{Status, IsRecord, status_record}
use Rattle.tai_status.specs.Full.{FullStatus, IsFullRecord, full_record}
use Rattle.tai_status.specs.LineReader.{IsPlain}
use Rattle.tai_status.specs.Lines.{lines_of, texts_of, without_newline}

-- The bytes up to the first newline are the first line. The other lines are those of the bytes after it.
abbrev pub FirstLine : Type 0
FirstLine = (line rest : List ℕ) → IsPlain line → lines_of (line ++ 10 ∷ rest) ≡ (line ++ 10 ∷ []) ∷ lines_of rest

-- A rest without a newline is the last line, if it is not empty.
abbrev pub LastLine : Type 0
LastLine = (line : List ℕ) → 0 < length line → IsPlain line → lines_of line ≡ line ∷ []

-- The lines of a text with their newlines, joined, are the text.
abbrev pub WholeText : Type 0
WholeText = (text : List ℕ) → flat_map (λ line. line) (lines_of text) ≡ text

-- The texts of lines are the lines without their newlines.
abbrev pub TextsOfLines : Type 0
TextsOfLines = (text : List ℕ) → texts_of text ≡ map without_newline (lines_of text)

-- A status has one record.
abbrev pub OneRecord : Type 0
OneRecord = (bytes : List ℕ) (status : Status) → IsRecord bytes status ↔ (bytes ≡ status_record status)

-- A full status has one full record.
abbrev pub OneFullRecord : Type 0
OneFullRecord = (bytes : List ℕ) (full : FullStatus) → IsFullRecord bytes full ↔ (bytes ≡ full_record full)
