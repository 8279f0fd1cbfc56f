-- What `tai64nlocal` makes of the lines of a text.
use Rattle.std.specs.Prelude.{ℕ, suc, ◌&&◌, ◌==◌, Bool, if◌then◌else◌, List, [], ◌∷◌, ◌++◌, take, drop, slice_index}
use Rattle.std.specs.Prelude.{flat_map, Option, Some, None, Result, Ok, Err, ℤ}
use Rattle.std.specs.Int.{w32, w64, from_be_bytes}
use Rattle.hex.specs.Hex.{decode_sized}
use Rattle.tai_status.specs.Label.{Tai64n}
use Rattle.tai_status.specs.Lines.{lines_of}
use Rattle.tai_status.specs.Reading.{is_lower_digit}
use Rattle.cmd_local.specs.Digits.{fraction}
use Rattle.cmd_local.specs.Local.{local_text}

-- how many lower-case hexadecimal digits a text begins with
abbrev pub leading_digits : List ℕ → ℕ
leading_digits [] = 0
leading_digits (byte ∷ bytes) = if is_lower_digit byte then suc (leading_digits bytes) else 0

-- whether a line begins with an `@` and exactly 24 digits
abbrev pub has_label : List ℕ → Bool
has_label line = (slice_index line 0 == 64) && (leading_digits (drop 1 line) == 24)

-- the seconds and nanoseconds of 12 bytes
abbrev pub unpacked : {E : Type 0} → Result (List ℕ) E → Option Tai64n
unpacked (Ok bytes) = Some (record { sec = from_be_bytes w64 (take 8 bytes); nano = from_be_bytes w32 (drop 8 bytes) })
unpacked (Err fault) = None

-- the seconds and nanoseconds that a line begins with; the nanoseconds may be more than a second has
unfoldable pub label_of : List ℕ → Option Tai64n
label_of line = if has_label line then unpacked (decode_sized (take 24 (drop 1 line)) 12) else None

-- a line with this text in place of the second of its label
abbrev pub with_time : Option (List ℕ) → (nano : ℕ) (line : List ℕ) → List ℕ
with_time None nano line = line
with_time (Some text) nano line = (text ++ fraction nano) ++ drop 25 line

abbrev pub with_label : (ahead : ℤ → ℤ) → Option Tai64n → List ℕ → List ℕ
with_label ahead None line = line
with_label ahead (Some label) line = with_time (local_text ahead label.sec) label.nano line

-- A line with local time in place of its label, if clocks are ahead of UTC by this much. Without a label, or if its
-- local time is not in the years 1900 to 9999, the line is unchanged.
abbrev pub localised_line : (ahead : ℤ → ℤ) → List ℕ → List ℕ
localised_line ahead line = with_label ahead (label_of line) line

-- each line changed this way, in order
abbrev pub localised : (ahead : ℤ → ℤ) → List ℕ → List ℕ
localised ahead text = flat_map (localised_line ahead) (lines_of text)
