-- Rows and their texts: what is written is read, and what is read is written so.
use Rattle.std.proofs.Common.{◌≡◌, ℕ, ◌<◌, ◌==◌, length, ◌&&◌, nat_lt, Bool, true, false, List, [], ◌∷◌, ◌++◌, map}
use Rattle.std.proofs.Common.{Option, Some, None, Result, Ok, Err, refl, sym, ap, ◌∙◌, arith, append_assoc, subst}
use Rattle.std.specs.Prelude.{if◌then◌else◌, is_some, option_map, MatchOption, MatchResult}
use Rattle.std.specs.Result.{result_ok}
use Rattle.std.specs.Str.{IsAscii, IsUtf8}
use Rattle.std.proofs.lemmas.Str.{IsUtf8-from_ascii}
use Rattle.std.proofs.lemmas.Str.Ascii.{IsAscii-nil, IsAscii-cons}
use Rattle.std.specs.List.{AllByRecursion, list_all}
use Rattle.std.specs.Cmp.Derive.{both_true}
use Rattle.std.proofs.lemmas.Bool.{and_parts, eqb-true}
use Rattle.std.proofs.lemmas.Bool.Decides.{nat_tests}
use Rattle.scan_table.specs.Slots.{Row}
use Rattle.sup_core.proofs.Lines.{is_solid}
use Rattle.suite_lines.specs.Text.{flag_text, row_text, is_graphic, is_row_name}
use Rattle.suite_lines.specs.Reading.{is_flag, are_flags, row_of_text, onto_rows, rows_of_texts}
use Rattle.suite_lines.specs.Fields.{are_rows}

-- One row

named_row : (dir log down log_down : Bool) (name : List ℕ) → is_row_name name ≡ true
    → row_of_text (row_text (record { name = name; is_dir = dir; has_log = log; down = down; log_down = log_down }))
    ≡ Some (record { name = name; is_dir = dir; has_log = log; down = down; log_down = log_down })
named_row true true true true name h = rw h refl
named_row true true true false name h = rw h refl
named_row true true false true name h = rw h refl
named_row true true false false name h = rw h refl
named_row true false true true name h = rw h refl
named_row true false true false name h = rw h refl
named_row true false false true name h = rw h refl
named_row true false false false name h = rw h refl
named_row false true true true name h = rw h refl
named_row false true true false name h = rw h refl
named_row false true false true name h = rw h refl
named_row false true false false name h = rw h refl
named_row false false true true name h = rw h refl
named_row false false true false name h = rw h refl
named_row false false false true name h = rw h refl
named_row false false false false name h = rw h refl

-- The text of a row is read as that row.
pub row_of_text-row_text : (row : Row) → is_row_name row.name ≡ true → row_of_text (row_text row) ≡ Some row
row_of_text-row_text row h = named_row row.is_dir row.has_log row.down row.log_down row.name h

-- the byte of a flag
abbrev flag_byte : Bool → ℕ → ℕ
flag_byte set letter = if set then letter else 45

flag_is : (set : Bool) (letter : ℕ) → flag_text set (letter ∷ []) ≡ flag_byte set letter ∷ []
flag_is true letter = refl
flag_is false letter = refl

-- the text of a row, byte by byte
row_bytes : (row : Row)
    → row_text row
    ≡ flag_byte row.is_dir 100 ∷ flag_byte row.has_log 108 ∷ flag_byte row.down 110 ∷ flag_byte row.log_down 109 ∷ 58
    ∷ row.name
row_bytes row = rw (flag_is row.is_dir 100, flag_is row.has_log 108, flag_is row.down 110, flag_is row.log_down 109)
    refl

flag_spelt : (letter byte : ℕ) → is_flag letter byte ≡ true → byte ≡ flag_byte (byte == letter) letter
flag_spelt letter byte h = grind (arith, nat_tests)

colon_spelt : (byte : ℕ) → (byte == 58) ≡ true → byte ≡ 58
colon_spelt byte h = eqb-true byte 58 h

pub record SpellsRow (text : List ℕ) (row : Row) : Type 0 where
  pub name : is_row_name row.name ≡ true
  pub is : text ≡ row_text row

row_tested : (dir log down log_down colon : ℕ) (name : List ℕ)
    → (are_flags dir log down log_down && colon == 58 && is_row_name name) ≡ true
    → SpellsRow (dir ∷ log ∷ down ∷ log_down ∷ colon ∷ name)
    (record { name = name; is_dir = dir == 100; has_log = log == 108; down = down == 110; log_down = log_down == 109 })
row_tested dir log down log_down colon name h =
    let front = and_parts (are_flags dir log down log_down && colon == 58) (is_row_name name) h in
    let flags = and_parts (are_flags dir log down log_down) (colon == 58) front.0 in
    let three = and_parts (is_flag 100 dir && is_flag 108 log && is_flag 110 down) (is_flag 109 log_down) flags.0 in
    let two = and_parts (is_flag 100 dir && is_flag 108 log) (is_flag 110 down) three.0 in
    let one = and_parts (is_flag 100 dir) (is_flag 108 log) two.0 in
    let bytes = row_bytes (record {
      name = name;
      is_dir = dir == 100;
      has_log = log == 108;
      down = down == 110;
      log_down = log_down == 109;
    }) in
    let d = flag_spelt 100 dir one.0 in
    let l = flag_spelt 108 log one.1 in
    let n = flag_spelt 110 down two.1 in
    let m = flag_spelt 109 log_down three.1 in
    let at = colon_spelt colon flags.1 in
    record { name = front.1; is = cc (bytes, d, l, n, m, at) }

-- The row that a text is read as has that text.
pub row_of_text-reported : (text : List ℕ) (row : Row) → row_of_text text ≡ Some row → SpellsRow text row
row_of_text-reported [] row h = cc h
row_of_text-reported (a ∷ []) row h = cc h
row_of_text-reported (a ∷ b ∷ []) row h = cc h
row_of_text-reported (a ∷ b ∷ c ∷ []) row h = cc h
row_of_text-reported (a ∷ b ∷ c ∷ d ∷ []) row h = cc h
row_of_text-reported (dir ∷ log ∷ down ∷ log_down ∷ colon ∷ name) row h =
    let read : Row = record {
      name = name;
      is_dir = dir == 100;
      has_log = log == 108;
      down = down == 110;
      log_down =
          log_down == 109;
    } in
    let test : Bool = are_flags dir log down log_down && colon == 58 && is_row_name name in
    elim test as (λ t. test ≡ t → (if t then Some read else None) ≡ Some row
    → SpellsRow (dir ∷ log ∷ down ∷ log_down ∷ colon ∷ name) row) [
      | true ↦ λ is h.
          let same : read ≡ row = cc h in
          subst (SpellsRow (dir ∷ log ∷ down ∷ log_down ∷ colon ∷ name)) same
          (row_tested dir log down log_down colon name is)
      | false ↦ λ is h. cc h
    ] refl h

-- A row's text has neither a space nor a newline.

graphic_solid : (byte : ℕ) → is_graphic byte ≡ true → nat_lt 32 byte ≡ true
graphic_solid byte h = grind (arith, nat_tests)

graphic-solid : (bytes : List ℕ) → list_all is_graphic bytes ≡ true → is_solid bytes ≡ true
graphic-solid [] h = refl
graphic-solid (byte ∷ bytes) h =
    let parts = and_parts (is_graphic byte) (list_all is_graphic bytes) h in
    both_true (graphic_solid byte parts.0) (graphic-solid bytes parts.1)

name-solid : (name : List ℕ) → is_row_name name ≡ true → is_solid name ≡ true
name-solid [] h = refl
name-solid (byte ∷ bytes) h = graphic-solid (byte ∷ bytes) h

flag_solid : (set : Bool) (letter : ℕ) → nat_lt 32 letter ≡ true → nat_lt 32 (flag_byte set letter) ≡ true
flag_solid true letter h = h
flag_solid false letter h = refl

pub row_text-solid : (row : Row) → is_row_name row.name ≡ true → is_solid (row_text row) ≡ true
row_text-solid row h =
    ap is_solid (row_bytes row)
    ∙ both_true (flag_solid row.is_dir 100 refl) (both_true (flag_solid row.has_log 108 refl)
    (both_true (flag_solid row.down 110 refl) (both_true (flag_solid row.log_down 109 refl) (name-solid row.name h))))

-- Several rows

abbrev AreNamed : List Row → Type 0
AreNamed rows = AllByRecursion (λ (row : Row). is_row_name row.name ≡ true) rows

pub rows-solid : (rows : List Row) → AllByRecursion (λ (row : Row). is_row_name row.name ≡ true) rows
    → AllByRecursion (λ field. is_solid field ≡ true) (map row_text rows)
rows-solid [] h = tt
rows-solid (row ∷ rows) h = (row_text-solid row h.0, rows-solid rows h.1)

pub rows-read : (rows : List Row) → AllByRecursion (λ (row : Row). is_row_name row.name ≡ true) rows
    → rows_of_texts (map row_text rows) ≡ Some rows
rows-read [] h = refl
rows-read (row ∷ rows) h = rw (row_of_text-row_text row h.0, rows-read rows h.1) refl

pub record SpellsRows (texts : List (List ℕ)) (rows : List Row) : Type 0 where
  pub names : AreNamed rows
  pub is : texts ≡ map row_text rows

onto_spelt : (text : List ℕ) (texts : List (List ℕ)) (o : Option Row) (os : Option (List Row)) (rows : List Row)
    → ((row : Row) → o ≡ Some row → SpellsRow text row)
    → ((later : List Row) → os ≡ Some later → SpellsRows texts later)
    → onto_rows o os ≡ Some rows → SpellsRows (text ∷ texts) rows
onto_spelt text texts None os rows one more h = cc h
onto_spelt text texts (Some row) None rows one more h = cc h
onto_spelt text texts (Some row) (Some later) rows one more h =
    let same : row ∷ later ≡ rows = cc h in
    let first = one row refl in
    let rest = more later refl in
    subst (SpellsRows (text ∷ texts)) same (record { names = (first.name, rest.names); is = cc (first.is, rest.is) })

pub rows-reported : (texts : List (List ℕ)) (rows : List Row) → rows_of_texts texts ≡ Some rows → SpellsRows texts rows
rows-reported [] rows h = let same : [] ≡ rows = cc h in subst (SpellsRows []) same (record { names = tt; is = refl })
rows-reported (text ∷ texts) rows h =
    onto_spelt text texts (row_of_text text) (rows_of_texts texts) rows (row_of_text-reported text)
    (rows-reported texts) h

-- One more field

pub are_rows-more : (text : List ℕ) (texts : List (List ℕ)) (row : Row) → row_of_text text ≡ Some row
    → are_rows (text ∷ texts) ≡ are_rows texts
are_rows-more text texts row h = ap (λ (o : Option Row). is_some (onto_rows o (rows_of_texts texts))) h
    ∙ onto (rows_of_texts texts)
  where
    onto : (os : Option (List Row)) → is_some (onto_rows (Some row) os) ≡ is_some os
    onto None = refl
    onto (Some rows) = refl

pub rows-more : (done : List Row) (text : List ℕ) (texts : List (List ℕ)) (row : Row) → row_of_text text ≡ Some row
    → option_map (λ later. done ++ later) (rows_of_texts (text ∷ texts))
    ≡ option_map (λ later. (done ++ row ∷ []) ++ later) (rows_of_texts texts)
rows-more done text texts row h =
    ap (λ (o : Option Row). option_map (λ later. done ++ later) (onto_rows o (rows_of_texts texts))) h
    ∙ onto (rows_of_texts texts)
  where
    onto : (os : Option (List Row))
        → option_map (λ later. done ++ later) (onto_rows (Some row) os)
        ≡ option_map (λ later. (done ++ row ∷ []) ++ later) os
    onto None = refl
    onto (Some rows) = ap Some (sym (append_assoc done (row ∷ []) rows))

pub right_further : (left texts : List (List ℕ)) (text : List ℕ) (row : Row) → left ≡ text ∷ texts
    → row_of_text text ≡ Some row
    → are_rows left ≡ true → are_rows texts ≡ true
right_further left texts text row is read h = sym (are_rows-more text texts row read) ∙ ap are_rows (sym is) ∙ h

pub rows_further : (left texts : List (List ℕ)) (text : List ℕ) (row own : Row) (done new : List Row)
    (all : Option (List Row))
    → left ≡ text ∷ texts → row_of_text text ≡ Some row → own ≡ row → new ≡ done ++ own ∷ []
    → option_map (λ later. done ++ later) (rows_of_texts left) ≡ all
    → option_map (λ later. new ++ later) (rows_of_texts texts) ≡ all
rows_further left texts text row own done new all is read owned put h =
    ap (λ (rows : List Row). option_map (λ later. rows ++ later) (rows_of_texts texts)) (put
    ∙ ap (λ (r : Row). done ++ r ∷ []) owned)
    ∙ sym (rows-more done text texts row read)
    ∙ ap (λ (fields : List (List ℕ)). option_map (λ later. done ++ later) (rows_of_texts fields)) (sym is) ∙ h

-- A row's name is valid text.

graphic_ascii : (byte : ℕ) → is_graphic byte ≡ true → byte < 128
graphic_ascii byte h = grind (arith, nat_tests)

graphic-ascii : (bytes : List ℕ) → list_all is_graphic bytes ≡ true → IsAscii bytes
graphic-ascii [] h = IsAscii-nil
graphic-ascii (byte ∷ bytes) h =
    let parts = and_parts (is_graphic byte) (list_all is_graphic bytes) h in
    IsAscii-cons byte bytes (graphic_ascii byte parts.0) (graphic-ascii bytes parts.1)

some_graphic : (name : List ℕ) → (length name == 0) ≡ false → list_all is_graphic name ≡ true → is_row_name name ≡ true
some_graphic [] some h = sym some
some_graphic (byte ∷ bytes) some h = h

pub name_read : {T E : Type 0} (bytes : T → List ℕ) (r : Result T E) (name : List ℕ) → (length name == 0) ≡ false
    → list_all is_graphic name ≡ true → MatchResult r (λ text. bytes text ≡ name) (λ e. IsUtf8 name → ⊥)
    → MatchOption (result_ok r) (is_row_name name ≡ false) (λ text. (is_row_name name ≡ true) × (bytes text ≡ name))
name_read bytes (Ok text) name some h read = (some_graphic name some h, read)
name_read bytes (Err e) name some h read = absurd (read (IsUtf8-from_ascii name (graphic-ascii name h)))
