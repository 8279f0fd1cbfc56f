-- The date of a day number.
use Rattle.std.proofs.Common.{◌≡◌, ℕ, ◌≤◌, true, false, Some, None, refl, sym, subst, ◌∙◌, arith, ℤ, pos, negsuc, ◌≤ℤ◌}
use Rattle.std.proofs.Common.{◌<ℤ◌}
use Rattle.std.specs.Prelude.{unsigned_abs}
use Rattle.std.specs.List.{range_with_len}
use Rattle.std.specs.Int.{int_div_euclid, int_rem_euclid}
use Rattle.std.specs.Ordering.{int_eq}
use Rattle.std.proofs.lemmas.Int.{ints}
use Rattle.jiff_core.specs.declared.civil.date.Date.{Date}
use Rattle.jiff_core.specs.Calendar.{days_in_month, IsEpochDay}
use Rattle.jiff_core.specs.Date.{epoch_day}
use Rattle.jiff_core.proofs.DateLemmas.{epoch_day_injective, epoch_day_range}
use Rattle.jiff_core.proofs.SignedLemmas.{signed_arith}
use Rattle.cmd_local.specs.Civil.{CivilDate, plain, dates_of_month, dates_of_year, dates, day_number, date_of}
use Rattle.cmd_local.specs.Civil.{time_text, civil_text}
use Rattle.cmd_local.proofs.Members.{In, In-map, In-from_map, In-flat_map, In-from_flat_map, In-range, In-from_range}
use Rattle.cmd_local.proofs.Members.{find-the, find-none}

-- a date of these years
record IsDated (date : CivilDate) : Type 0 where
  year_from : 1900 ≤ date.year
  year_to : date.year ≤ 9999
  month_from : 1 ≤ date.month
  month_to : date.month ≤ 12
  day_from : 1 ≤ date.day
  day_to : date.day ≤ days_in_month (pos date.year) date.month

abbrev on_day : (year month day : ℕ) → CivilDate
on_day year month day = record { year = year; month = month; day = day }

member : (date : CivilDate) → IsDated date → In date dates
unfolding dates
member date is =
    In-flat_map dates_of_year date.year date (range_with_len 1900 8100)
    (In-range date.year 1900 8100 is.year_from (omega (arith, is.year_to)))
    (In-flat_map (dates_of_month date.year) date.month date (range_with_len 1 12)
    (In-range date.month 1 12 is.month_from (omega (arith, is.month_to)))
    (In-map (λ (day : ℕ). record { year = date.year; month = date.month; day = day }) date.day
    (range_with_len 1 (days_in_month (pos date.year) date.month))
    (In-range date.day 1 (days_in_month (pos date.year) date.month) is.day_from (omega (arith, is.day_to)))))

dated : (date : CivilDate) → In date dates → IsDated date
unfolding dates
dated date is =
    let of_year = In-from_flat_map dates_of_year date (range_with_len 1900 8100) is in
    let of_month = In-from_flat_map (dates_of_month of_year.0) date (range_with_len 1 12) of_year.2 in
    let of_day = In-from_map (λ (day : ℕ). record { year = of_year.0; month = of_month.0; day = day }) date
    (range_with_len 1 (days_in_month (pos of_year.0) of_month.0)) of_month.2 in
    let years = In-from_range of_year.0 1900 8100 of_year.1 in
    let months = In-from_range of_month.0 1 12 of_month.1 in
    let days = In-from_range of_day.0 1 (days_in_month (pos of_year.0) of_month.0) of_day.1 in
    rw (of_day.2) record {
      year_from = years.0;
      year_to = omega (arith, years.1);
      month_from = months.0;
      month_to = omega (arith, months.1);
      day_from = days.0;
      day_to = omega (arith, days.1);
    }

-- the same as a date of the calendar's crate
abbrev calendar_date : (date : CivilDate) → IsDated date → Date
calendar_date date is = record {
  year = pos date.year;
  month = date.month;
  day = date.day;
  year_in = (omega (arith, signed_arith), omega (arith, signed_arith, is.year_to));
  month_in = (is.month_from, is.month_to);
  day_in = (is.day_from, is.day_to);
}

late_year : (year : ℤ) → pos 1900 ≤ℤ year → pos (unsigned_abs year) ≡ year
late_year (pos year) late = refl
late_year (negsuc year) late = absurd (omega (arith, signed_arith, late))

year_to_9999 : (year : ℤ) → pos 1900 ≤ℤ year → year ≤ℤ pos 9999 → (1900 ≤ unsigned_abs year)
    × (unsigned_abs year ≤ 9999)
year_to_9999 (pos year) late to = (omega (arith, signed_arith, late), omega (arith, signed_arith, to))
year_to_9999 (negsuc year) late to = absurd (omega (arith, signed_arith, late))

-- a date of the calendar from 1900 on is among the dates
plain_dated : (date : Date) → pos 1900 ≤ℤ date.year → IsDated (plain date)
plain_dated date late = record {
  year_from = (year_to_9999 date.year late date.year_in.1).0;
  year_to = (year_to_9999 date.year late date.year_in.1).1;
  month_from = date.month_in.0;
  month_to = date.month_in.1;
  day_from = date.day_in.0;
  day_to = let same = late_year date.year late in
      subst (λ (y : ℤ). date.day ≤ days_in_month y date.month) (sym same) date.day_in.1;
}

same_number : (date : Date) → pos 1900 ≤ℤ date.year → day_number (plain date) ≡ epoch_day date
same_number date late = let same = late_year date.year late in rw same refl

same_parts : (y m d y₂ m₂ d₂ : ℕ) → y ≡ y₂ → m ≡ m₂ → d ≡ d₂ → on_day y m d ≡ on_day y₂ m₂ d₂
same_parts y m d y₂ m₂ d₂ year month day = rw (year, month, day) refl

one_date : (a b : CivilDate) → IsDated a → IsDated b → day_number a ≡ day_number b → a ≡ b
one_date a b left right same =
    let parts = epoch_day_injective (calendar_date a left) (calendar_date b right) same in
    same_parts _ _ _ _ _ _ (omega (arith, signed_arith, parts.0)) parts.1 parts.2

eq_true : (a b : ℤ) → a ≡ b → int_eq a b ≡ true
eq_true a b same = grind (arith, ints, same)

true_eq : (a b : ℤ) → int_eq a b ≡ true → a ≡ b
true_eq a b same = grind (arith, ints, same)

eq_false : (a b : ℤ) → ¬ (a ≡ b) → int_eq a b ≡ false
eq_false a b apart = grind (arith, ints, apart)

pub date_of-late : (date : Date) (day : ℤ) → epoch_day date ≡ day → pos 1900 ≤ℤ date.year
    → date_of day ≡ Some (plain date)
date_of-late date day is late =
    let here : IsDated (plain date) = plain_dated date late in
    find-the (λ (d : CivilDate). int_eq (day_number d) day) (plain date) dates
    (eq_true _ _ (same_number date late ∙ is))
    (λ y among passes. one_date y (plain date) (dated y among) here (true_eq _ _ passes
    ∙ sym (same_number date late ∙ is)))
    (member (plain date) here)

pub date_of-early : (date : Date) (day : ℤ) → epoch_day date ≡ day → date.year <ℤ pos 1900 → date_of day ≡ None
date_of-early date day is early =
    find-none (λ (d : CivilDate). int_eq (day_number d) day) dates
    (λ y among. let of = dated y among in eq_false _ _ (λ same.
    let parts = epoch_day_injective (calendar_date y of) date (same ∙ sym is) in
    absurd (omega (arith, signed_arith, parts.0, of.year_from, early))))

pub date_of-outside : (day : ℤ) → ¬ (IsEpochDay day) → date_of day ≡ None
date_of-outside day out =
    find-none (λ (d : CivilDate). int_eq (day_number d) day) dates
    (λ y among. let of = dated y among in eq_false _ _ (λ same.
    out (subst IsEpochDay same (epoch_day_range (calendar_date y of)))))

-- The text of a time.

pub civil_text-late : (date : Date) (second : ℤ) → epoch_day date ≡ int_div_euclid second (pos 86_400)
    → pos 1900 ≤ℤ date.year
    → civil_text second ≡ Some (time_text (plain date) (unsigned_abs (int_rem_euclid second (pos 86_400))))
unfolding civil_text
civil_text-late date second is late = rw (date_of-late date _ is late) refl

pub civil_text-early : (date : Date) (second : ℤ) → epoch_day date ≡ int_div_euclid second (pos 86_400)
    → date.year <ℤ pos 1900
    → civil_text second ≡ None
unfolding civil_text
civil_text-early date second is early = rw (date_of-early date _ is early) refl

pub civil_text-outside : (second : ℤ) → ¬ (IsEpochDay (int_div_euclid second (pos 86_400))) → civil_text second ≡ None
unfolding civil_text
civil_text-outside second out = rw (date_of-outside _ out) refl
