-- A page grows row by row.
use Rattle.std.proofs.Common.{◌≡◌, ℕ, List, [], ◌∷◌, ◌++◌, flat_map, refl, sym, ap}
use Rattle.std.proofs.Common.{◌∙◌, subst, append_assoc, append-nil}
use Rattle.std.specs.List.{AllByRecursion}
use Rattle.std.proofs.lemmas.List.{map-append}
use Rattle.std.proofs.lemmas.Grind.{flat_map-append}
use Rattle.tai_status.specs.Label.{Tai64n}
use Rattle.svc_client.specs.Sight.{Sight}
use Rattle.cmd_why.specs.Texts.{Knowledge}
use Rattle.cmd_report.specs.declared.found.FoundService.{FoundService}
use Rattle.cmd_report.specs.Finds.{FindsOne, FindsWords, folders_of}
use Rattle.cmd_report.proofs.Finds.{finds_words-then}
use Rattle.cmd_page.specs.Escape.{escaped}
use Rattle.cmd_page.specs.Page.{Row, end_text, head_text, heading_text, page_text, row_text}
use Rattle.cmd_page.specs.PageEnds.{AddsRow, AddsRows, DrawsNone, IsRow, ReadsClock, founds_of}

all-then : (P : Row → Type 0) (rows : List Row) (row : Row) → AllByRecursion P rows → P row
    → AllByRecursion P (rows ++ row ∷ [])
all-then P [] row all one = (one, tt)
all-then P (first ∷ rows) row all one = (all.0, all-then P rows row all.1 one)

pub founds-then : (rows : List Row) (row : Row) (found : FoundService) → row.found ≡ found
    → founds_of rows ++ found ∷ [] ≡ founds_of (rows ++ row ∷ [])
founds-then rows row found is =
    sym (map-append (λ (r : Row). r.found) rows (row ∷ []) ∙ ap (λ (f : FoundService). founds_of rows ++ f ∷ []) is)

last-row : (now : Tai64n) (row : Row) → flat_map (row_text now) (row ∷ []) ≡ row_text now row
last-row now row = append-nil (row_text now row)

grown : (now : Tai64n) (rows : List Row) (row : Row) (before text after : List ℕ)
    → text ≡ before ++ flat_map (row_text now) rows → after ≡ text ++ row_text now row
    → after ≡ before ++ flat_map (row_text now) (rows ++ row ∷ [])
grown now rows row before text after done one =
    let last : flat_map (row_text now) (row ∷ []) ≡ row_text now row = last-row now row in
    one ∙ ap (λ (t : List ℕ). t ++ row_text now row) done
    ∙ append_assoc before (flat_map (row_text now) rows) (row_text now row)
    ∙ ap (λ (t : List ℕ). before ++ (flat_map (row_text now) rows ++ t)) (sym last)
    ∙ ap (λ (t : List ℕ). before ++ t) (sym (flat_map-append (row_text now) rows (row ∷ [])))

-- One more service
pub adds_rows-then : (known : Knowledge) (now : Tai64n) (words : List (List ℕ)) (word : List ℕ) (old middle new : Sight)
    (before text after : List ℕ) (found : FoundService) → AddsRows known now words old middle before text
    → FindsOne found middle new → found.folder.now ≡ word → AddsRow known now found text after
    → AddsRows known now (words ++ word ∷ []) old new before after
adds_rows-then known now words word old middle new before text after found done one same adds = record {
  rows = done.rows ++ adds.row ∷ [];
  finds = subst (λ (founds : List FoundService). FindsWords (words ++ word ∷ []) founds old new)
      (founds-then done.rows adds.row found adds.found_is)
      (finds_words-then words (founds_of done.rows) word found old middle new done.finds same one);
  are = all-then (IsRow known) done.rows adds.row done.are adds.is;
  text = grown now done.rows adds.row before text after done.text adds.text;
}

-- No page: nothing was looked at, or everything was.
pub none-looked : (words : List (List ℕ)) (old middle : Sight) (now : Tai64n)
    → ReadsClock old middle now → DrawsNone words old middle
none-looked words old middle now read = record {
  now = now;
  middle = middle;
  read = read;
  finds = record { founds = []; rest = words; words_are = refl; finds = refl };
}

pub all-looked : (known : Knowledge) (words : List (List ℕ)) (old middle new : Sight) (now : Tai64n) (before after : List ℕ)
    → ReadsClock old middle now → AddsRows known now words middle new before after → DrawsNone words old new
all-looked known words old middle new now before after read done = record {
  now = now;
  middle = middle;
  read = read;
  finds = record {
    founds = founds_of done.rows;
    rest = [];
    words_are = done.finds.words_are ∙ sym (append-nil (folders_of (founds_of done.rows)));
    finds = done.finds.finds;
  };
}

-- the whole page
pub drawn : (time : List ℕ) (now : Tai64n) (rows : List Row) (head grown page : List ℕ)
    → head ≡ head_text ++ escaped time ++ heading_text → grown ≡ head ++ flat_map (row_text now) rows
    → page ≡ grown ++ end_text → page ≡ page_text time now rows
unfolding page_text
drawn time now rows head grown page first then last =
    last ∙ ap (λ (t : List ℕ). t ++ end_text) then
    ∙ ap (λ (t : List ℕ). t ++ flat_map (row_text now) rows ++ end_text) first
