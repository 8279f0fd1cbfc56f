-- A title after many pushes.
use Rattle.std.proofs.Common.{◌≡◌, ℕ, ◌-◌, ◌≤◌, ◌==◌, List, [], ◌∷◌, ◌++◌, length, sym, ◌∙◌, ap, arith, append_assoc}
use Rattle.std.proofs.Common.{length-append}
use Rattle.std.specs.Prelude.{not, replicate}
use Rattle.std.proofs.lemmas.List.{append-nil, length-replicate}
use Rattle.std.proofs.lemmas.List.Elements.{filter-append}
use Rattle.circular_buffer.specs.Buffer.{keep_last}
use Rattle.env_title.specs.Title.{TitleParts, dot, new_title, pushed, title_text, without_nul}
use Rattle.env_title.specs.Laws.{pushed_one_by_one}
use Rattle.env_title.proofs.KeepLast.{title_of, keep_last-append, keep_last-short, length-keep_last}

pub pushed-pushed : (title : TitleParts) (bytes more : List ℕ) → pushed (pushed title bytes) more
    ≡ pushed title (bytes ++ more)
pushed-pushed title bytes more =
    let room = title.len - 3 in
    ap (λ items. title_of items title.len)
    (keep_last-append room (title.items ++ without_nul bytes) (without_nul more)
    ∙ ap (keep_last room) (append_assoc title.items (without_nul bytes) (without_nul more)
    ∙ ap (λ t. title.items ++ t) (sym (filter-append (λ byte. not (byte == 0)) bytes more))))

after_more : (title : TitleParts) (done bytes : List ℕ) → pushed_one_by_one (pushed title done) bytes
    ≡ pushed title (done ++ bytes)
after_more title done [] = ap (pushed title) (sym (append-nil done))
after_more title done (byte ∷ bytes) =
    ap (λ before. pushed_one_by_one before bytes) (pushed-pushed title done (byte ∷ []))
    ∙ after_more title (done ++ byte ∷ []) bytes
    ∙ ap (pushed title) (append_assoc done (byte ∷ []) bytes)

pushed-nothing : (len : ℕ) → pushed (new_title len) [] ≡ new_title len
pushed-nothing len =
    ap (λ items. title_of items len)
    (ap (keep_last (len - 3)) (append-nil (replicate (len - 3) dot))
    ∙ keep_last-short (len - 3) (replicate (len - 3) dot) (omega (arith, length-replicate (len - 3) dot)))

pub one_by_one : (len : ℕ) (bytes : List ℕ) → pushed_one_by_one (new_title len) bytes ≡ pushed (new_title len) bytes
one_by_one len bytes =
    ap (λ before. pushed_one_by_one before bytes) (sym (pushed-nothing len)) ∙ after_more (new_title len) [] bytes

pub length-title : (len : ℕ) (bytes : List ℕ) → 5 ≤ len → length (title_text (pushed (new_title len) bytes)) ≡ len
length-title len bytes long =
    let room = len - 3 in
    let start = replicate room dot in
    let items = keep_last room (start ++ without_nul bytes) in
    let whole : length items ≡ room =
    length-keep_last room (start ++ without_nul bytes)
    (omega (arith, length-append start (without_nul bytes), length-replicate room dot)) in
    omega (arith, length-append (replicate 3 dot) items)
