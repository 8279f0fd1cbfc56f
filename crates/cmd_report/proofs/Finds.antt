-- What was found about services, one after the other.
use Rattle.std.proofs.Common.{◌≡◌, ℕ, List, [], ◌∷◌, ◌++◌, refl, sym, ap, ◌∙◌, subst}
use Rattle.std.proofs.lemmas.List.{map-append}
use Rattle.svc_client.specs.Sight.{Sight}
use Rattle.cmd_report.specs.declared.found.FoundService.{FoundService}
use Rattle.cmd_report.specs.Finds.{FindsAll, FindsOne, FindsWords, folders_of}

finds_all-then : (founds : List FoundService) (found : FoundService) (old middle new : Sight)
    → FindsAll founds old middle → FindsOne found middle new → FindsAll (founds ++ found ∷ []) old new
finds_all-then [] found old middle new done one =
    (new, (subst (λ (s : Sight). FindsOne found s new) done one, refl))
finds_all-then (first ∷ founds) found old middle new done one =
    (done.0, (done.1.0, finds_all-then founds found done.0 middle new done.1.1 one))

-- One more service
pub finds_words-then : (words : List (List ℕ)) (founds : List FoundService) (word : List ℕ)
    (found : FoundService)
    (old middle new : Sight) → FindsWords words founds old middle → found.folder.now ≡ word
    → FindsOne found middle new → FindsWords (words ++ word ∷ []) (founds ++ found ∷ []) old new
finds_words-then words founds word found old middle new done same one = record {
  words_are = ap (λ (front : List (List ℕ)). front ++ word ∷ []) done.words_are
      ∙ ap (λ (last : List ℕ). folders_of founds ++ last ∷ []) (sym same)
      ∙ sym (map-append (λ (f : FoundService). f.folder.now) founds (found ∷ []));
  finds = finds_all-then founds found old middle new done.finds one;
}
