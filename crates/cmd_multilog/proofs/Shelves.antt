-- Stores over folders.
use Rattle.std.proofs.Common.{◌≡◌, ℕ, List, [], ◌∷◌, Option, Some, None, ap, sym, append-nil, ◌∙◌}
use Rattle.mlog_files.specs.Store.{WasGiven}
use Rattle.cmd_multilog.specs.Folder.{Status, given_of, Receives}

pub received : (old new : Option Status) (content : List ℕ) → Receives old new content
    → WasGiven (given_of old) (given_of new) (content ∷ [])
received None None content h = tt
received None (Some new) content h = absurd h
received (Some old) None content h = absurd h
received (Some old) (Some new) content h = ap (λ (s : Status). s.given) h

pub unchanged : (old new : Option Status) → new ≡ old → WasGiven (given_of old) (given_of new) []
unchanged None None h = tt
unchanged None (Some new) h = cc
unchanged (Some old) None h = cc
unchanged (Some old) (Some new) h =
    let same : new ≡ old = cc in ap (λ (s : Status). s.given) same ∙ sym (append-nil old.given)
