-- What is posted to a part in the end of all services, and what is seen of one.
use Rattle.std.proofs.Common.{◌≡◌, ℕ, inl, inr, List, [], ◌∷◌, ◌++◌, refl, sym, ap, ◌∙◌}
use Rattle.std.proofs.Common.{subst}
use Rattle.std.specs.Prelude.{Result, Ok, Err, IfErr, MatchResult, OnErr, OnOk}
use Rattle.scan_table.specs.declared.part.Role.{Role}
use Rattle.svc_mail.specs.declared.sender.Sender.{Sender}
use Rattle.svc_mail.specs.Ends.{IsSameSender, heard_by, posted, seen_by}
use Rattle.svc_mail.specs.Ends.{WasFull as SenderWasFull}
use Rattle.svc_host.specs.declared.ending.ProcessSight.{ProcessSight}
use Rattle.svc_host.specs.Mails.{Mail, WasFull, mail_of}
use Rattle.svc_host.specs.Parts.{HostPart, AreHeard, HasPosted, IsRefused}
use Rattle.svc_host.specs.Ending.{IsSight}
use Rattle.svc_host.proofs.Going.{none_heard, one_heard}

-- a sender that posted, saw and heard nothing more knows what it knew
pub mail_same : {A : Type 0} (old new : Sender ℕ A) → IsSameSender old new → posted new ≡ posted old
    → seen_by new ≡ seen_by old
    → heard_by new ≡ heard_by old → mail_of new ≡ mail_of old
mail_same old new same post see hear = λ i. record {
  number = same.1 i;
  senders = same.3 i;
  room = same.2 i;
  posted = post i;
  seen = see i;
  heard = hear i;
}

pub sight_heard : (slot : ℕ) (role : Role) (old new : List HostPart) (sight : ProcessSight)
    → IsSight slot role old new sight → AreHeard old new
sight_heard slot role old new sight (inl none) = subst (AreHeard old) (sym none.1) (none_heard old)
sight_heard slot role old new sight (inr one) =
    subst (AreHeard old) (sym one.4) (one_heard old one.0 one.1 (λ d. (one.3 d).1.is_heard))

-- the part with what its sender knows now
abbrev pub with_mail : HostPart → Mail → HostPart
with_mail part mail = record part { mail = mail }

-- a byte was posted by the sender of the part, or the mailbox was full
pub posts_or_not : {A X Y : Type 0} (Same : Y → Type 0) (part : HostPart) (old new : Sender ℕ A) (byte : ℕ)
    (result : Result X Y)
    → part.mail ≡ mail_of old → IsSameSender old new → OnOk result (posted new ≡ posted old ++ byte ∷ [])
    → OnErr result (posted new ≡ posted old) → OnErr result (seen_by new ≡ seen_by old) → heard_by new ≡ heard_by old
    → IfErr result (λ full. Same full × SenderWasFull old)
    → MatchResult result (λ _. HasPosted part byte (with_mail part (mail_of new)))
    (λ _. IsRefused part (with_mail part (mail_of new)))
posts_or_not Same part old new byte (Ok x) is same more post see hear full = record {
  id = refl;
  opening = refl;
  adopted = refl;
  station = refl;
  known = refl;
  posted = more ∙ ap (λ (mail : Mail). mail.posted ++ byte ∷ []) (sym is);
  end_bytes = refl;
  kept = refl;
  has_ended = refl;
  untaken = refl;
  loss = refl;
}
posts_or_not Same part old new byte (Err y) is same more post see hear full =
    (ap (with_mail part) (mail_same old new same post see hear ∙ sym is), subst WasFull (sym is) full.1)
