-- A connection continues: a byte is posted, bytes are read, or none are.
use Rattle.std.proofs.Common.{◌≡◌, ℕ, Bool, ◌+◌, ◌<◌, ◌≤◌, List, [], ◌∷◌, ◌++◌, length, take, drop, slice_index, Option}
use Rattle.std.proofs.Common.{All}
use Rattle.std.proofs.Common.{refl, sym, ap, ◌∙◌, subst, append_assoc, append-nil, add-one, arith, length-append}
use Rattle.std.proofs.Math.Seq.{drop-cons}
use Rattle.std.specs.List.{concat}
use Rattle.std.specs.Io.KnownBytes.{Consumes}
use Rattle.std.proofs.lemmas.List.{get_or-take, length-drop, length-take-le}
use Rattle.tai_status.proofs.Stamped.{Consumes-then, Consumes-none}
use Rattle.svc_mail.specs.declared.sender.Sender.{Sender}
use Rattle.svc_mail.specs.History.{IsAmong, StartsWith, row_of}
use Rattle.svc_mail.specs.Ends.{IsSameSender, IsUnchangedSender, WasFull}
use Rattle.svc_door.specs.declared.connection.TheConstants.{MOST}
use Rattle.svc_door.specs.declared.byte_source.Heard.{Heard}
use Rattle.svc_door.specs.Connection.{ConnectionState, GoesOn, Posts, GoesOnAlong, HasPosted, HasPostedLast, beginning}

pub same-sender-then : {A : Type 0} (a b c : Sender ℕ A) → IsSameSender a b → IsSameSender b c → IsSameSender a c
same-sender-then a b c p q = (q.0 ∙ p.0, q.1 ∙ p.1, q.2 ∙ p.2, q.3 ∙ p.3)

-- a sender that posted, saw and learnt nothing more was full as before
pub was-full-same : {A : Type 0} (old new : Sender ℕ A) → IsUnchangedSender old new → WasFull old → WasFull new
was-full-same old new same full = (
  full.0,
  full.1,
  full.2 ∙ sym same.0.2,
  full.3,
  subst (λ all. IsAmong all (full.0 ++ full.1)) (sym same.0.3) full.4,
  same.1 ∙ full.5 ∙ ap (λ number. row_of number (full.0 ++ full.1)) (sym same.0.1),
  subst (StartsWith (full.0 ++ full.1)) (sym same.2) full.6,
  subst (All (StartsWith full.0)) (sym same.3) full.7,
)

-- the first byte that is kept
pub kept-first : (piece : List ℕ) (from to : ℕ) → from < to → to ≤ length piece
    → drop from (take to piece) ≡ slice_index piece from ∷ drop (from + 1) (take to piece)
kept-first piece from to less within =
    let inside : from < length (take to piece) = subst (λ n. from < n) (sym (length-take-le to piece within)) less in
    rw (add-one, drop-cons (take to piece) from 0 inside, get_or-take to piece from 0 less) refl

-- what is left of the piece is kept
pub kept-some : (piece : List ℕ) (from to : ℕ) → from < to → to ≤ length piece → 0 < length (drop from (take to piece))
kept-some piece from to less within = simp (length-drop, length-take-le to piece within) (omega arith)

-- nothing was read or posted
pub GoesOn-same : (v : ConnectionState) → v.taken ≤ MOST → GoesOn [] v v
GoesOn-same v most = record {
  read = [];
  gives = Consumes-none v.left;
  count = omega arith;
  most = most;
  order =
      sym (append-nil v.kept);
}

pub Posts-same : (a : List ℕ) (v : ConnectionState) → v.taken ≤ MOST → Posts a a v v
Posts-same a v most = record { posted = []; accepts = sym (append-nil a); on = GoesOn-same v most }

-- the first byte that was kept was posted
pub Posts-one : (a b c : List ℕ) (u v w : ConnectionState) (byte : ℕ) → Posts a b u v → w.left ≡ v.left
    → w.taken ≡ v.taken
    → c ≡ b ++ byte ∷ [] → v.kept ≡ byte ∷ w.kept → Posts a c u w
Posts-one a b c u v w byte p left taken accepts kept = record {
  posted = p.posted ++ byte ∷ [];
  accepts = accepts ∙ ap (λ l. l ++ byte ∷ []) p.accepts ∙ append_assoc a p.posted (byte ∷ []);
  on = record {
    read = p.on.read;
    gives = subst (λ l. Consumes u.left l p.on.read) (sym left) p.on.gives;
    count = taken ∙ p.on.count;
    most = subst (λ n. n ≤ MOST) (sym taken) p.on.most;
    order = append_assoc p.posted (byte ∷ []) w.kept ∙ ap (λ l. p.posted ++ l) (sym kept) ∙ p.on.order;
  };
}

-- bytes were read, with nothing kept
pub Posts-read : (a : List ℕ) (u w : ConnectionState) → u.kept ≡ [] → Consumes u.left w.left w.kept
    → w.taken ≡ u.taken + length w.kept
    → w.taken ≤ MOST → Posts a a u w
Posts-read a u w none gives count most = record {
  posted = [];
  accepts = sym (append-nil a);
  on = record { read = w.kept; gives = gives; count = count; most = most; order = ap (λ l. l ++ w.kept) (sym none) };
}

-- first one such step, and then another
pub Posts-then : (a b c : List ℕ) (u v w : ConnectionState) → Posts a b u v → Posts b c v w → Posts a c u w
Posts-then a b c u v w p q = record {
  posted = p.posted ++ q.posted;
  accepts = q.accepts ∙ ap (λ l. l ++ q.posted) p.accepts ∙ append_assoc a p.posted q.posted;
  on = record {
    read = p.on.read ++ q.on.read;
    gives = Consumes-then u.left v.left w.left p.on.read q.on.read p.on.gives q.on.gives;
    count = omega (arith, p.on.count, q.on.count, length-append p.on.read q.on.read);
    most = q.on.most;
    order = append_assoc p.posted q.posted w.kept ∙ ap (λ l. p.posted ++ l) q.on.order
        ∙ sym (append_assoc p.posted v.kept q.on.read)
        ∙ ap (λ l. l ++ q.on.read) p.on.order ∙ append_assoc u.kept p.on.read q.on.read;
  };
}

-- Over turns

-- nothing is posted from a connection that begins
pub posted-beginning : (accepted : List ℕ) (left : Option (List ℕ)) (said : Option Heard) (watched : Bool) (now : ℕ)
    (v : ConnectionState) → v ≡ beginning left said watched now → HasPostedLast accepted v
posted-beginning accepted left said watched now v is = subst (HasPostedLast accepted) (sym is) (record {
  before = accepted;
  posted = [];
  accepts = sym (append-nil accepted);
  opening = left;
  first = record { gives = Consumes-none left; count = refl; most = omega arith };
})

posted-then : (opening : Option (List ℕ)) (posted more : List ℕ) (v w : ConnectionState) → HasPosted opening posted v
    → GoesOn more v w
    → HasPosted opening (posted ++ more) w
posted-then opening posted more v w h g =
    let same : (posted ++ more) ++ w.kept ≡ (posted ++ v.kept) ++ g.read =
    append_assoc posted more w.kept ∙ ap (λ l. posted ++ l) g.order ∙ sym (append_assoc posted v.kept g.read) in
    record {
      gives = subst (λ l. Consumes opening w.left l) (sym same)
          (Consumes-then opening v.left w.left (posted ++ v.kept) g.read h.gives g.gives);
      count = ap length same ∙ (omega (arith, length-append (posted ++ v.kept) g.read, h.count, g.count));
      most = g.most;
    }

-- a turn of the connection
pub posted-turn : (before after : List ℕ) (old new : ConnectionState) → Posts before after old new
    → HasPostedLast before old → HasPostedLast after new
posted-turn before after old new p h = record {
  before = h.before;
  posted = h.posted ++ p.posted;
  accepts = p.accepts ∙ ap (λ l. l ++ p.posted) h.accepts ∙ append_assoc h.before h.posted p.posted;
  opening = h.opening;
  first = posted-then h.opening h.posted p.posted old new h.first p.on;
}

pub posted-along : (opening : Option (List ℕ)) (posted : List ℕ) (turns : List (List ℕ)) (first last : ConnectionState)
    → HasPosted opening posted first
    → GoesOnAlong turns first last → HasPosted opening (posted ++ concat turns) last
posted-along opening posted [] first last h is =
    subst (λ v. HasPosted opening (posted ++ []) v) (sym is)
    (subst (λ l. HasPosted opening l first) (sym (append-nil posted)) h)
posted-along opening posted (more ∷ later) first last h on =
    let next = posted-along opening (posted ++ more) later on.0 last (posted-then opening posted more first on.0 h on.1)
    on.2 in
    subst (λ l. HasPosted opening l last) (append_assoc posted more (concat later)) next
