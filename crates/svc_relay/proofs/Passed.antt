-- From an intake through a mailbox with one sender to a relay.
use Rattle.std.proofs.Common.{◌≡◌, ℕ, eq-eqb, cond, List, [], ◌∷◌, ◌++◌, map, Option, Some, None, IfSome, refl, ap, ◌∙◌}
use Rattle.std.proofs.Common.{subst, arith, append_assoc}
use Rattle.std.specs.Io.KnownBytes.{Consumes}
use Rattle.svc_mail.specs.declared.letter.Letter.{Letter}
use Rattle.svc_mail.specs.History.{of_sender, row_of, IsAmong}
use Rattle.svc_mail.specs.Ends.{number_of, posted, taken_by}
use Rattle.svc_mail.proofs.Lengths.{sender_below, among_rest}
use Rattle.svc_relay.specs.declared.piece.Piece.{Piece}
use Rattle.svc_relay.specs.Pieces.{joined, bytes_in}
use Rattle.svc_relay.specs.Carrying.{Carrying, as_list}
use Rattle.svc_relay.specs.Passing.{Passing}
use Rattle.svc_relay.specs.Whole.{Begins, IsJoined, bytes_between, bytes_put, bytes_read}
use Rattle.svc_relay.proofs.Joined.{joined-append, bytes_in-append}

-- all letters are from the one sender
alone : {T : Type 0} (log : List (Letter T)) → IsAmong 1 log → row_of 0 log ≡ map (λ l. l.item) log
alone [] among = refl
alone (x ∷ log) among =
    let below = sender_below 1 x log among in
    let first : x.sender ≡ 0 = omega (arith, below) in
    ap (λ b. map (λ l. l.item) (cond b (x ∷ of_sender 0 log) (of_sender 0 log))) (eq-eqb x.sender 0 first)
    ∙ ap (λ l. x.item ∷ l) (alone log (among_rest 1 x log among))

-- what was posted is the letters taken, followed by those left
pub posted_all : (intake : Carrying) (relay : Passing) (left : List (Letter Piece)) → IsJoined intake relay left
    → joined (posted intake.sender) ≡ bytes_in (taken_by relay.receiver) ++ bytes_in left
posted_all intake relay left joins =
    let log = taken_by relay.receiver ++ left in
    let row : posted intake.sender ≡ row_of (number_of intake.sender) log =
    (joins.closed.rows 0 intake.sender refl).0 in
    let among : IsAmong 1 log = subst (λ (n : ℕ). IsAmong n log) joins.alone joins.closed.among in
    ap joined (row ∙ ap (λ k. row_of k log) joins.number ∙ alone log among)
    ∙ bytes_in-append (taken_by relay.receiver) left

pub between : (intake : Carrying) (relay : Passing) (left : List (Letter Piece)) → IsJoined intake relay left
    → bytes_read intake ≡ bytes_put relay ++ bytes_between intake relay left
between intake relay left joins =
    let put = bytes_put relay in
    let rest = joined (as_list intake.kept) in
    let kept = relay.kept in
    let letters = bytes_in left in
    joined-append (posted intake.sender) (as_list intake.kept)
    ∙ ap (λ l. l ++ rest) (posted_all intake relay left joins)
    ∙ ap (λ l. (l ++ letters) ++ rest) joins.takes.taken ∙ ap (λ l. l ++ rest) (append_assoc put kept letters)
    ∙ append_assoc put (kept ++ letters) rest

pub lives : (intake : Carrying) (relay : Passing) (left : List (Letter Piece)) → IsJoined intake relay left
    → Begins (bytes_put relay) (bytes_read intake)
lives intake relay left joins = (bytes_between intake relay left, between intake relay left joins)

begins_all : (opening reader : Option (List ℕ)) (front read : List ℕ) → Consumes opening reader read → Begins front read
    → IfSome opening (λ all. Begins front all)
begins_all None reader front read h b = tt
begins_all (Some all) None front read h b = absurd h
begins_all (Some all) (Some rest) front read h b =
    (b.0 ++ rest, h ∙ ap (λ l. l ++ rest) b.1 ∙ append_assoc front b.0 rest)

pub service : (intake : Carrying) (relay : Passing) (left : List (Letter Piece)) → IsJoined intake relay left
    → IfSome intake.opening.bytes (λ written. Begins (bytes_put relay) written)
service intake relay left joins =
    begins_all intake.opening.bytes intake.reader.bytes (bytes_put relay) (bytes_read intake) joins.posts
    (lives intake relay left joins)
