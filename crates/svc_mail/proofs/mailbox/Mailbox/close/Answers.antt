use Rattle.std.proofs.Common.{◌≡◌, ℕ, ◌<◌, ◌≤◌, [], ◌++◌, map, vec_capacity, ap, sym, ◌∙◌, subst}
use mathlib.Core.Option.{some}
use Rattle.crossbeam_queue.specs.Passes.{view, ruled_capacity}
use Rattle.svc_mail.specs.Kept.{taker, IsSettled, IsWhole}
use Rattle.svc_mail.specs.Ends.{record_of, posted, seen_by, IsWholeHistory}
use Rattle.svc_mail.proofs.Lists.{get_map}
use Rattle.svc_mail.proofs.Told.{settles}
use Rattle.svc_mail.proofs.mailbox.Mailbox.close.Goals as goal

pub join_senders-requires-clause-pass : goal.join_senders-requires-clause-pass
join_senders-requires-clause-pass g c = (
  ap (λ m. m.table_id) c.into_mark-mark.ensures.mark ∙ c.requires.receiver.0
      ∙ ap (λ q. q.table.shared.table_id) (sym c.deref.ensures),
  c.into_mark-mark.ensures.whole,
)

pub join_senders-requires-clause-knows : goal.join_senders-requires-clause-knows
join_senders-requires-clause-knows g c =
    let w = view c.into_mark-mark.result in
    let made = sym (ap (λ v. v.made) c.into_mark-mark.ensures.knows) in
    c.into_mark-mark.ensures.knows ∙ (λ i. taker w.all (made i) w.taken [] w.seen w.heard)

pub join_senders-requires-clause-senders : goal.join_senders-requires-clause-senders
join_senders-requires-clause-senders g c = λ k d lt.
    c.requires.senders.0 k d lt ∙ ap (λ q. q.table.shared.table_id) (sym c.deref.ensures)

pub drain-letters-requires-clause-pass : goal.drain-letters-requires-clause-pass
drain-letters-requires-clause-pass g c = (
  c.join_senders.ensures.pass.0 ∙ ap (λ q. q.table.shared.table_id) (c.deref.ensures ∙ sym c.deref-2.ensures),
  c.join_senders.ensures.pass.1,
)

pub drain-letters-requires-clause-room : goal.drain-letters-requires-clause-room
drain-letters-requires-clause-room g c = (
  c.in-Ok.ensures.0,
  subst (λ q. ruled_capacity q ≤ vec_capacity c.in-Ok.room) (sym c.deref-2.ensures)
      c.in-Ok.ensures.1,
)

pub drain-letters-requires-clause-knows : goal.drain-letters-requires-clause-knows
drain-letters-requires-clause-knows g c =
    let ss = c.args.senders.items in
    let v = view c.args.receiver.mark in
    let k = c.join_senders.ensures.knows in
    let w = view c.into_mark-mark.result in
    let same = ap view c.into_mark-mark.ensures.mark in
    let known = taker w.all w.made w.taken (map record_of ss) w.seen w.heard in (
      k ∙ (λ i. taker (sym k i).all (sym k i).made (sym k i).taken (sym k i).ended (sym k i).seen (sym k i).heard),
      subst IsSettled (sym k) (settles known (λ n lt.
          let at = c.requires.senders.1 n
          (subst (λ (m : ℕ). n < m) (ap (λ u. u.all) same ∙ c.requires.receiver.1) lt) in (
            at.0,
            posted at.1,
            seen_by at.1,
            get_map record_of ss at.0 at.1 at.2
                ∙ ap (λ m. some (m, posted at.1, seen_by at.1)) at.3,
          ))),
    )

pub returns-clause-left : goal.returns-clause-left
returns-clause-left g c =
    let ss = c.args.senders.items in
    let r = c.args.receiver in
    let k = c.join_senders.ensures.knows in
    let same = ap view c.into_mark-mark.ensures.mark in
    let left = c.drain-letters.result.items in
    let is : view c.join_senders.new.mark
    ≡ taker (view r.mark).all (view r.mark).made (view r.mark).taken (map record_of ss) (view r.mark).seen
    (view r.mark).heard = k ∙ ap (λ u. taker u.all u.made u.taken (map record_of ss) u.seen u.heard) same in
    let whole = subst (λ u. IsWhole u (u.taken ++ left)) is c.drain-letters.ensures in
    let log = (view r.mark).taken ++ left in
    let known : IsWholeHistory ss r log =
    record {
      places = whole.0;
      among = whole.1;
      seen = whole.2;
      rows =
          λ i s at. whole.3 i s.number (posted s) (seen_by s) (get_map record_of ss i s at);
    } in
    subst (λ l. IsWholeHistory ss r ((view r.mark).taken ++ l)) (sym c.from_vec.ensures) known
