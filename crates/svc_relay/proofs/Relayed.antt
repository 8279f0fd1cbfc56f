-- How the counts of a relay continue.
use Rattle.std.proofs.Common.{◌≡◌, ℕ, ◌+◌, ◌<◌, ◌≤◌, List, [], ◌∷◌, ◌++◌, length, take, drop, Option, Some, None}
use Rattle.std.proofs.Common.{IfSome, refl, sym, ap, ◌∙◌, subst, arith, length-append, length-drop, append_assoc}
use Rattle.std.proofs.lemmas.List.{append-nil, drop-drop, drop-append-le, take-append-le, take-append-drop}
use Rattle.std.proofs.Math.Seq.{take-add, drop-length, length-take-le}
use Rattle.std.specs.Io.KnownBytes.{append_known}
use Rattle.std.specs.declared.alloc.Global.{Global}
use Rattle.tai_status.specs.Counted.{Rose}
use Rattle.svc_mail.specs.declared.letter.Letter.{Letter}
use Rattle.svc_mail.specs.declared.receiver.Receiver.{Receiver}
use Rattle.svc_mail.specs.Ends.{taken_by}
use Rattle.svc_relay.specs.declared.piece.Piece.{Piece}
use Rattle.svc_relay.specs.declared.turn.RelayTurn.{RelayTurn}
use Rattle.svc_relay.specs.declared.turn.RelayTurn.TheVariants.{Moved, Idle, Broken}
use Rattle.svc_relay.specs.Pieces.{bytes_of, bytes_in}
use Rattle.svc_relay.specs.Gathering.{Gathers}
use Rattle.svc_relay.specs.Passing.{Passing, IsBroken, IsCounted, IsRelay, IsRelayTurn, PutsAll, PutsMore, passing}
use Rattle.svc_relay.proofs.Joined.{bytes_in-one}

-- the facts of every relay
pub relay_facts : (receiver : Receiver Piece Global) (earlier here : ℕ) (waiting : List ℕ) (put : ℕ)
    (shown : Option (List ℕ)) (failures : ℕ)
    → IsCounted receiver earlier here waiting put shown
    → IsRelay (passing receiver earlier here waiting put shown failures)
relay_facts receiver earlier here waiting put shown failures counted =
    let taken = bytes_in (taken_by receiver) in record {
      taken = sym (take-append-drop (earlier + here) taken)
          ∙ ap (λ l. l ++ drop (earlier + here) taken) (take-add earlier here taken)
          ∙ ap (λ l. (take earlier taken ++ take here (drop earlier taken)) ++ l) counted.kept;
      shown = counted.life;
    }

-- more was taken

pub gathers_one : (first old new : Receiver Piece Global) (start before after bytes : List ℕ) (letter : Letter Piece)
    → Gathers first old start before
    → taken_by new ≡ taken_by old ++ letter ∷ [] → after ≡ before ++ bytes → bytes ≡ bytes_of letter.item
    → Gathers first new start after
gathers_one first old new start before after bytes letter h taken waits is = record {
  bytes = h.bytes ++ bytes_of letter.item;
  taken = ap (λ l. bytes_in l) taken ∙ bytes_in-one (taken_by old) letter ∙ ap (λ l. l ++ bytes_of letter.item) h.taken
      ∙ append_assoc (bytes_in (taken_by first)) h.bytes (bytes_of letter.item);
  waits = waits ∙ ap (λ l. before ++ l) is ∙ ap (λ l. l ++ bytes_of letter.item) h.waits
      ∙ append_assoc start h.bytes (bytes_of letter.item);
}

pub gathers_none : (receiver : Receiver Piece Global) (waiting : List ℕ) → Gathers receiver receiver waiting waiting
gathers_none receiver waiting = record {
  bytes = [];
  taken = sym (append-nil (bytes_in (taken_by receiver)));
  waits =
      sym (append-nil waiting);
}

pub gathers_then : (first old new : Receiver Piece Global) (start before after : List ℕ)
    → Gathers first old start before → Gathers old new before after
    → Gathers first new start after
gathers_then first old new start before after h k = record {
  bytes = h.bytes ++ k.bytes;
  taken = k.taken ∙ ap (λ l. l ++ k.bytes) h.taken ∙ append_assoc (bytes_in (taken_by first)) h.bytes k.bytes;
  waits = k.waits ∙ ap (λ l. l ++ k.bytes) h.waits ∙ append_assoc start h.bytes k.bytes;
}

same_fronts : (earlier here : ℕ) (taken bytes : List ℕ) → earlier + here ≤ length taken
    → take here (drop earlier (taken ++ bytes)) ≡ take here (drop earlier taken)
same_fronts earlier here taken bytes within =
    let first : earlier ≤ length taken = omega (arith, within) in
    let enough : here ≤ length (drop earlier taken) = omega (arith, within, length-drop earlier taken) in
    ap (λ l. take here l) (drop-append-le earlier taken bytes first)
    ∙ take-append-le here (drop earlier taken) bytes enough

pub filled_here : (earlier here : ℕ) (taken more bytes : List ℕ) → earlier + here ≤ length taken → more ≡ taken ++ bytes
    → take here (drop earlier more) ≡ take here (drop earlier taken)
filled_here earlier here taken more bytes within is = ap (λ l. take here (drop earlier l)) is
    ∙ same_fronts earlier here taken bytes within

pub filled : (old new : Receiver Piece Global) (earlier here : ℕ) (waiting after : List ℕ) (put : ℕ)
    (shown : Option (List ℕ))
    → drop put waiting ≡ [] → Gathers old new [] after → IsCounted old earlier here waiting put shown
    → IsCounted new earlier here after 0 shown
filled old new earlier here waiting after put shown none gathers counted =
    let taken = bytes_in (taken_by old) in
    let bytes = gathers.bytes in
    let same = gathers.taken in record {
      within = omega (arith, ap length same, length-append taken bytes, counted.within);
      front = omega arith;
      kept = ap (λ l. drop (earlier + here) l) same ∙ drop-append-le (earlier + here) taken bytes counted.within
          ∙ ap (λ l. l ++ bytes) (counted.kept ∙ none) ∙ sym gathers.waits;
      life = subst (λ (l : List ℕ). IfSome shown (λ b. b ≡ l))
          (sym (filled_here earlier here taken (bytes_in (taken_by new)) bytes counted.within same)) counted.life;
    }

-- bytes are put

put_life : (here count : ℕ) (from rest : List ℕ) (old new : Option (List ℕ)) → drop here from ≡ rest
    → new ≡ append_known old (take count rest)
    → IfSome old (λ b. b ≡ take here from) → IfSome new (λ b. b ≡ take (here + count) from)
put_life here count from rest None new is extended known =
    subst (λ (o : Option (List ℕ)). IfSome o (λ b. b ≡ take (here + count) from)) (sym extended) tt
put_life here count from rest (Some old) new is extended known =
    let all : old ++ take count rest ≡ take (here + count) from =
    ap (λ l. l ++ take count rest) known ∙ ap (λ l. take here from ++ take count l) (sym is)
    ∙ sym (take-add here count from) in
    subst (λ (o : Option (List ℕ)). IfSome o (λ b. b ≡ take (here + count) from)) (sym extended) all

-- what is kept, as a part of what was taken
kept_part : (earlier here : ℕ) (taken : List ℕ) → drop here (drop earlier taken) ≡ drop (earlier + here) taken
kept_part earlier here taken = drop-drop here earlier taken

pub puts_here : (receiver : Receiver Piece Global) (earlier here : ℕ) (waiting : List ℕ) (put : ℕ)
    (shown : Option (List ℕ)) (count : ℕ)
    → IsCounted receiver earlier here waiting put shown
    → take (here + count) (drop earlier (bytes_in (taken_by receiver)))
    ≡ take here (drop earlier (bytes_in (taken_by receiver))) ++ take count (drop put waiting)
puts_here receiver earlier here waiting put shown count counted =
    let taken = bytes_in (taken_by receiver) in
    take-add here count (drop earlier taken)
    ∙ ap (λ l. take here (drop earlier taken) ++ take count l) (kept_part earlier here taken ∙ counted.kept)

pub puts : (receiver : Receiver Piece Global) (earlier here : ℕ) (waiting : List ℕ) (put : ℕ)
    (shown after : Option (List ℕ)) (count : ℕ)
    → count ≤ length (drop put waiting) → after ≡ append_known shown (take count (drop put waiting))
    → IsCounted receiver earlier here waiting put shown
    → IsCounted receiver earlier (here + count) waiting (put + count) after
puts receiver earlier here waiting put shown after count few extended counted =
    let taken = bytes_in (taken_by receiver) in
    let sum : earlier + (here + count) ≡ earlier + here + count = omega arith in record {
      within = omega (arith, few, ap length counted.kept, length-drop (earlier + here) taken, counted.within);
      front = omega (arith, few, length-drop put waiting, counted.front);
      kept = ap (λ n. drop n taken) sum ∙ sym (drop-drop count (earlier + here) taken)
          ∙ ap (λ l. drop count l) counted.kept ∙ drop-drop count put waiting;
      life = put_life here count (drop earlier taken) (drop put waiting) shown after (kept_part earlier here taken
          ∙ counted.kept) extended counted.life;
    }

pub puts_more : (receiver : Receiver Piece Global) (earlier here : ℕ) (waiting : List ℕ) (put : ℕ)
    (shown after : Option (List ℕ)) (failures failed count : ℕ)
    → count ≤ length (drop put waiting) → after ≡ append_known shown (take count (drop put waiting))
    → IsCounted receiver earlier here waiting put shown
    → PutsMore (passing receiver earlier here waiting put shown failures) count
    (passing receiver earlier (here + count) waiting (put + count) after failed)
puts_more receiver earlier here waiting put shown after failures failed count few extended counted = record {
  bytes = take count (drop put waiting);
  here = puts_here receiver earlier here waiting put shown count counted;
  many = length-take-le count (drop put waiting) few;
  shown = extended;
}

pub puts_all : (receiver : Receiver Piece Global) (earlier here : ℕ) (waiting : List ℕ) (put : ℕ)
    (shown after : Option (List ℕ)) (failures failed count : ℕ)
    → count ≡ length (drop put waiting) → 0 < length (drop put waiting) → failed ≡ failures
    → after ≡ append_known shown (take count (drop put waiting)) → IsCounted receiver earlier here waiting put shown
    → PutsAll (passing receiver earlier here waiting put shown failures) count
    (passing receiver earlier (here + count) waiting (put + count) after failed)
puts_all receiver earlier here waiting put shown after failures failed count all some works extended counted = record {
  put = puts_more receiver earlier here waiting put shown after failures failed count (omega (arith, all)) extended
      counted;
  some = omega (arith, all, some);
  kept = sym (drop-drop count put waiting) ∙ ap (λ n. drop n (drop put waiting)) all ∙ drop-length (drop put waiting);
  works = works;
}

pub breaks : (receiver : Receiver Piece Global) (earlier here : ℕ) (waiting : List ℕ) (put : ℕ)
    (shown after : Option (List ℕ)) (failures failed count : ℕ)
    → count < length (drop put waiting) → Rose failures failed
    → after ≡ append_known shown (take count (drop put waiting)) → IsCounted receiver earlier here waiting put shown
    → IsBroken (passing receiver earlier here waiting put shown failures)
    (passing receiver earlier (here + count) waiting (put + count) after failed)
breaks receiver earlier here waiting put shown after failures failed count part rose extended counted = record {
  count = count;
  put = puts_more receiver earlier here waiting put shown after failures failed count (omega (arith, part)) extended
      counted;
  kept = omega (arith, part, length-drop put waiting, length-drop (put + count) waiting);
  failed = rose;
}

-- what an outlet shows after it took bytes and then more of them
pub known_more : (first old new : Option (List ℕ)) (bytes : List ℕ) (at count : ℕ)
    → old ≡ append_known first (take at bytes)
    → new ≡ append_known old (take count (drop at bytes)) → new ≡ append_known first (take (at + count) bytes)
known_more first old new bytes at count h k =
    k ∙ ap (λ o. append_known o (take count (drop at bytes))) h
    ∙ twice first (take at bytes) (take count (drop at bytes))
    ∙ ap (λ l. append_known first l) (sym (take-add at count bytes))
  where
    twice : (known : Option (List ℕ)) (xs ys : List ℕ) → append_known (append_known known xs) ys
        ≡ append_known known (xs ++ ys)
    twice None xs ys = refl
    twice (Some zs) xs ys = ap (λ l. Some l) (append_assoc zs xs ys)

-- a turn is a step that puts nothing, and then a step that puts what the first one keeps
more : (old mid new : Passing) (count : ℕ) → mid.here ≡ old.here → mid.shown ≡ old.shown → PutsMore mid count new
    → PutsMore old count new
more old mid new count here shown h = record {
  bytes = h.bytes;
  many = h.many;
  here = h.here ∙ ap (λ l. l ++ h.bytes) here;
  shown = h.shown ∙ ap (λ o. append_known o h.bytes) shown;
}

pub puts_kept : (old mid new : Passing) (turned : RelayTurn) → mid.here ≡ old.here → mid.shown ≡ old.shown
    → mid.failures ≡ old.failures → 0 < length mid.kept
    → IsRelayTurn mid turned new → IsRelayTurn old turned new
puts_kept old mid new (Moved count) here shown failures some h = record {
  put = more old mid new count here shown h.put;
  some = h.some;
  kept = h.kept;
  works = h.works ∙ failures;
}
puts_kept old mid new Idle here shown failures some h = absurd (omega (arith, some, ap length h.kept.0))
puts_kept old mid new Broken here shown failures some h = record {
  count = h.count;
  put = more old mid new h.count here shown h.put;
  kept = h.kept;
  failed = subst (λ (n : ℕ). Rose n new.failures) failures h.failed;
}

-- the next life begins

pub replaced : (receiver : Receiver Piece Global) (earlier here : ℕ) (waiting : List ℕ) (put : ℕ)
    (shown after : Option (List ℕ))
    → IfSome after (λ b. b ≡ []) → IsCounted receiver earlier here waiting put shown
    → IsCounted receiver (earlier + here) 0 waiting put after
replaced receiver earlier here waiting put shown after none counted =
    let taken = bytes_in (taken_by receiver) in
    let sum : earlier + here + 0 ≡ earlier + here = omega arith in record {
      within = omega (arith, counted.within);
      front = counted.front;
      kept = ap (λ n. drop n taken) sum ∙ counted.kept;
      life = none;
    }

pub drop_past : (n : ℕ) (xs : List ℕ) → length xs ≤ n → drop n xs ≡ []
drop_past n xs past = no_more (drop n xs) (omega (arith, past, length-drop n xs))
  where
    no_more : (ys : List ℕ) → length ys ≡ 0 → ys ≡ []
    no_more [] e = refl
    no_more (y ∷ ys) e = absurd (omega (arith, e))
