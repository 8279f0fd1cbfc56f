-- Parts whose events continue.
use Rattle.std.proofs.Common.{◌≡◌, true, ℕ, zero, suc, ◌<◌, List, [], ◌∷◌, ◌++◌, length, refl, sym, ap, ◌∙◌, subst}
use Rattle.std.proofs.Common.{append_assoc, append-nil, arith, slice_index_or, slice_set}
use mathlib.Core.List.{IsPrefix}
use Rattle.sup_core.specs.State.{State}
use Rattle.tai_status.specs.declared.phase.Phase.TheVariants as phase
use Rattle.sup_core.specs.declared.event.Event.{Event}
use Rattle.sup_core.specs.History.{History, Opened, Then, phase_of, state_of}
use Rattle.sup_core.specs.Runs.{AreTaken, followed_by}
use Rattle.sup_core.proofs.Laws.{AreTaken-concat, followed_by-append}
use Rattle.sup_trace.specs.Trace.{are_taken}
use Rattle.sup_trace.proofs.Taken.{AreTaken-are_taken}
use Rattle.svc_station.specs.declared.reader.Reader.{Reader}
use Rattle.svc_station.specs.Ends.{history_at, known_to, reader_opening, reader_station}
use Rattle.scan_table.specs.declared.part.PartId.{PartId}
use Rattle.svc_host.specs.Parts.{
  HostPart,
  PartGoesOn,
  HasPosted,
  AreEach,
  AreHeard,
  GoOn,
  IsHeard,
  IsHearing,
  IsRead,
  IsNowhere,
  IsPlace,
  IsPost,
  IsReading,
  Tells,
}
use Rattle.svc_host.specs.Parts.{history_of}

-- Nothing more of a history is known.
pub tells_none : (past : History) (known : List Event) → Tells past known known
tells_none past known = record { more = []; known = sym (append-nil known); taken = tt }

-- What a history takes after a first list of events is taken after that list.
taken_right : (past : History) (xs ys : List Event) → AreTaken past (xs ++ ys) → AreTaken (followed_by past xs) ys
taken_right past [] ys taken = taken
taken_right past (x ∷ xs) ys taken = taken_right (Then past x) xs ys taken.2

-- More known events of a history that is taken were each taken when they came.
pub tells_of : (machine : State) (old new : List Event) → IsPrefix old new → are_taken (Opened machine) new ≡ true
    → Tells (followed_by (Opened machine) old) old new
tells_of machine old new prefix taken = record {
  more = prefix.0;
  known = sym prefix.1;
  taken = taken_right (Opened machine) old prefix.0
      (AreTaken-are_taken (Opened machine) (old ++ prefix.0) (ap (are_taken (Opened machine)) prefix.1 ∙ taken));
}

-- the further events that a reader knows
pub reads_on : (old new : Reader) → reader_station new ≡ reader_station old → IsPrefix (known_to old) (known_to new)
    → Tells (history_at old) (known_to old) (known_to new)
reads_on old new same prefix =
    tells_of (reader_opening old) (known_to old) (known_to new) prefix
    (subst (λ machine. are_taken (Opened machine) (known_to new) ≡ true) (ap (λ origin. origin.opening) same)
    new.known.taken)

-- what is known later, and still later
pub tells_then : (machine : State) (xs ys zs : List Event) → Tells (followed_by (Opened machine) xs) xs ys
    → Tells (followed_by (Opened machine) ys) ys zs → Tells (followed_by (Opened machine) xs) xs zs
tells_then machine xs ys zs p q = record {
  more = p.more ++ q.more;
  known = q.known ∙ ap (λ l. l ++ q.more) p.known ∙ append_assoc xs p.more q.more;
  taken = AreTaken-concat (followed_by (Opened machine) xs) p.more q.more p.taken
      (subst (λ (past : History). AreTaken past q.more)
      (ap (followed_by (Opened machine)) p.known ∙ followed_by-append (Opened machine) xs p.more) q.taken);
}

-- the same for a reader that reads twice
pub reads_then : (a b c : Reader)
    → (reader_station b ≡ reader_station a) × Tells (history_at a) (known_to a) (known_to b)
    → (reader_station c ≡ reader_station b) × Tells (history_at b) (known_to b) (known_to c)
    → (reader_station c ≡ reader_station a) × Tells (history_at a) (known_to a) (known_to c)
reads_then a b c p q = (
  q.0 ∙ p.0,
  tells_then (reader_opening a) (known_to a) (known_to b) (known_to c) p.1
      (subst (λ machine. Tells (followed_by (Opened machine) (known_to b)) (known_to b) (known_to c))
      (ap (λ origin. origin.opening) p.0) q.1),
)

pub stays_same : (part : HostPart) → PartGoesOn part part
stays_same part = record {
  id = refl;
  opening = refl;
  adopted = refl;
  station = refl;
  known = tells_none (history_of part) part.known;
  mail = refl;
  end_bytes = refl;
}

pub is_heard_so : (part : HostPart) → IsHeard part part
is_heard_so part = record { goes_on = stays_same part; has_ended = refl; untaken = refl; loss = refl }

pub goes_on_then : (a b c : HostPart) → PartGoesOn a b → PartGoesOn b c → PartGoesOn a c
goes_on_then a b c p q =
    record {
      id = q.id ∙ p.id;
      opening = q.opening ∙ p.opening;
      adopted = q.adopted ∙ p.adopted;
      station = q.station ∙ p.station;
      known = tells_then a.station.opening a.known b.known c.known p.known
          (subst (λ machine. Tells (followed_by (Opened machine) b.known) b.known c.known)
          (ap (λ origin. origin.opening) p.station) q.known);
      mail = q.mail ∙ p.mail;
      end_bytes = q.end_bytes ∙ p.end_bytes;
    }

pub is_heard_then : (a b c : HostPart) → IsHeard a b → IsHeard b c → IsHeard a c
is_heard_then a b c p q = record {
  goes_on = goes_on_then a b c p.goes_on q.goes_on;
  has_ended = q.has_ended ∙ p.has_ended;
  untaken = q.untaken ∙ p.untaken;
  loss = q.loss ∙ p.loss;
}

-- Each of them

module _ (Changed : HostPart → HostPart → Type 0) (same : (part : HostPart) → Changed part part) where
  pub each_same : (parts : List HostPart) → AreEach Changed parts parts
  each_same [] = tt
  each_same (part ∷ parts) = (same part, each_same parts)

  pub one_changes : (parts : List HostPart) (place : ℕ) (new : HostPart)
      → ((d : HostPart) → Changed (slice_index_or parts place d) new) → AreEach Changed parts (slice_set parts place new)
  one_changes [] place new changed = tt
  one_changes (part ∷ parts) zero new changed = (changed part, each_same parts)
  one_changes (part ∷ parts) (suc place) new changed = (same part, one_changes parts place new changed)

module _ (Changed : HostPart → HostPart → Type 0)
    (further : (a b c : HostPart) → Changed a b → Changed b c → Changed a c) where
  pub each_then : (xs ys zs : List HostPart) → AreEach Changed xs ys → AreEach Changed ys zs → AreEach Changed xs zs
  each_then [] [] [] p q = tt
  each_then [] (y ∷ ys) zs p q = absurd p
  each_then [] [] (z ∷ zs) p q = absurd q
  each_then (x ∷ xs) [] zs p q = absurd p
  each_then (x ∷ xs) (y ∷ ys) [] p q = absurd q
  each_then (x ∷ xs) (y ∷ ys) (z ∷ zs) p q = (further x y z p.0 q.0, each_then xs ys zs p.1 q.1)

pub each_so : (P Q : HostPart → HostPart → Type 0) → ((old new : HostPart) → P old new → Q old new)
    → (olds news : List HostPart) → AreEach P olds news → AreEach Q olds news
each_so P Q so [] [] each = tt
each_so P Q so [] (new ∷ news) each = absurd each
each_so P Q so (old ∷ olds) [] each = absurd each
each_so P Q so (old ∷ olds) (new ∷ news) each = (so old new each.0, each_so P Q so olds news each.1)

pub all_same : (parts : List HostPart) → GoOn parts parts
all_same = each_same PartGoesOn stays_same

pub go_on_then : (xs ys zs : List HostPart) → GoOn xs ys → GoOn ys zs → GoOn xs zs
go_on_then = each_then PartGoesOn goes_on_then

pub one_goes_on : (parts : List HostPart) (place : ℕ) (new : HostPart)
    → ((d : HostPart) → PartGoesOn (slice_index_or parts place d) new) → GoOn parts (slice_set parts place new)
one_goes_on = one_changes PartGoesOn stays_same

pub none_heard : (parts : List HostPart) → AreHeard parts parts
none_heard = each_same IsHeard is_heard_so

pub heard_then : (xs ys zs : List HostPart) → AreHeard xs ys → AreHeard ys zs → AreHeard xs zs
heard_then = each_then IsHeard is_heard_then

pub one_heard : (parts : List HostPart) (place : ℕ) (new : HostPart)
    → ((d : HostPart) → IsHeard (slice_index_or parts place d) new) → AreHeard parts (slice_set parts place new)
one_heard = one_changes IsHeard is_heard_so

-- what the others are then
pub others_stay : (parts : List HostPart) (place : ℕ) (new : HostPart) (k : ℕ) (d : HostPart) → place < k
    → slice_index_or (slice_set parts place new) k d ≡ slice_index_or parts k d
others_stay [] place new k d less = refl
others_stay (part ∷ parts) zero new zero d less = absurd (omega arith)
others_stay (part ∷ parts) zero new (suc k) d less = refl
others_stay (part ∷ parts) (suc place) new zero d less = refl
others_stay (part ∷ parts) (suc place) new (suc k) d less = others_stay parts place new k d (omega arith)

-- what is at the place then
pub here_then : (parts : List HostPart) (place : ℕ) (new d : HostPart) → place < length parts
    → slice_index_or (slice_set parts place new) place d ≡ new
here_then [] place new d within = absurd (omega arith)
here_then (part ∷ parts) zero new d within = refl
here_then (part ∷ parts) (suc place) new d within = here_then parts place new d (omega arith)

pub set_length : (parts : List HostPart) (place : ℕ) (new : HostPart) → length (slice_set parts place new)
    ≡ length parts
set_length [] place new = refl
set_length (part ∷ parts) zero new = refl
set_length (part ∷ parts) (suc place) new = ap suc (set_length parts place new)

pub step_heard : (parts : List HostPart) (place : ℕ) (news : List HostPart) → IsHearing parts place news
    → AreHeard parts news
step_heard parts place news step =
    subst (AreHeard parts) (sym step.parts) (one_heard parts place step.part step.changed)

pub reads : (id : PartId) (parts : List HostPart) (place : ℕ) (news : List HostPart) (machine : State)
    → IsPlace id parts place
    → IsHearing parts place news → ((d : HostPart) → machine ≡ state_of (history_of (slice_index_or news place d)))
    → ((d : HostPart) → (slice_index_or news place d).has_ended ≡ true
    → phase_of (history_of (slice_index_or news place d)) ≡ phase.Gone)
    → IsReading id news machine.status
reads id parts place news machine at step reading gone =
    record {
      part = step.part;
      is = record {
        place = place;
        within = subst (λ n. place < n) (sym (ap length step.parts ∙ set_length parts place step.part)) at.within;
        here = here;
        is = (step.changed step.part).goes_on.id ∙ at.here step.part;
      };
      reading = ap (λ m. m.status) (reading step.part ∙ ap (λ part. state_of (history_of part)) (here step.part));
      gone = subst (λ (part : HostPart). part.has_ended ≡ true → phase_of (history_of part) ≡ phase.Gone)
          (here step.part)
          (gone step.part);
    }
  where
    here : (d : HostPart) → slice_index_or news place d ≡ step.part
    here d = ap (λ l. slice_index_or l place d) step.parts ∙ here_then parts place step.part d at.within

pub posts : (id : PartId) (parts : List HostPart) (place : ℕ) (byte : ℕ) (new : HostPart) → IsPlace id parts place
    → ((d : HostPart) → HasPosted (slice_index_or parts place d) byte new)
    → IsPost parts id byte (slice_set parts place new)
posts id parts place byte new at has =
    record { place = place; part = new; here = has; is = (has new).id ∙ at.here new; parts = refl }

-- what is at a place, whatever the default
pub same_default : (parts : List HostPart) (place : ℕ) (d e : HostPart) → place < length parts
    → slice_index_or parts place d ≡ slice_index_or parts place e
same_default [] place d e within = absurd (omega (arith, within))
same_default (part ∷ parts) zero d e within = refl
same_default (part ∷ parts) (suc place) d e within = same_default parts place d e (omega (arith, within))
