-- Line by line through an input.
use Rattle.std.proofs.Common.{◌≡◌, ◌↔◌, ℕ, ◌+◌, ◌-◌, ◌≤◌, ◌<◌, Bool, true, false, ◌==◌, List, [], ◌∷◌, ◌++◌, length}
use Rattle.std.proofs.Common.{length-append, take, drop, map, Option, Some, None, Result, Ok, Err, refl, sym, subst, ap}
use Rattle.std.proofs.Common.{◌∙◌, arith, append_assoc, append-nil}
use Rattle.std.proofs.lemmas.Grind.{flat_map-append}
use Rattle.sup_core.specs.Text.{table_text}
use Rattle.cmd_sim.specs.declared.answering.Subject.{Subject}
use Rattle.cmd_sim.specs.declared.answering.Subject.TheVariants as code
use Rattle.cmd_sim.specs.declared.fault.Why.{Why}
use Rattle.cmd_sim.specs.declared.fault.Why.TheVariants as why
use Rattle.std.specs.Prelude.{flat_map}
use Rattle.std.proofs.Common.{get_or, add-one, inl, inr}
use Rattle.std.proofs.Math.Seq.{take-suc, take-length}
use Rattle.std.proofs.lemmas.List.{take-append-le, take_more, map_push, map-append, take-append-drop}
use Rattle.cmd_sim.specs.declared.fault.SimFault.{SimFault}
use Rattle.cmd_sim.specs.declared.fault.SimFault.TheVariants as sim
use Rattle.tai_status.specs.Counted.{Device, Works, Reports}
use Rattle.cmd_base.specs.Console.{Console}
use Rattle.cmd_base.specs.Printed.{printed}
use Rattle.cmd_sim.specs.Ends.{status_of, report_of, AnswersByStatus, SimCause}
use Rattle.cmd_sim.specs.Sim.{begins_suite, IsOfSuite, Past, Nothing, Said, said, answers, first_refused, Refusal}
use Rattle.cmd_sim.specs.Sim.{both_sides, printed_for, refused_in, ReadsNear, AnswersUpTo, AnswersWhole, AnswersBefore}
use Rattle.cmd_sim.specs.Sim.{AnswersPart, AnswersLines, MayWantMemory, MissesAt}
use Rattle.cmd_sim.specs.Progress.{Answered, SoFar, text_said, is_suite_line}
use Rattle.std.specs.Io.KnownBytes.{Appends, Consumes, Keeps, IsAtEnd}
use Rattle.tai_status.specs.Counted.{AppendsFront}
use Rattle.tai_status.specs.Block.{Emits}
use Rattle.tai_status.specs.Lines.{texts_of}
use Rattle.std.specs.Prelude.{IsErrOf, OnOk, OnErr}
use Rattle.tai_status.specs.LineReader.{Given, IsPlain, TakesLine, Fills}
use Rattle.std.specs.List.{onto_first}
use Rattle.cmd_sim.proofs.Answered.{is_suite_line-said, lacks_suite}
use Rattle.tai_status.proofs.Known.{Keeps-same, Appends-nothing, Emits-none, Emits-then, Emits-front, AppendsFront-more}
use Rattle.tai_status.proofs.Known.{AppendsFront-first}
use Rattle.tai_status.proofs.Texts.{texts_of-line, texts_of-last}

-- Texts

printed-append : (xs ys : List (List ℕ)) → printed (xs ++ ys) ≡ printed xs ++ printed ys
printed-append [] ys = refl
printed-append (x ∷ xs) ys = ap (λ (t : List ℕ). (x ++ 10 ∷ []) ++ t) (printed-append xs ys)
    ∙ sym (append_assoc (x ++ 10 ∷ []) (printed xs) (printed ys))

printed-then : (texts : List (List ℕ)) (text : List ℕ) → printed (texts ++ text ∷ []) ≡ printed texts
    ++ (text ++ 10 ∷ [])
printed-then texts text = printed-append texts (text ∷ [])
    ∙ ap (λ (t : List ℕ). printed texts ++ t) (append-nil (text ++ 10 ∷ []))

pub Consumes-nothing : (a : Option (List ℕ)) → Consumes a a []
Consumes-nothing None = tt
Consumes-nothing (Some xs) = refl

-- Answers, line by line

pub answers-said : (past : Past) (line : List ℕ) (later : List (List ℕ)) (answer : Said) → said past line ≡ Ok answer
    → answers past (line ∷ later) ≡ answer.texts ++ answers answer.past later
answers-said past line later answer e = rw (e, answers) refl

pub answers-refused : (past : Past) (line : List ℕ) (later : List (List ℕ)) (why : Why) → said past line ≡ Err why
    → answers past (line ∷ later) ≡ []
answers-refused past line later why e = rw (e, answers) refl

pub first_refused-said : (n : ℕ) (past : Past) (line : List ℕ) (later : List (List ℕ)) (answer : Said)
    → said past line ≡ Ok answer
    → first_refused n past (line ∷ later) ≡ first_refused (n + 1) answer.past later
first_refused-said n past line later answer e = rw (e, first_refused) refl

pub first_refused-refused : (n : ℕ) (past : Past) (line : List ℕ) (later : List (List ℕ)) (why : Why)
    → said past line ≡ Err why
    → first_refused n past (line ∷ later) ≡ Some (record { line = n; why = why })
first_refused-refused n past line later why e = rw (e, first_refused) refl

-- Progress

pub SoFar-none : {B : Type 0} (before held : Option (List ℕ))
    → SoFar {A = B} before before held held [] [] code.Nothing 0
SoFar-none before held = record {
  done = [];
  lines = [];
  texts = [];
  past = Nothing;
  read = Consumes-nothing before;
  whole = refl;
  counted = refl;
  cut = λ more. refl;
  says = λ later. refl;
  refuses = λ later. refl;
  text = Emits-none held held [] (Keeps-same held);
  stands = tt;
  suite = λ line later is. is;
}

-- One more line.
pub SoFar-line : {before now held holds holds2 : Option (List ℕ)} {pending waiting waiting2 : List ℕ} {B : Type 0}
    {subject subject2 : Subject B} {count : ℕ}
    (s : SoFar before now held holds pending waiting subject count) (line rest : List ℕ) → pending ≡ line ++ 10 ∷ rest
    → IsPlain line
    → Answered s.past line subject2 holds holds2 waiting waiting2
    → SoFar before now held holds2 rest waiting2 subject2 (count + 1)
SoFar-line {before} {now} {held} {holds2 = holds2} {waiting2 = waiting2} {count = count} s line rest whole plain a =
    let joined : (more : List ℕ) → (s.done ++ (line ++ 10 ∷ [])) ++ more ≡ s.done ++ (line ++ 10 ∷ more) =
    λ more. append_assoc s.done (line ++ 10 ∷ []) more
    ∙ ap (λ (t : List ℕ). s.done ++ t) (append_assoc line (10 ∷ []) more) in
    record {
      done = s.done ++ (line ++ 10 ∷ []);
      lines = s.lines ++ line ∷ [];
      texts = s.texts ++ a.answer.texts;
      past = a.answer.past;
      read = subst (λ (t : List ℕ). Consumes before now t) (ap (λ (t : List ℕ). s.done ++ t) whole ∙ sym (joined rest))
          s.read;
      whole = ap (λ (t : List ℕ). t ++ (line ++ 10 ∷ [])) s.whole ∙ sym (printed-then s.lines line);
      counted = let n = s.counted in let m = length-append s.lines (line ∷ []) in omega (arith, n, m);
      cut = λ more.
          ap texts_of (joined more) ∙ s.cut (line ++ 10 ∷ more)
          ∙ ap (λ (t : List (List ℕ)). s.lines ++ t) (texts_of-line line more plain)
          ∙ sym (append_assoc s.lines (line ∷ []) (texts_of more));
      says = λ later.
          ap (answers Nothing) (append_assoc s.lines (line ∷ []) later) ∙ s.says (line ∷ later)
          ∙ ap (λ (t : List (List ℕ)). s.texts ++ t) (answers-said s.past line later a.answer a.is)
          ∙ sym (append_assoc s.texts a.answer.texts (answers a.answer.past later));
      refuses = λ later.
          ap (first_refused 1 Nothing) (append_assoc s.lines (line ∷ []) later) ∙ s.refuses (line ∷ later)
          ∙ first_refused-said (count + 1) s.past line later a.answer a.is;
      text = subst (λ (t : List ℕ). Emits held holds2 [] waiting2 t) (sym (printed-append s.texts a.answer.texts))
          (Emits-then s.text a.text);
      stands = a.stands;
      suite = λ next later is.
          ap begins_suite (append_assoc s.lines (line ∷ []) (next ∷ later))
          ∙ s.suite line (next ∷ later) (sym (is_suite_line-said s.past line next a.answer a.is) ∙ is);
    }

-- What comes after the lines so far

SoFar-printed : {before now held holds : Option (List ℕ)} {pending waiting : List ℕ} {B : Type 0} {subject : Subject B}
    {count : ℕ}
    (s : SoFar before now held holds pending waiting subject count) (more : List ℕ)
    → printed_for (s.done ++ more) ≡ printed s.texts ++ printed (answers s.past (texts_of more))
SoFar-printed s more =
    ap (λ (t : List (List ℕ)). printed (answers Nothing t)) (s.cut more)
    ∙ ap printed (s.says (texts_of more)) ∙ printed-append s.texts (answers s.past (texts_of more))

SoFar-refused_in : {before now held holds : Option (List ℕ)} {pending waiting : List ℕ} {B : Type 0}
    {subject : Subject B}
    {count : ℕ}
    (s : SoFar before now held holds pending waiting subject count) (more : List ℕ)
    → refused_in (s.done ++ more) ≡ first_refused (count + 1) s.past (texts_of more)
SoFar-refused_in s more = ap (first_refused 1 Nothing) (s.cut more) ∙ s.refuses (texts_of more)

-- Writes

Emits-written : {a b c : Option (List ℕ)} {waiting xs : List ℕ} → Emits a b [] waiting xs → Appends b c waiting
    → Emits a c [] [] xs
Emits-written {a} {b} {c} {waiting} {xs} e w =
    let last : Emits b c waiting [] [] = record { written = waiting; wrote = w; whole = refl } in
    subst (λ (t : List ℕ). Emits a c [] [] t) (append-nil xs) (Emits-then e last)

Appends-emitted : {a b : Option (List ℕ)} {xs : List ℕ} → Emits a b [] [] xs → Appends a b xs
Appends-emitted {a} {b} {xs} e = subst (λ (t : List ℕ). Appends a b t) (sym (append-nil e.written) ∙ e.whole) e.wrote

-- The answers that waited were written.
pub SoFar-flush : {before now held holds holds2 : Option (List ℕ)} {pending waiting : List ℕ} {B : Type 0}
    {subject : Subject B} {count : ℕ}
    → SoFar before now held holds pending waiting subject count → Appends holds holds2 waiting
    → SoFar before now held holds2 pending [] subject count
SoFar-flush s w = record {
  done = s.done;
  lines = s.lines;
  texts = s.texts;
  past = s.past;
  read = s.read;
  whole = s.whole;
  counted = s.counted;
  cut = s.cut;
  says = s.says;
  refuses = s.refuses;
  text = Emits-written s.text w;
  stands = s.stands;
  suite = s.suite;
}

-- A write failed, after a prefix of the answers that wait and of those that come next.
front_of : {before now held holds holds2 : Option (List ℕ)} {pending waiting : List ℕ} {B : Type 0}
    {subject : Subject B}
    {count : ℕ}
    (s : SoFar before now held holds pending waiting subject count) (next rest : List ℕ)
    → AppendsFront holds holds2 (waiting ++ next)
    → printed (answers s.past (texts_of pending)) ≡ next ++ rest → AnswersPart before now held holds2
front_of {held = held} {holds2 = holds2} {pending = pending} s next rest f is = record {
  bytes = s.done ++ pending;
  read = s.read;
  text = subst (λ (t : List ℕ). AppendsFront held holds2 t)
      (append_assoc (printed s.texts) next rest ∙ ap (λ (t : List ℕ). printed s.texts ++ t) (sym is)
      ∙ sym (SoFar-printed s pending))
      (AppendsFront-more rest (Emits-front next s.text f));
}

pub SoFar-unflushed : {before now held holds holds2 : Option (List ℕ)} {pending waiting : List ℕ} {B : Type 0}
    {subject : Subject B} {count : ℕ}
    → SoFar before now held holds pending waiting subject count → AppendsFront holds holds2 waiting
    → AnswersPart before now held holds2
SoFar-unflushed {holds = holds} {holds2 = holds2} {pending = pending} {waiting = waiting} s f =
    front_of s [] (printed (answers s.past (texts_of pending)))
    (subst (λ (t : List ℕ). AppendsFront holds holds2 t) (sym (append-nil waiting)) f) refl

printed_by : (past : Past) (line : List ℕ) (later : List (List ℕ)) (subject : Result Said Why)
    → said past line ≡ subject
    → (rest : List ℕ) × (printed (answers past (line ∷ later)) ≡ text_said subject ++ rest)
printed_by past line later (Ok answer) e = (
  printed (answers answer.past later),
  ap printed (answers-said past line later answer e) ∙ printed-append answer.texts (answers answer.past later),
)
printed_by past line later (Err why) e = ([], ap printed (answers-refused past line later why e))

-- A line was not written, or the answers before it were not.
unwritten : {before now held holds holds2 : Option (List ℕ)} {pending waiting : List ℕ} {B : Type 0}
    {subject : Subject B}
    {count : ℕ}
    (s : SoFar before now held holds pending waiting subject count) (line : List ℕ) (later : List (List ℕ))
    → texts_of pending ≡ line ∷ later
    → AppendsFront holds holds2 (waiting ++ text_said (said s.past line)) → AnswersPart before now held holds2
unwritten s line later cut f =
    let all = printed_by s.past line later (said s.past line) refl in
    front_of s (text_said (said s.past line)) all.0 f (ap (λ (t : List (List ℕ)). printed (answers s.past t)) cut
    ∙ all.1)

pub SoFar-unwritten : {before now held holds holds2 : Option (List ℕ)} {pending waiting : List ℕ} {B : Type 0}
    {subject : Subject B} {count : ℕ}
    (s : SoFar before now held holds pending waiting subject count) (line rest : List ℕ) → pending ≡ line ++ 10 ∷ rest
    → IsPlain line
    → AppendsFront holds holds2 (waiting ++ text_said (said s.past line)) → AnswersPart before now held holds2
SoFar-unwritten s line rest whole plain f =
    unwritten s line (texts_of rest) (ap texts_of whole ∙ texts_of-line line rest plain) f

pub SoFar-rest_unwritten : {before now held holds holds2 : Option (List ℕ)} {pending waiting : List ℕ} {B : Type 0}
    {subject : Subject B} {count : ℕ}
    (s : SoFar before now held holds pending waiting subject count) → 0 < length pending → IsPlain pending
    → AppendsFront holds holds2 (waiting ++ text_said (said s.past pending)) → AnswersPart before now held holds2
SoFar-rest_unwritten {pending = pending} s some plain f = unwritten s pending [] (texts_of-last pending some plain) f

-- Reads

Consumes-then : (a b c : Option (List ℕ)) (bs cs : List ℕ) → Consumes a b bs → Consumes b c cs → Consumes a c (bs ++ cs)
Consumes-then None b c bs cs k l = tt
Consumes-then (Some xs) None c bs cs k l = absurd k
Consumes-then (Some xs) (Some ys) None bs cs k l = absurd l
Consumes-then (Some xs) (Some ys) (Some zs) bs cs k l = k ∙ ap (λ (t : List ℕ). bs ++ t) l ∙ sym (append_assoc bs cs zs)

Consumes-kept : (a b c : Option (List ℕ)) (bs : List ℕ) → Consumes a b bs → Keeps b c → Consumes a c bs
Consumes-kept None b c bs k l = tt
Consumes-kept (Some xs) None c bs k l = absurd k
Consumes-kept (Some xs) (Some ys) None bs k l = absurd l
Consumes-kept (Some xs) (Some ys) (Some zs) bs k l = k ∙ ap (λ (t : List ℕ). bs ++ t) (sym l)

-- More bytes are pending.
pub SoFar-filled : {before held holds : Option (List ℕ)} {now after : Device} {waiting : List ℕ} {B : Type 0}
    {subject : Subject B} {count : ℕ} {old new : Given}
    → SoFar before now.bytes held holds old.pending waiting subject count → Fills now after old new
    → SoFar before after.bytes held holds new.pending waiting subject count
SoFar-filled {before} {now = now} {after = after} {old = old} {new = new} s f = record {
  done = s.done;
  lines = s.lines;
  texts = s.texts;
  past = s.past;
  whole = s.whole;
  counted = s.counted;
  read = subst (λ (t : List ℕ). Consumes before after.bytes t) (append_assoc s.done old.pending f.bytes
      ∙ ap (λ (t : List ℕ). s.done ++ t) (sym f.pending))
      (Consumes-then before now.bytes after.bytes (s.done ++ old.pending) f.bytes s.read f.read);
  cut = s.cut;
  says = s.says;
  refuses = s.refuses;
  text = s.text;
  stands = s.stands;
  suite = s.suite;
}

take-length_append : (xs ys : List (List ℕ)) (n : ℕ) → n ≡ length xs → take n (xs ++ ys) ≡ xs
take-length_append xs ys n e = rw e (take-append-le (length xs) xs ys (omega arith) ∙ take-length xs)

-- What was read is the lines so far, followed by the pending bytes.
pub SoFar-near : {before now held holds : Option (List ℕ)} {pending waiting : List ℕ} {B : Type 0} {subject : Subject B}
    {count : ℕ} (number : ℕ)
    → SoFar before now held holds pending waiting subject count → length pending ≤ 98304 → number ≡ count + 1
    → ReadsNear before now number
SoFar-near {pending = pending} {count = count} number s small is =
    let lines : take (number - 1) (texts_of (s.done ++ pending)) ≡ s.lines =
    ap (take (number - 1)) (s.cut pending)
    ∙ take-length_append s.lines (texts_of pending) (number - 1) (let n = s.counted in omega (arith, n, is)) in
    let front : length s.done ≡ length (printed (take (number - 1) (texts_of (s.done ++ pending)))) =
    ap length s.whole ∙ ap (λ (t : List (List ℕ)). length (printed t)) (sym lines) in
    let all = length-append s.done pending in
    record { bytes = s.done ++ pending; read = s.read; near = omega (arith, all, front, small) }

-- A read gave nothing.
pub SoFar-kept : {before now after held holds : Option (List ℕ)} {pending waiting : List ℕ} {B : Type 0}
    {subject : Subject B}
    {count : ℕ}
    → SoFar before now held holds pending waiting subject count → Keeps now after
    → SoFar before after held holds pending waiting subject count
SoFar-kept {before} {now} {after} {pending = pending} s k = record {
  done = s.done;
  lines = s.lines;
  texts = s.texts;
  past = s.past;
  read = Consumes-kept before now after (s.done ++ pending) s.read k;
  whole = s.whole;
  counted = s.counted;
  cut = s.cut;
  says = s.says;
  refuses = s.refuses;
  text = s.text;
  stands = s.stands;
  suite = s.suite;
}

-- A read failed.
-- The end of the input

whole_input : (before now : Option (List ℕ)) (bytes input : List ℕ) → Consumes before now bytes → IsAtEnd now
    → before ≡ Some input → input ≡ bytes
whole_input None now bytes input c end e = absurd (cc e)
whole_input (Some xs) None bytes input c end e = absurd c
whole_input (Some xs) (Some ys) bytes input c end e =
    let same : input ≡ xs = cc e in
    same ∙ c ∙ ap (λ (t : List ℕ). bytes ++ t) end ∙ append-nil bytes

more_input : (before now : Option (List ℕ)) (bytes input : List ℕ) → Consumes before now bytes → before ≡ Some input
    → (rest : List ℕ) × (input ≡ bytes ++ rest)
more_input None now bytes input c e = absurd (cc e)
more_input (Some xs) None bytes input c e = absurd c
more_input (Some xs) (Some ys) bytes input c e = let same : input ≡ xs = cc e in (ys, same ∙ c)

-- The last line, which has no newline, was answered and written.
pub SoFar-last : {before now held holds holds2 : Option (List ℕ)} {pending waiting waiting2 : List ℕ} {B : Type 0}
    {subject subject2 : Subject B} {count : ℕ}
    (holds3 : Option (List ℕ)) (s : SoFar before now held holds pending waiting subject count) → 0 < length pending
    → IsPlain pending → IsAtEnd now
    → Answered s.past pending subject2 holds holds2 waiting waiting2 → Appends holds2 holds3 waiting2
    → AnswersWhole before held holds3
SoFar-last {before} {now} {held} {pending = pending} {count = count} holds3 s some plain end a w = λ input is.
    let whole : input ≡ s.done ++ pending = whole_input before now (s.done ++ pending) input s.read end is in
    let cut = texts_of-last pending some plain in
    let texts : printed_for input ≡ printed s.texts ++ (printed a.answer.texts) =
    ap printed_for whole ∙ SoFar-printed s pending
    ∙ ap (λ (t : List (List ℕ)). printed s.texts ++ printed (answers s.past t)) cut
    ∙ ap (λ (t : List (List ℕ)). printed s.texts ++ printed t) (answers-said s.past pending [] a.answer a.is)
    ∙ ap (λ (t : List (List ℕ)). printed s.texts ++ printed t) (append-nil a.answer.texts) in (
      ap refused_in whole ∙ SoFar-refused_in s pending ∙ ap (first_refused (count + 1) s.past) cut
          ∙ first_refused-said (count + 1) s.past pending [] a.answer a.is,
      subst (λ (t : List ℕ). Appends held holds3 t) (sym texts)
          (Appends-emitted (Emits-written (Emits-then s.text a.text) w)),
    )

-- Lines that are refused

refused_at : {before now held holds : Option (List ℕ)} {pending waiting : List ℕ} {B : Type 0} {subject : Subject B}
    {count : ℕ}
    (holds2 : Option (List ℕ)) (s : SoFar before now held holds pending waiting subject count)
    (input more line : List ℕ)
    (later : List (List ℕ)) (why : Why)
    → input ≡ s.done ++ more → texts_of more ≡ line ∷ later → said s.past line ≡ Err why → Appends holds holds2 waiting
    → (refused_in input ≡ Some (record { line = count + 1; why = why })) × Appends held holds2 (printed_for input)
refused_at {held = held} {count = count} holds2 s input more line later why is cut refused w =
    let nothing : printed_for input ≡ printed s.texts =
    ap printed_for is ∙ SoFar-printed s more
    ∙ ap (λ (t : List (List ℕ)). printed s.texts ++ printed t) (ap (answers s.past) cut
    ∙ answers-refused s.past line later why refused)
    ∙ append-nil (printed s.texts) in (
      ap refused_in is ∙ SoFar-refused_in s more ∙ ap (first_refused (count + 1) s.past) cut
          ∙ first_refused-refused (count + 1) s.past line later why refused,
      subst (λ (t : List ℕ). Appends held holds2 t) (sym nothing) (Appends-emitted (Emits-written s.text w)),
    )

pub SoFar-refused : {before now held holds : Option (List ℕ)} {pending waiting : List ℕ} {B : Type 0}
    {subject : Subject B}
    {count : ℕ}
    (holds2 : Option (List ℕ)) (s : SoFar before now held holds pending waiting subject count) (line rest : List ℕ)
    (why : Why) → pending ≡ line ++ 10 ∷ rest → IsPlain line
    → said s.past line ≡ Err why → Appends holds holds2 waiting
    → AnswersBefore before held holds2 (record { line = count + 1; why = why })
SoFar-refused {before} {now} {pending = pending} holds2 s line rest why whole plain refused w = λ input is.
    let more = more_input before now (s.done ++ pending) input s.read is in
    let from : input ≡ s.done ++ (line ++ 10 ∷ (rest ++ more.0)) =
    more.1 ∙ append_assoc s.done pending more.0
    ∙ ap (λ (t : List ℕ). s.done ++ (t ++ more.0)) whole
    ∙ ap (λ (t : List ℕ). s.done ++ t) (append_assoc line (10 ∷ rest) more.0) in
    refused_at holds2 s input (line ++ 10 ∷ (rest ++ more.0)) line (texts_of (rest ++ more.0)) why from
    (texts_of-line line (rest ++ more.0) plain) refused w

pub SoFar-rest_refused : {before now held holds : Option (List ℕ)} {pending waiting : List ℕ} {B : Type 0}
    {subject : Subject B} {count : ℕ}
    (holds2 : Option (List ℕ)) (s : SoFar before now held holds pending waiting subject count) (why : Why)
    → 0 < length pending → IsPlain pending → IsAtEnd now
    → said s.past pending ≡ Err why → Appends holds holds2 waiting
    → AnswersBefore before held holds2 (record { line = count + 1; why = why })
SoFar-rest_refused {before} {now} {pending = pending} holds2 s why some plain end refused w = λ input is.
    refused_at holds2 s input pending pending [] why (whole_input before now (s.done ++ pending) input s.read end is)
    (texts_of-last pending some plain) refused w

onto_some : (x : ℕ) (ls : List (List ℕ)) → (rest : List ℕ)
    × ((later : List (List ℕ)) × (onto_first x ls ≡ (x ∷ rest) ∷ later))
onto_some x [] = ([], ([], refl))
onto_some x (l ∷ ls) = (l, (ls, refl))

-- the first line of bytes that begin without a newline
long_line : (front more : List ℕ) → 0 < length front → IsPlain front
    → (rest : List ℕ) × ((later : List (List ℕ)) × (texts_of (front ++ more) ≡ (front ++ rest) ∷ later))
long_line [] more some plain = absurd (omega (arith, some))
long_line (x ∷ []) more some plain =
    let apart : (x == 10) ≡ false = grind (arith, plain) in
    let on : texts_of (x ∷ more) ≡ onto_first x (texts_of more) = grind (arith, apart) in
    let found = onto_some x (texts_of more) in
    (found.0, (found.1.0, on ∙ found.1.1))
long_line (x ∷ y ∷ ys) more some plain =
    let apart : (x == 10) ≡ false = grind (arith, plain) in
    let plain2 : IsPlain (y ∷ ys) = grind (arith, plain) in
    let on : texts_of (x ∷ y ∷ (ys ++ more)) ≡ onto_first x (texts_of (y ∷ (ys ++ more))) = grind (arith, apart) in
    let found = long_line (y ∷ ys) more (omega arith) plain2 in
    (found.0, (found.1.0, on ∙ ap (onto_first x) found.1.1))

too_long : (past : Past) (front rest : List ℕ) → 65536 < length front → said past (front ++ rest) ≡ Err why.Line
too_long past front rest long =
    let l : 65536 < length (front ++ rest) = simp length-append (omega arith) in grind (arith, l)

pub SoFar-too_long : {before now held holds : Option (List ℕ)} {pending : List ℕ} {B : Type 0} {subject : Subject B}
    {count : ℕ}
    (s : SoFar before now held holds pending [] subject count) → 65536 < length pending → IsPlain pending
    → AnswersBefore before held holds (record { line = count + 1; why = why.Line })
SoFar-too_long {before} {now} {holds = holds} {pending = pending} s long plain = λ input is.
    let more = more_input before now (s.done ++ pending) input s.read is in
    let from : input ≡ s.done ++ (pending ++ more.0) = more.1 ∙ append_assoc s.done pending more.0 in
    let found = long_line pending more.0 (omega (arith, long)) plain in
    refused_at holds s input (pending ++ more.0) (pending ++ found.0) found.1.0 why.Line from found.1.1
    (too_long s.past pending found.0 long) (Appends-nothing holds holds (Keeps-same holds))

-- A lack of memory at a suite's line

missed_at : {before now held holds : Option (List ℕ)} {pending waiting : List ℕ} {B : Type 0} {subject : Subject B}
    {count : ℕ}
    (s : SoFar before now held holds pending waiting subject count) (input more line : List ℕ) (later : List (List ℕ))
    → input ≡ s.done ++ more → texts_of more ≡ line ∷ later → is_suite_line s.past line ≡ true
    → begins_suite (texts_of input) ≡ true
missed_at s input more line later is cut suite =
    ap (λ (t : List ℕ). begins_suite (texts_of t)) is
    ∙ ap begins_suite (s.cut more ∙ ap (λ (t : List (List ℕ)). s.lines ++ t) cut) ∙ s.suite line later suite

-- Memory ran out at the next line.
SoFar-missed : {before now held holds : Option (List ℕ)} {pending waiting : List ℕ} {B : Type 0} {subject : Subject B}
    {count : ℕ}
    (holds2 : Option (List ℕ)) (s : SoFar before now held holds pending waiting subject count) (line : List ℕ)
    (later : List (List ℕ))
    → texts_of pending ≡ line ∷ later → MayWantMemory s.past line → Appends holds holds2 waiting
    → MissesAt before now held holds2
SoFar-missed {held = held} {pending = pending} holds2 s line later next wants w =
    let same : answers Nothing s.lines ≡ s.texts =
    ap (answers Nothing) (sym (append-nil s.lines)) ∙ s.says [] ∙ append-nil s.texts in
    record {
      bytes = s.done ++ pending;
      lines = s.lines;
      line = line;
      later = later;
      past = s.past;
      read = s.read;
      cut = s.cut pending ∙ ap (λ (t : List (List ℕ)). s.lines ++ t) next;
      answered = λ more. s.says more ∙ ap (λ (t : List (List ℕ)). t ++ answers s.past more) (sym same);
      wants = wants;
      text = subst (λ (t : List (List ℕ)). Appends held holds2 (printed t)) (sym same)
          (Appends-emitted (Emits-written s.text w));
    }

pub SoFar-line_missed : {before now held holds : Option (List ℕ)} {waiting : List ℕ} {B : Type 0} {subject : Subject B}
    {count : ℕ} {old new : Given} {text : List ℕ}
    (holds2 : Option (List ℕ)) (s : SoFar before now held holds old.pending waiting subject count) → TakesLine old new
    → text ≡ new.line
    → MayWantMemory s.past text → Appends holds holds2 waiting → IsOfSuite before × MissesAt before now held holds2
SoFar-line_missed {before} {now} {old = old} {new = new} {text = text} holds2 s took same wants w = (
  λ input is.
      let more = more_input before now (s.done ++ old.pending) input s.read is in
      let from : input ≡ s.done ++ (new.line ++ 10 ∷ (new.pending ++ more.0)) =
      more.1 ∙ append_assoc s.done old.pending more.0
      ∙ ap (λ (t : List ℕ). s.done ++ (t ++ more.0)) took.whole
      ∙ ap (λ (t : List ℕ). s.done ++ t) (append_assoc new.line (10 ∷ new.pending) more.0) in
      missed_at s input (new.line ++ 10 ∷ (new.pending ++ more.0)) new.line (texts_of (new.pending ++ more.0)) from
      (texts_of-line new.line (new.pending ++ more.0) took.plain)
      (ap (is_suite_line s.past) (sym same) ∙ lacks_suite s.past text wants),
  SoFar-missed holds2 s text (texts_of new.pending)
      (ap texts_of took.whole ∙ texts_of-line new.line new.pending took.plain
      ∙ ap (λ (t : List ℕ). t ∷ texts_of new.pending) (sym same)) wants w,
)

pub rest_missed : {before now held holds : Option (List ℕ)} {pending waiting text : List ℕ} {B : Type 0}
    {subject : Subject B}
    {count : ℕ}
    (holds2 : Option (List ℕ)) (s : SoFar before now held holds pending waiting subject count) → 0 < length pending
    → IsPlain pending → IsAtEnd now
    → text ≡ pending → MayWantMemory s.past text → Appends holds holds2 waiting → IsOfSuite before
    × MissesAt before now held holds2
rest_missed {before} {now} {pending = pending} {text = text} holds2 s some plain end same wants w = (
  λ input is.
      missed_at s input pending pending [] (whole_input before now (s.done ++ pending) input s.read end is)
      (texts_of-last pending some plain)
      (ap (is_suite_line s.past) (sym same) ∙ lacks_suite s.past text wants),
  SoFar-missed holds2 s text []
      (texts_of-last pending some plain ∙ ap {B = List (List ℕ)} (λ (t : List ℕ). t ∷ []) (sym same)) wants w,
)

-- In the order of the code

pub on_err_of : {A E P : Type 0} (r : Result A E) (x : E) → IsErrOf r x → OnErr r P → P
on_err_of (Ok a) x is p = absurd (cc is)
on_err_of (Err e) x is p = p

pub SoFar-begin : (before held : Option (List ℕ)) {pending waiting : List ℕ} {B : Type 0} {subject : Subject B}
    {count : ℕ}
    → pending ≡ [] → waiting ≡ [] → subject ≡ code.Nothing → count ≡ 0
    → SoFar before before held held pending waiting subject count
SoFar-begin before held p w m c = rw (p, w, m, c) (SoFar-none before held)

pub SoFar-further : {before now held holds holds2 : Option (List ℕ)} {waiting waiting2 : List ℕ} {B : Type 0}
    {subject subject2 : Subject B} {count count2 : ℕ} {old new : Given} {text : List ℕ}
    (s : SoFar before now held holds old.pending waiting subject count) → TakesLine old new → text ≡ new.line
    → Answered s.past text subject2 holds holds2 waiting waiting2 → count2 ≡ count + 1
    → SoFar before now held holds2 new.pending waiting2 subject2 count2
SoFar-further {holds = holds} {holds2 = holds2} {waiting = waiting} {waiting2 = waiting2} {subject2 = subject2} {new =
    new} s took same a counted =
    let line = subst (λ (t : List ℕ). Answered s.past t subject2 holds holds2 waiting waiting2) same a in
    rw counted (SoFar-line s new.line new.pending took.whole took.plain line)

pub SoFar-line_refused : {before now held holds : Option (List ℕ)} {waiting : List ℕ} {B : Type 0} {subject : Subject B}
    {count number : ℕ} {old new : Given} {text : List ℕ}
    (holds2 : Option (List ℕ)) (s : SoFar before now held holds old.pending waiting subject count) (why : Why)
    → TakesLine old new → text ≡ new.line
    → number ≡ count + 1 → said s.past text ≡ Err why → Appends holds holds2 waiting
    → AnswersBefore before held holds2 (record { line = number; why = why })
SoFar-line_refused {new = new} holds2 s why took same counted refused w =
    rw counted (SoFar-refused holds2 s new.line new.pending why took.whole took.plain (ap (said s.past) (sym same)
    ∙ refused) w)

pub SoFar-line_unwritten : {before now held holds holds2 : Option (List ℕ)} {waiting : List ℕ} {B : Type 0}
    {subject : Subject B} {count : ℕ} {old new : Given} {text : List ℕ}
    (s : SoFar before now held holds old.pending waiting subject count) → TakesLine old new → text ≡ new.line
    → AppendsFront holds holds2 (waiting ++ text_said (said s.past text)) → AnswersPart before now held holds2
SoFar-line_unwritten {holds = holds} {holds2 = holds2} {waiting = waiting} {new = new} s took same f =
    SoFar-unwritten s new.line new.pending took.whole took.plain
    (subst (λ (t : List ℕ). AppendsFront holds holds2 (waiting ++ text_said (said s.past t))) same f)

pub SoFar-flushed : {before now held holds : Option (List ℕ)} {waiting waiting2 : List ℕ} {B : Type 0}
    {subject subject2 : Subject B} {count count2 : ℕ} {old new : Given}
    (holds2 : Option (List ℕ)) (s : SoFar before now held holds old.pending waiting subject count) → new ≡ old
    → Appends holds holds2 waiting
    → waiting2 ≡ [] → subject2 ≡ subject → count2 ≡ count
    → SoFar before now held holds2 new.pending waiting2 subject2 count2
SoFar-flushed holds2 s same w none m c = rw (ap (λ (v : Given). v.pending) same, none, m, c) (SoFar-flush s w)

pub flush_failed : {A E : Type 0} {before now held holds holds2 : Option (List ℕ)} {pending waiting : List ℕ}
    {B : Type 0} {subject : Subject B} {count : ℕ}
    (r : Result A E) (x : E) → IsErrOf r x → SoFar before now held holds pending waiting subject count
    → OnErr r (AppendsFront holds holds2 waiting)
    → AnswersPart before now held holds2
flush_failed r x is s f = SoFar-unflushed s (on_err_of r x is f)

SoFar-empty : {before now held holds : Option (List ℕ)} {pending waiting : List ℕ} {B : Type 0} {subject : Subject B}
    {count : ℕ}
    → SoFar before now held holds pending waiting subject count → waiting ≡ []
    → SoFar before now held holds pending [] subject count
SoFar-empty {before} {now} {held} {holds} {pending} {subject = subject} {count = count} s none =
    subst (λ (t : List ℕ). SoFar before now held holds pending t subject count) none s

pub long_refused : {before now held holds : Option (List ℕ)} {waiting : List ℕ} {B : Type 0} {subject : Subject B}
    {count : ℕ}
    (given : Given)
    → SoFar before now held holds given.pending waiting subject count → waiting ≡ [] → given.bound ≡ 65536
    → given.bound < length given.pending
    → IsPlain given.pending → AnswersBefore before held holds (record { line = count + 1; why = why.Line })
long_refused given s none bound long plain = SoFar-too_long (SoFar-empty s none) (omega (arith, bound, long)) plain

pub read_failed : {before now after held holds : Option (List ℕ)} {pending waiting : List ℕ} {B : Type 0}
    {subject : Subject B} {count : ℕ}
    → SoFar before now held holds pending waiting subject count → waiting ≡ [] → IsPlain pending → Keeps now after
    → AnswersLines before after held holds
read_failed {before} {now} {after} {held} {holds} {pending} s none plain k =
    let e = SoFar-empty s none in
    let same : printed_for (printed e.lines) ≡ printed e.texts =
    ap printed_for (sym e.whole ∙ sym (append-nil e.done)) ∙ SoFar-printed e [] ∙ append-nil (printed e.texts) in
    record {
      lines = e.lines;
      rest = pending;
      read = subst (λ (t : List ℕ). Consumes before after (t ++ pending)) e.whole
          (Consumes-kept before now after (e.done ++ pending) e.read k);
      plain = plain;
      text = subst (λ (t : List ℕ). Appends held holds t) (sym same) (Appends-emitted e.text);
    }

-- The last line

some_bytes : (xs : List ℕ) → ¬ (xs ≡ []) → 0 < length xs
some_bytes [] none = absurd (none refl)
some_bytes (x ∷ xs) none = omega arith

pub not_nothing : {b : Bool} (xs : List ℕ) → b ≡ true → (b ≡ false) ↔ (xs ≡ []) → 0 < length xs
not_nothing {b} xs is none = some_bytes xs (λ e. let off : true ≡ false = sym is ∙ none.1 e in cc off)

pub rest_refused : {before now held holds : Option (List ℕ)} {pending waiting text : List ℕ} {B : Type 0}
    {subject : Subject B} {count number : ℕ}
    (holds2 : Option (List ℕ)) (s : SoFar before now held holds pending waiting subject count) (why : Why)
    → 0 < length pending → IsPlain pending → IsAtEnd now
    → text ≡ pending → number ≡ count + 1 → said s.past text ≡ Err why → Appends holds holds2 waiting
    → AnswersBefore before held holds2 (record { line = number; why = why })
rest_refused holds2 s why some plain end same counted refused w =
    rw counted (SoFar-rest_refused holds2 s why some plain end (ap (said s.past) (sym same) ∙ refused) w)

pub rest_unwritten : {before now held holds holds2 : Option (List ℕ)} {pending waiting text : List ℕ} {B : Type 0}
    {subject : Subject B} {count : ℕ}
    (s : SoFar before now held holds pending waiting subject count) → 0 < length pending → IsPlain pending
    → text ≡ pending
    → AppendsFront holds holds2 (waiting ++ text_said (said s.past text)) → AnswersPart before now held holds2
rest_unwritten {holds = holds} {holds2 = holds2} {waiting = waiting} s some plain same f =
    SoFar-rest_unwritten s some plain
    (subst (λ (t : List ℕ). AppendsFront holds holds2 (waiting ++ text_said (said s.past t))) same f)

pub rest_answered : {before now held holds holds2 : Option (List ℕ)} {pending waiting waiting2 text : List ℕ}
    {B : Type 0} {subject subject2 : Subject B} {count : ℕ}
    (holds3 : Option (List ℕ)) (s : SoFar before now held holds pending waiting subject count) → 0 < length pending
    → IsPlain pending → IsAtEnd now → text ≡ pending
    → Answered s.past text subject2 holds holds2 waiting waiting2 → Appends holds2 holds3 waiting2
    → AnswersWhole before held holds3
rest_answered {holds = holds} {holds2 = holds2} {waiting = waiting} {waiting2 = waiting2} {subject2 = subject2} holds3
    s some
    plain end same a w =
    SoFar-last holds3 s some plain end
    (subst (λ (t : List ℕ). Answered s.past t subject2 holds holds2 waiting waiting2) same a) w

-- The last line was answered, and its answer was not written.
pub rest_unflushed : {before now held holds holds2 holds3 : Option (List ℕ)} {pending waiting waiting2 text : List ℕ}
    {B : Type 0} {subject subject2 : Subject B} {count : ℕ}
    (s : SoFar before now held holds pending waiting subject count) → 0 < length pending → IsPlain pending
    → text ≡ pending
    → Answered s.past text subject2 holds holds2 waiting waiting2 → AppendsFront holds2 holds3 waiting2
    → AnswersPart before now held holds3
rest_unflushed {holds = holds} {holds2 = holds2} {holds3 = holds3} {pending = pending} {waiting = waiting} {waiting2 =
    waiting2} s some plain same a f =
    let whole = Emits-front [] a.text
    (subst (λ (t : List ℕ). AppendsFront holds2 holds3 t) (sym (append-nil waiting2)) f) in
    let said_so : text_said (said s.past pending) ≡ printed a.answer.texts =
    ap (λ (t : List ℕ). text_said (said s.past t)) (sym same) ∙ ap text_said a.is in
    SoFar-rest_unwritten s some plain
    (subst (λ (t : List ℕ). AppendsFront holds holds3 (waiting ++ t)) (append-nil (printed a.answer.texts)
    ∙ sym said_so) whole)

pub room_after : {old new : Given} (n m : ℕ) → TakesLine old new → m ≡ n + 1
    → m + length new.pending ≤ n + length old.pending
room_after {old} {new} n m took counted =
    let sum = simp length-append at (ap length took.whole) in omega (arith, sum, counted)

pub less_after : {old new : Given} → TakesLine old new → length new.pending ≤ length old.pending
less_after {old} {new} took = let sum = simp length-append at (ap length took.whole) in omega (arith, sum)

pub on_ok_both : {A E P Q R : Type 0} (r : Result A E) → (P → Q → R) → OnOk r P → OnOk r Q → OnOk r R
on_ok_both (Ok a) f p q = f p q
on_ok_both (Err e) f p q = tt

-- The same line, under equal names.
pub refused_as : (before held holds : Option (List ℕ)) {n m : ℕ} {why subject : Why} → n ≡ m → why ≡ subject
    → AnswersBefore before held holds (record { line = n; why = why })
    → AnswersBefore before held holds (record { line = m; why = subject })
refused_as before held holds {n} {m} {why} {subject} e f all =
    subst (λ (r : Refusal). AnswersBefore before held holds r) (ap (λ (k : ℕ). record { line = k; why = why }) e
    ∙ ap (λ (w : Why). record { line = m; why = w }) f) all

-- Ends

-- One more line of an answer.

line_more : {S : Type 0} (bytes : S → List ℕ) (lines : List S) (i : ℕ) (line : S) → i < length lines
    → line ≡ get_or lines i line
    → printed (map bytes (take (i + 1) lines)) ≡ printed (map bytes (take i lines)) ++ (bytes line ++ 10 ∷ [])
line_more bytes lines i line within at =
    ap (λ t. printed (map bytes t)) (take_more lines i line within)
    ∙ ap printed (map_push bytes (take i lines) (get_or lines i line))
    ∙ printed-then (map bytes (take i lines)) (bytes (get_or lines i line))
    ∙ ap (λ l. printed (map bytes (take i lines)) ++ (bytes l ++ 10 ∷ [])) (sym at)

pub puts_more : {S : Type 0} {a b c : Option (List ℕ)} {p q r : List ℕ} (bytes : S → List ℕ) (lines : List S) (i : ℕ)
    (line : S)
    → i < length lines → line ≡ get_or lines i line → Emits a b p q (printed (map bytes (take i lines)))
    → Emits b c q r (bytes line ++ 10 ∷ []) → Emits a c p r (printed (map bytes (take (i + 1) lines)))
puts_more {a = a} {c = c} {p = p} {r = r} bytes lines i line within at so_far put =
    subst (λ (t : List ℕ). Emits a c p r t) (sym (line_more bytes lines i line within at)) (Emits-then so_far put)

pub puts_failed : {S : Type 0} {a b c : Option (List ℕ)} {p q : List ℕ} (bytes : S → List ℕ) (lines : List S) (i : ℕ)
    (line : S)
    → i < length lines → line ≡ get_or lines i line → Emits a b p q (printed (map bytes (take i lines)))
    → AppendsFront b c (q ++ (bytes line ++ 10 ∷ [])) → AppendsFront a c (p ++ printed (map bytes lines))
puts_failed {a = a} {c = c} {p = p} bytes lines i line within at so_far f =
    let rest = printed (map bytes (drop (i + 1) lines)) in
    let whole : printed (map bytes (take i lines)) ++ (bytes line ++ 10 ∷ []) ++ rest ≡ printed (map bytes lines) =
    ap (λ (t : List ℕ). t ++ rest) (sym (line_more bytes lines i line within at))
    ∙ sym (printed-append (map bytes (take (i + 1) lines)) (map bytes (drop (i + 1) lines)))
    ∙ ap printed (sym (map-append bytes (take (i + 1) lines) (drop (i + 1) lines)))
    ∙ ap (λ t. printed (map bytes t)) (take-append-drop (i + 1) lines) in
    subst (λ (t : List ℕ). AppendsFront a c (p ++ t)) whole
    (AppendsFront-first p (printed (map bytes (take i lines)) ++ (bytes line ++ 10 ∷ [])) rest
    (Emits-front (bytes line ++ 10 ∷ []) so_far f))

-- One more row of the table.
pub rows_further : (bytes : List ℕ) (i : ℕ) → i < length bytes
    → printed (flat_map both_sides (take (i + 1) bytes))
    ≡ printed (flat_map both_sides (take i bytes)) ++ (table_text (get_or bytes i 0) true ++ 10 ∷ [])
    ++ (table_text (get_or bytes i 0) false ++ 10 ∷ [])
rows_further bytes i within =
    let front : take (i + 1) bytes ≡ take i bytes ++ get_or bytes i 0 ∷ [] = rw add-one (take-suc bytes i 0 within) in
    ap (λ (t : List ℕ). printed (flat_map both_sides t)) front
    ∙ ap printed (flat_map-append both_sides (take i bytes) (get_or bytes i 0 ∷ []))
    ∙ printed-append (flat_map both_sides (take i bytes)) (both_sides (get_or bytes i 0))
    ∙ ap (λ (t : List ℕ). printed (flat_map both_sides (take i bytes))
    ++ ((table_text (get_or bytes i 0) true ++ 10 ∷ []) ++ t))
    (append-nil (table_text (get_or bytes i 0) false ++ 10 ∷ []))
    ∙ sym (append_assoc (printed (flat_map both_sides (take i bytes))) (table_text (get_or bytes i 0) true ++ 10 ∷ [])
    (table_text (get_or bytes i 0) false ++ 10 ∷ []))

-- By the fault at which it ended.
pub ends_by : (status : ℕ) (old new : Console) (subject : SimFault) → status ≡ status_of subject
    → Reports old.faults new.faults (report_of subject new.reader new.writer)
    → ((line : ℕ) (why : Why) → subject ≡ sim.Refused line why
    → AnswersUpTo old.reader new.reader old.writer new.writer (record { line = line; why = why })
    × (Works old.reader new.reader × Works old.writer new.writer))
    → (subject ≡ sim.OutOfMemory → SimCause sim.OutOfMemory old new) → (subject ≡ sim.Read → SimCause sim.Read old new)
    → (subject ≡ sim.Write → SimCause sim.Write old new) → AnswersByStatus status old new
ends_by status old new (sim.Refused line why) is reports refused memory read write =
    let all = refused line why refl in
    inr (inl (
      is,
      record {
        refusal = record { line = line; why = why };
        answers = all.0;
        reads = all.1.0;
        writes =
            all.1.1;
        reported = reports;
      },
    ))
ends_by status old new sim.OutOfMemory is reports refused memory read write =
    inr (inr (is, record { fault = sim.OutOfMemory; cause = memory refl; reported = reports }))
ends_by status old new sim.Read is reports refused memory read write =
    inr (inr (is, record { fault = sim.Read; cause = read refl; reported = reports }))
ends_by status old new sim.Write is reports refused memory read write =
    inr (inr (is, record { fault = sim.Write; cause = write refl; reported = reports }))

-- one row after another
pub two_rows : {out middle last front : List ℕ} (row row2 : List ℕ) → middle ≡ out ++ row → last ≡ middle ++ row2
    → out ≡ front → last ≡ front ++ row ++ row2
two_rows row row2 m l o = l ∙ ap (λ (t : List ℕ). t ++ row2) (m ∙ ap (λ (t : List ℕ). t ++ row) o)
