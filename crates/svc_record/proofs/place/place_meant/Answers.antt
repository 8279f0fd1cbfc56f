use Rattle.std.proofs.Common.{◌≡◌, ◌++◌, ◌∷◌, List, ℕ, codes, decimal, arith, ◌∙◌}
use Rattle.svc_record.specs.declared.place.Place.{Place}
use Rattle.svc_record.specs.Place.{place_end, place_line, place_rest, last_number}
use Rattle.svc_record.proofs.Spaces.{one_in_front, two_in_front}
use Rattle.svc_record.proofs.place.place_meant.Goals as goal

numbers : (place : Place) (text : List ℕ) → text ≡ place_line place
    → text ≡ decimal place.pid ++ 32 ∷ (decimal place.tick ++ 32 ∷ place_rest place)
numbers place text is = is ∙ two_in_front (decimal place.pid) (decimal place.tick) (codes " ") (place_rest place)

session : (place : Place) (text : List ℕ) → text ≡ place_rest place
    → text ≡ decimal place.session ++ 32 ∷ (decimal place.init ++ 32 ∷ place_end place)
session place text is = is ∙ two_in_front (decimal place.session) (decimal place.init) (codes " ") (place_end place)

wanted : (place : Place) (text : List ℕ) → text ≡ place_end place
    → text ≡ decimal (last_number place.is_finish place.want) ++ 32 ∷ (place.boot ++ codes "\n")
wanted place text is = is ∙ one_in_front (decimal (last_number place.is_finish place.want)) (codes " ") place.boot (codes "\n")

pub returns-in_err-pid : goal.returns-in_err-pid
returns-in_err-pid c = record {
  only = λ place is text.
      let first = c.in_err-pid.ensures.only place.pid place.tick (place_rest place)
      (omega (arith, is.pid)) is.tick (numbers place c.args.text.now text) in
      absurd first;
}

pub returns-in_err-session : goal.returns-in_err-session
returns-in_err-session c = record {
  only = λ place is text.
      let first = c.in_ok-pid.ensures.only place.pid place.tick (place_rest place)
      (omega (arith, is.pid)) is.tick (numbers place c.args.text.now text) in
      let second = c.in_err-session.ensures.only place.session place.init (place_end place) is.session is.init
      (session place _ (first.2)) in
      absurd second;
}

pub returns-in_err-is_finish : goal.returns-in_err-is_finish
returns-in_err-is_finish c = record {
  only = λ place is text.
      let first = c.in_ok-pid.ensures.only place.pid place.tick (place_rest place)
      (omega (arith, is.pid)) is.tick (numbers place c.args.text.now text) in
      let second = c.in_ok-session.ensures.only place.session place.init (place_end place) is.session is.init
      (session place _ (first.2)) in
      let third = c.in_err-is_finish.ensures.only place.is_finish place.want place.boot is.boot (wanted place _ (second.2)) in
      absurd (cc third);
}

pub returns-in_err-pid-2 : goal.returns-in_err-pid-2
returns-in_err-pid-2 c = record {
  only = λ place is text.
      let first = c.in_ok-pid.ensures.only place.pid place.tick (place_rest place)
      (omega (arith, is.pid)) is.tick (numbers place c.args.text.now text) in
      grind (arith, first, is, c.in_err-pid-2.ensures);
}

pub returns : goal.returns
returns c = record {
  only = λ place is text.
      let first = c.in_ok-pid.ensures.only place.pid place.tick (place_rest place)
      (omega (arith, is.pid)) is.tick (numbers place c.args.text.now text) in
      let second = c.in_ok-session.ensures.only place.session place.init (place_end place) is.session is.init
      (session place _ (first.2)) in
      let third = c.in_ok-is_finish.ensures.only place.is_finish place.want place.boot is.boot (wanted place _ (second.2)) in
      grind (arith, first, second, third, is, c.in_ok-pid-2.ensures);
}
