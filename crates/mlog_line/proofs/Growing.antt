-- Outputs on their way from one given thing to another.
use Rattle.std.proofs.Common.{ℕ, List, ◌++◌, sym, ap, ◌∙◌, append_assoc, append-nil}
use Rattle.tai_status.specs.Lines.{Sent}
use Rattle.mlog_files.specs.declared.tail.LogFault.{LogFault}
use Rattle.mlog_line.specs.Given.{Given, nothing, joined}
use Rattle.mlog_line.specs.Outputs.{Outputs, SameGiven, Grows, StopsAt}
use Rattle.mlog_line.proofs.Taking.{Takes-then, Takes-none, Stops-then, Stops-more}

pub Same-then : (x y z : Given) → SameGiven x y → SameGiven y z → SameGiven x z
Same-then x y z s t = record {
  logs = λ log. s.logs log ∙ t.logs log;
  alerts = s.alerts ∙ t.alerts;
  files = λ file. s.files file ∙ t.files file;
}

pub Same-sym : (x y : Given) → SameGiven x y → SameGiven y x
Same-sym x y s = record { logs = λ log. sym (s.logs log); alerts = sym s.alerts; files = λ file. sym (s.files file) }

pub Same-nothing : (x : Given) → SameGiven (joined x nothing) x
Same-nothing x = record {
  logs = λ log. append-nil (x.logs log);
  alerts = append-nil x.alerts;
  files = λ file. append-nil (x.files file);
}

-- joined in the other order
pub Same-moved : (x m n : Given) → SameGiven (joined x (joined m n)) (joined (joined x m) n)
Same-moved x m n = record {
  logs = λ log. sym (append_assoc (x.logs log) (m.logs log) (n.logs log));
  alerts = sym (append_assoc x.alerts m.alerts n.alerts);
  files = λ file. sym (append_assoc (x.files file) (m.files file) (n.files file));
}

pub Same-joined : (x y n : Given) → SameGiven x y → SameGiven (joined x n) (joined y n)
Same-joined x y n s = record {
  logs = λ log. ap (λ (t : List Sent). t ++ n.logs log) (s.logs log);
  alerts = ap (λ (t : List ℕ). t ++ n.alerts) s.alerts;
  files = λ file. ap (λ (t : List (List ℕ)). t ++ n.files file) (s.files file);
}

pub Same-behind : (p x y : Given) → SameGiven x y → SameGiven (joined p x) (joined p y)
Same-behind p x y s = record {
  logs = λ log. ap (λ (t : List Sent). p.logs log ++ t) (s.logs log);
  alerts = ap (λ (t : List ℕ). p.alerts ++ t) s.alerts;
  files = λ file. ap (λ (t : List (List ℕ)). p.files file ++ t) (s.files file);
}

-- two steps on the way
pub two_steps : (x m y n z : Given) → SameGiven (joined x m) y → SameGiven (joined y n) z
    → SameGiven (joined x (joined m n)) z
two_steps x m y n z s t =
    Same-then (joined x (joined m n)) (joined (joined x m) n) z (Same-moved x m n)
    (Same-then (joined (joined x m) n) (joined y n) z (Same-joined (joined x m) y n s) t)

behind : (p x m y : Given) → SameGiven (joined x m) y → SameGiven (joined (joined p x) m) (joined p y)
behind p x m y s =
    Same-then (joined (joined p x) m) (joined p (joined x m)) (joined p y)
    (Same-sym (joined p (joined x m)) (joined (joined p x) m) (Same-moved p x m)) (Same-behind p (joined x m) y s)

pub Grows-none : (a : Outputs) (x : Given) → Grows a a x x
Grows-none a x = record { more = nothing; whole = Same-nothing x; takes = Takes-none a }

pub Grows-then : (a b c : Outputs) (x y z : Given) → Grows a b x y → Grows b c y z → Grows a c x z
Grows-then a b c x y z g h = record {
  more = joined g.more h.more;
  whole = two_steps x g.more y h.more z g.whole h.whole;
  takes = Takes-then a b c g.more h.more g.takes h.takes;
}

pub Grows-same : (a b : Outputs) (x y z : Given) → Grows a b x y → SameGiven y z → Grows a b x z
Grows-same a b x y z g s = record { more = g.more; whole = Same-then (joined x g.more) y z g.whole s; takes = g.takes }

pub Grows-behind : (a b : Outputs) (p x y : Given) → Grows a b x y → Grows a b (joined p x) (joined p y)
Grows-behind a b p x y g = record { more = g.more; whole = behind p x g.more y g.whole; takes = g.takes }

pub StopsAt-then : (a b c : Outputs) (x y z : Given) (why : LogFault) → Grows a b x y → StopsAt b c y z why
    → StopsAt a c x z why
StopsAt-then a b c x y z why g h = record {
  more = joined g.more h.more;
  whole = two_steps x g.more y h.more z g.whole h.whole;
  stops = Stops-then a b c g.more h.more why g.takes h.stops;
}

-- There was more to come.
pub StopsAt-more : (a b : Outputs) (x y r z : Given) (why : LogFault) → StopsAt a b x y why → SameGiven (joined y r) z
    → StopsAt a b x z why
StopsAt-more a b x y r z why g s = record {
  more = joined g.more r;
  whole = two_steps x g.more y r z g.whole s;
  stops = Stops-more a b g.more r why g.stops;
}

pub StopsAt-same : (a b : Outputs) (x y z : Given) (why : LogFault) → StopsAt a b x y why → SameGiven y z
    → StopsAt a b x z why
StopsAt-same a b x y z why g s =
    record { more = g.more; whole = Same-then (joined x g.more) y z g.whole s; stops = g.stops }

pub StopsAt-behind : (a b : Outputs) (p x y : Given) (why : LogFault) → StopsAt a b x y why
    → StopsAt a b (joined p x) (joined p y) why
StopsAt-behind a b p x y why g = record { more = g.more; whole = behind p x g.more y g.whole; stops = g.stops }
