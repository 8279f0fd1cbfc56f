use Rattle.std.proofs.Common.{◌≡◌, List, ℕ, length, subst, sym, ap, ◌∙◌, refl}
use Rattle.std.specs.List.{slice_range}
use Rattle.tai_status.specs.LineReader.{Given, IsPlain}
use Rattle.memchr.specs.Find.{NoneBefore, Passes, is_byte}
use Rattle.tai_status.proofs.Ranges.{line_found, none_found}
use Rattle.tai_status.proofs.line_reader.LineReader.take_line.Goals as goal

pub returns-in-Some-clause-taken : goal.returns-in-Some-clause-taken
returns-in-Some-clause-taken g c = λ t.
    let r = c.self.inside in
    let was : c.args.self.now.pending ≡ slice_range r.bytes.items r.start r.end =
    ap (λ (v : Given). v.pending) (sym c.self.view_is) in
    let p : c.pending.result.now ≡ slice_range r.bytes.items r.start r.end = c.pending.ensures ∙ was in
    let found = line_found r.bytes.items r.start r.end c.in-Some.at c.self.invariant.1.0 c.self.invariant.1.1
    (subst (λ (xs : List ℕ). NoneBefore (Passes (is_byte 10) xs) 0 (length xs) c.in-Some.at) p c.in-Some.ensures.0)
    (subst (λ (xs : List ℕ). Passes (is_byte 10) xs c.in-Some.at) p c.in-Some.ensures.1) in
    record { whole = was ∙ found.0; plain = found.1; bound = ap (λ (v : Given). v.bound) c.self.view_is }

pub returns-in-None-clause-none : goal.returns-in-None-clause-none
returns-in-None-clause-none g c =
    λ f. (subst IsPlain c.pending.ensures (none_found c.pending.result.now c.in-None.ensures), refl)
