use Rattle.std.proofs.Common.{◌≡◌, ◌+◌, ◌-◌, ◌++◌, List, ℕ, take, sym, ap, ◌∙◌, arith}
use Rattle.std.specs.List.{slice_range}
use Rattle.std.proofs.lemmas.Grind.{common_steps}
use Rattle.tai_status.specs.LineReader.{Given}
use Rattle.tai_status.proofs.Ranges.{read_behind, written_whole}
use Rattle.tai_status.proofs.line_reader.LineReader.read_more.Goals as goal

pub returns-clause-filled : goal.returns-clause-filled
returns-clause-filled g c =
    let r = c.self.inside in
    let len : ℕ = r.end - r.start in
    let was : c.args.self.now.pending ≡ slice_range r.bytes.items r.start r.end =
    ap (λ (v : Given). v.pending) (sym c.self.view_is) in
    record {
      bytes = slice_range c.read_into.new.bytes len (len + c.in_ok-count.count);
      read = c.in_ok-count.ensures.bytes;
      pending =
          ap (λ (xs : List ℕ). slice_range xs 0 (len + c.in_ok-count.count))
          (written_whole c.read_into.new.bytes _ r.bytes.len (grind (arith, common_steps)))
          ∙ read_behind r.bytes.items c.move_to_front.new.bytes c.read_into.new.bytes r.start r.end c.in_ok-count.count
          (c.move_to_front.ensures ∙ ap (λ (xs : List ℕ). slice_range xs r.start r.end) c.as_mut_slice.ensures.value)
          (c.in_ok-count.ensures.front
          ∙ ap (take len) (c.as_mut_slice-2.ensures.value
          ∙ written_whole c.move_to_front.new.bytes _ r.bytes.len (grind (arith, common_steps))))
          ∙ ap (λ (xs : List ℕ). xs ++ slice_range c.read_into.new.bytes len (len + c.in_ok-count.count)) (sym was);
      bound = grind (arith, common_steps);
    }
