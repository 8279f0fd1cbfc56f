use Rattle.std.proofs.Common.{[], ◌∷◌, length, ap, sym, ◌∙◌, subst, arith, length-append}
use Rattle.std.specs.Prelude.{slice_get}
use Rattle.svc_station.specs.WriterStates.{state_station}
use Rattle.svc_station.specs.Ends.{IsNewReader}
use Rattle.svc_station.specs.Shown.{origin_of}
use Rattle.svc_station.proofs.Lists.{each_more}
use Rattle.svc_station.proofs.station.Station.open.Goals as goal

pub loop-number-preserved : goal.loop-number-preserved
loop-number-preserved g c =
    let i = c.loop-number.invariant in
    let made = c.in-Ok-reader.ensures in
    let reader = c.in-Ok-reader.reader in
    let old = c.loop-number.state in
    let items = c.push_reserved.ensures.items in
    let count = i.count in
    let new : IsNewReader (state_station old) (length c.loop-number.ends.items) reader =
    (made.station, made.number ∙ sym count, ap (λ f. f.seen.log) made.prefix ∙ i.state.published) in
    let each = each_more (λ k x. IsNewReader (state_station old) k x) c.loop-number.ends.items reader i.each new in
    record {
      state = record {
        opening = ap (λ v. v.opening) made.same.1 ∙ i.state.opening;
        room = ap (λ v. v.trace.capacity) made.same.1 ∙ i.state.room;
        readers = ap (λ v. v.readers) made.same.1 ∙ i.state.readers;
        published = ap (λ f. f.seen.log) made.same.0 ∙ i.state.published;
        added = ap (λ a. a.prefix.seen.log) made.appender ∙ i.state.added;
      };
      count = omega (arith, ap length items, length-append c.loop-number.ends.items (reader ∷ []));
      room = omega (arith, c.push_reserved.ensures.capacity, i.room);
      each = λ k x at. subst (λ s. IsNewReader s k x) (sym (ap origin_of made.same.1))
          (each k x (ap (λ l. slice_get l k) (sym items) ∙ at));
    }
