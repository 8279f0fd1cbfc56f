use Rattle.std.proofs.Common.{◌≢◌, sym, subst, List, ℕ}
use Rattle.std.specs.List.{All}
use Rattle.scan_table.specs.Slots.{SlotState}
use Rattle.scan_table.specs.Index.{ArePassed, names_of}
use Rattle.scan_table.proofs.Searched.{searched-some, searched-none, slot-nowhere, found-passed}
use Rattle.scan_table.proofs.index.slot_of.Goals as goal

pub returns-in-Ok-clause-slot : goal.returns-in-Ok-clause-slot
returns-in-Ok-clause-slot g c =
    searched-some c.args.slots.now c.args.index.now c.args.row.now c.name.result.now c.in-Ok.place
    c.index-slots-index.result
    c.requires.index c.requires.whole c.in-Ok.ensures c.name.ensures c.index-slots-index.is

pub returns-in-Ok-clause-passed : goal.returns-in-Ok-clause-passed
returns-in-Ok-clause-passed g c =
    subst (λ (name : List ℕ). ArePassed (names_of c.args.slots.now) c.args.index.now c.in-Ok.place name) c.name.ensures
    (found-passed (names_of c.args.slots.now) c.args.index.now c.name.result.now c.in-Ok.place c.requires.index
    c.in-Ok.ensures)

pub returns-in-Err-clause-slot : goal.returns-in-Err-clause-slot
returns-in-Err-clause-slot g c =
    let none : All (λ (slot : SlotState). slot.name ≢ c.name.result.now) c.args.slots.now =
    searched-none c.args.slots.now c.args.index.now c.name.result.now c.in-Err.place c.requires.index c.requires.whole
    c.in-Err.ensures in
    sym (slot-nowhere c.args.slots.now c.args.row.now
    (subst (λ (name : List ℕ). All (λ (slot : SlotState). slot.name ≢ name) c.args.slots.now) c.name.ensures none))

pub returns-in-Err-clause-passed : goal.returns-in-Err-clause-passed
returns-in-Err-clause-passed g c =
    subst (λ (name : List ℕ). ArePassed (names_of c.args.slots.now) c.args.index.now c.in-Err.place name) c.name.ensures
    c.in-Err.ensures.1
