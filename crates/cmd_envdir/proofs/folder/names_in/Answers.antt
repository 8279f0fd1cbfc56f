use Rattle.std.proofs.Common.{[], ◌∷◌, ◌++◌, map, refl, sym, ap, ◌∙◌}
use Rattle.std.proofs.lemmas.List.{map-append}
use Rattle.std.specs.Prelude.{Ok, string_bytes}
use Rattle.std.specs.Fs.{dir_entry_name}
use Rattle.cmd_envdir.proofs.Listing.{listed-more}
use Rattle.cmd_envdir.proofs.folder.names_in.Goals as goal

pub loop-entry-init : goal.loop-entry-init
loop-entry-init g c = ([], refl, ap (map string_bytes) c.new-names.ensures.items)

pub loop-entry-preserved : goal.loop-entry-preserved
loop-entry-preserved g c =
    let entries = c.loop-entry.invariant.0 in
    let entry = c.in_ok-entry.entry in (
      entries ++ entry ∷ [],
      ap (λ items. items ++ c.in-Some.entry ∷ []) c.loop-entry.invariant.1
          ∙ ap (λ item. map Ok entries ++ item ∷ []) c.in_ok-entry.was
          ∙ sym (map-append Ok entries (entry ∷ [])),
      listed-more dir_entry_name entries entry c.file_name.result.now (map string_bytes c.loop-entry.names.items)
          (map string_bytes c.push_visible.new.names.items) c.loop-entry.invariant.2 c.file_name.ensures
          c.in_ok-push_visible.ensures,
    )
