use Rattle.std.proofs.Common.{[], ◌∷◌, ◌++◌, ◌+◌, ◌-◌, ◌^◌, map, sym, ap, ◌∙◌}
use Rattle.std.proofs.lemmas.List.{map-append}
use Rattle.std.proofs.lemmas.List.Elements.{All-nil, All-cons, All-append}
use Rattle.std.specs.Prelude.{min, Ok, Err, string_bytes}
use Rattle.std.specs.Fs.{dir_entry_name}
use Rattle.cmd_svscan.specs.Listing.{IsListed}
use Rattle.cmd_svscan.proofs.ListedNames.{count-more, count-same, count-up, names-more, read-same}
use Rattle.cmd_svscan.proofs.listing.names_in.Goals as goal

pub loop-entry-preserved-in-Ok : goal.loop-entry-preserved-in-Ok
loop-entry-preserved-in-Ok g c =
    let at = c.loop-entry.invariant in
    let entries = c.loop-entry.yielded in
    let names = c.loop-entry.names.items in
    let entry = c.in-Ok.entry in
    rw c.in-Ok.is (record {
      listed = All-append IsListed entries (Ok entry ∷ []) at.listed
          (All-cons IsListed (Ok entry) [] tt (All-nil IsListed));
      names = names-more dir_entry_name entries entry (map string_bytes names) (map string_bytes c.push.new.self.items)
          at.names
          (ap (map string_bytes) c.in_ok-push-in-Ok.ensures.items
          ∙ map-append string_bytes names (c.in_ok-from_str-in-Ok.field-0 ∷ [])
          ∙ ap (λ name. map string_bytes names ++ name ∷ []) (c.in_ok-from_str-in-Ok.ensures.ok ∙ c.file_name.ensures));
      unnamed = at.unnamed ∙ ap (λ n. min n (2 ^ 64 - 1)) (sym (count-same entries entry));
    })

pub loop-entry-preserved : goal.loop-entry-preserved
loop-entry-preserved g c =
    let at = c.loop-entry.invariant in
    let entries = c.loop-entry.yielded in
    let fault = c.in-Err.fault in
    rw c.in-Err.is (record {
      listed = All-append IsListed entries (Err fault ∷ []) at.listed
          (All-cons IsListed (Err fault) [] (sym c.kind.ensures ∙ c.in-InvalidFilename.is) (All-nil IsListed));
      names = at.names ∙ ap (map dir_entry_name) (sym (read-same entries fault));
      unnamed = c.saturating_add-unnamed.ensures ∙ ap (λ n. min (n + 1) (2 ^ 64 - 1)) at.unnamed
          ∙ count-up _ (2 ^ 64 - 1) ∙ ap (λ n. min n (2 ^ 64 - 1)) (sym (count-more entries fault));
    })
