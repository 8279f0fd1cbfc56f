use Rattle.std.proofs.Common.{◌≡◌, map, List}
use Rattle.std.specs.Prelude.{Ok, string_bytes}
use Rattle.std.specs.Fs.{dir_entry_name}
use Rattle.std.specs.List.{filter}
use Rattle.cmd_envdir.specs.Listing.{is_visible}
use Rattle.cmd_envdir.proofs.folder.names_in.Given as goal

-- the entries so far could be read, and their visible names are kept
abbrev pub invariant-loop-entry : goal.invariant-loop-entry
invariant-loop-entry g l =
    (entries : List _) × (l.yielded ≡ map Ok entries)
    × (map string_bytes l.names.items ≡ filter is_visible (map dir_entry_name entries))
