-- Which owner and which mode a new file gets in place of an old one.
use Rattle.std.specs.Prelude.{◌==◌, ◌&&◌, Bool, if◌then◌else◌, Option, Some, None}
use Rattle.svc_system.specs.declared.access.Access.{Access}

abbrev pub is_same : (one other : Access) → Bool
is_same one other = (one.owner == other.owner) && ((one.group == other.group) && (one.mode == other.mode))

-- the access of the old file, if it differs from that of each new file
abbrev pub given : (before : Option Access) → (usual : Access) → Option Access
given None usual = None
given (Some before) usual = if is_same before usual then None else Some before
