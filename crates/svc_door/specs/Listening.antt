-- A listener at the door.
use Rattle.std.specs.Prelude.{◌≡◌}
use Rattle.svc_door.specs.declared.listener.Listener.{Listener}

-- The same socket, watched as before.
abbrev pub IsSame : (old new : Listener) → Type 0
IsSame old new = (new.socket ≡ old.socket) × (new.watched ≡ old.watched)
