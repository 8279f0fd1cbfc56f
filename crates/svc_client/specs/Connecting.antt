-- What a failed connection to a service says.
use Rattle.std.specs.declared.io.ErrorKind.{ErrorKind}
use Rattle.std.specs.declared.io.ErrorKind.TheVariants.{PermissionDenied, WouldBlock, BrokenPipe, ConnectionReset}
use Rattle.svc_client.specs.declared.services.Unreached.{Unreached}
use Rattle.svc_client.specs.declared.services.Unreached.TheVariants.{NotRunning, Denied, Unanswered}

-- why a service is not reached: this user may not connect; or it exists, and has no room for one more or ended when it
-- was sent something; or nothing accepts connections there
abbrev pub unreached_by : ErrorKind → Unreached
unreached_by PermissionDenied = Denied
unreached_by WouldBlock = Unanswered
unreached_by BrokenPipe = Unanswered
unreached_by ConnectionReset = Unanswered
unreached_by _ = NotRunning
