-- What the thread of a service gives back.
use Rattle.std.specs.Prelude.{◌≡◌, ℕ, IfSome}
use Rattle.tai_status.specs.declared.phase.Phase.TheVariants as phase
use Rattle.sup_core.specs.History.{phase_of}
use Rattle.svc_mail.specs.declared.receiver.Receiver.{Receiver}
use Rattle.svc_mail.specs.Ends.{taken_by}
use Rattle.svc_station.specs.declared.writer.Writer.{Writer}
use Rattle.svc_station.specs.Ends.{history_of, published}
use Rattle.svc_station.specs.Parking.{GoesOn, writer_in}
use Rattle.svc_house.specs.Calls.{bytes_in}
use Rattle.svc_house.specs.Mail.{items_of}
use Rattle.svc_host.specs.declared.running.WriterPlace.{WriterPlace}
use Rattle.svc_host.specs.declared.running.WriterPlace.TheVariants.{Thread, Here}
use Rattle.svc_host.specs.declared.service.Served.{Served}

-- The service is gone, and the control bytes of its whole history are the letters taken from its mailbox.
pub record IsServed {A : Type 0} (writer : Writer) (receiver : Receiver ℕ A) : Type 0 where
  pub gone : phase_of (history_of writer) ≡ phase.Gone
  pub bytes : bytes_in (published writer) ≡ items_of (taken_by receiver)

-- The writer that went comes back, and the service was served to its end, if it began.
abbrev pub ServesOut : {R : Type 0} → Writer → Served R → Type 0
ServesOut went served =
    GoesOn went (writer_in served.parked) × IfSome served.receiver (IsServed (writer_in served.parked))

-- the writer of a service, as it was when it went to its thread, or as it is here
abbrev pub writer_at : {R : Type 0} → WriterPlace R → Writer
writer_at (Thread handle) = writer_in handle.promise.went.value
writer_at (Here parked) = writer_in parked
