-- What a client asks of the folders of services, and the results.
use Rattle.std.specs.Prelude.{ℕ, Bool, List, Option}
use Rattle.tai_status.specs.declared.cause.Cause.{Cause}
use Rattle.svc_client.specs.declared.notice.Notice.{Notice}
use Rattle.svc_client.specs.declared.services.Unreached.{Unreached}

-- A call for the service in a folder, with its result. The calls, in the order of the constructors:
--
-- - Bytes were sent to it, and they arrived, or this is why they did not.
-- - It was asked whether it is supervised, and it is, or this is why it was not reached.
-- - Its status file was read, and these are its first 21 bytes at most, or it could not be read.
-- - A file `down` was looked for.
-- - A file `finish` was looked for.
-- - A notice of svscan about its processes was read, and this is its text, or it could not be read.
-- - It was asked when something in its folder `supervise` last changed, and it was at this time, or that was not found.
-- - It was asked whether there is a folder, and there is, or this is why there is none.
-- - It was asked for how many hundredths of a second a process has lived, and it was this many, or it does not live.
pub data Call : Type 0 where
  Sent : (folder bytes : List ℕ) → (fault : Option Unreached) → Call
  Reached : (folder : List ℕ) → (fault : Option Unreached) → Call
  ReadStatus : (folder : List ℕ) → (bytes : Option (List ℕ)) → Call
  SoughtDown : (folder : List ℕ) → (found : Bool) → Call
  SoughtFinish : (folder : List ℕ) → (found : Bool) → Call
  ReadNotice : (folder : List ℕ) → (notice : Notice) → (text : Option (List ℕ)) → Call
  SoughtChange : (folder : List ℕ) → (at : Option ℕ) → Call
  SoughtFolder : (folder : List ℕ) → (fault : Option Cause) → Call
  SoughtAge : (process : ℕ) → (age : Option ℕ) → Call
