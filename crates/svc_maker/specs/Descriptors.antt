-- Whether this process has enough descriptors for one more part.
use Rattle.std.specs.Prelude.{ℕ, Bool, ◌+◌, ◌*◌, nat_lt}
use Rattle.svc_maker.specs.declared.descriptors.TheConstants.{SOCKETS}

-- Each waiting part, and one more, needs its sockets in addition to the descriptors that are taken.
abbrev pub are_too_few : (taken waiting allowed : ℕ) → Bool
are_too_few taken waiting allowed = nat_lt allowed (taken + SOCKETS * (waiting + 1))
