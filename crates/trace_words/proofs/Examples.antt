-- What some command lines ask for.
use Rattle.std.proofs.Common.{◌≡◌, [], ◌∷◌, true, false, Some, None, codes, refl}
use Rattle.clap.proofs.OnLiterals.{clap_on_literals}
use Rattle.trace_words.specs.Words.{asked_of}
use Rattle.trace_words.specs.Examples.{asking}

pub file_alone : asked_of (codes "t" ∷ []) ≡ asking (codes "t") None false
unfolding clap_on_literals asked_of
file_alone = refl

pub break_behind_file : asked_of (codes "t" ∷ codes "--break" ∷ codes "byte:d" ∷ [])
    ≡ asking (codes "t") (Some (codes "byte:d")) false
unfolding clap_on_literals asked_of
break_behind_file = refl

pub break_before_file : asked_of (codes "--break=byte:d" ∷ codes "t" ∷ [])
    ≡ asking (codes "t") (Some (codes "byte:d")) false
unfolding clap_on_literals asked_of
break_before_file = refl

pub file_behind_dashes : asked_of (codes "--" ∷ codes "--break" ∷ []) ≡ asking (codes "--break") None false
unfolding clap_on_literals asked_of
file_behind_dashes = refl

pub local_before_file : asked_of (codes "--local" ∷ codes "t" ∷ []) ≡ asking (codes "t") None true
unfolding clap_on_literals asked_of
local_before_file = refl

pub local_behind_break : asked_of (codes "t" ∷ codes "--break" ∷ codes "byte:d" ∷ codes "--local" ∷ [])
    ≡ asking (codes "t") (Some (codes "byte:d")) true
unfolding clap_on_literals asked_of
local_behind_break = refl

pub local_behind_dashes : asked_of (codes "--" ∷ codes "--local" ∷ []) ≡ asking (codes "--local") None false
unfolding clap_on_literals asked_of
local_behind_dashes = refl

pub no_word : asked_of [] ≡ None
unfolding clap_on_literals asked_of
no_word = refl

pub two_files : asked_of (codes "t" ∷ codes "u" ∷ []) ≡ None
unfolding clap_on_literals asked_of
two_files = refl

pub break_twice : asked_of (codes "--break" ∷ codes "byte:d" ∷ codes "--break" ∷ codes "byte:u" ∷ codes "t" ∷ []) ≡ None
unfolding clap_on_literals asked_of
break_twice = refl

pub break_without_value : asked_of (codes "t" ∷ codes "--break" ∷ []) ≡ None
unfolding clap_on_literals asked_of
break_without_value = refl

pub unknown_option : asked_of (codes "t" ∷ codes "-x" ∷ []) ≡ None
unfolding clap_on_literals asked_of
unknown_option = refl

pub help_flag : asked_of (codes "--help" ∷ []) ≡ None
unfolding clap_on_literals asked_of
help_flag = refl

pub local_alone : asked_of (codes "--local" ∷ []) ≡ None
unfolding clap_on_literals asked_of
local_alone = refl

pub local_twice : asked_of (codes "--local" ∷ codes "t" ∷ codes "--local" ∷ []) ≡ None
unfolding clap_on_literals asked_of
local_twice = refl

pub local_with_value : asked_of (codes "--local=yes" ∷ codes "t" ∷ []) ≡ None
unfolding clap_on_literals asked_of
local_with_value = refl
