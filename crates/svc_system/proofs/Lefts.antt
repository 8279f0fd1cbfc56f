-- What an earlier svscan left.
use Rattle.std.proofs.Common.{◌<◌, ℕ, List, Option, Some, None, ap, sym, ◌∙◌, subst, rules}
use Rattle.std.specs.Prelude.{IfSome}
use Rattle.svc_record.specs.Process.{IsLiving}
use Rattle.svc_record.specs.declared.process.ProcessId.{ProcessId}
use Rattle.svc_record.specs.declared.process.Fate.{Fate}
use Rattle.svc_record.specs.declared.process.Fate.TheVariants.{Unknown, Gone, Lives}
use Rattle.svc_system.specs.Fates.{IsFoundIn, IsOfBoot}

-- a process that was found to live has a number
pub found_living : (recorded : Option ProcessId) (boot : Option (List ℕ)) (tick : Option ℕ) (found : Fate)
    → IfSome recorded (λ process. 0 < process.pid) → IsFoundIn recorded boot tick found → IsLiving found
found_living recorded boot tick Unknown some h = tt
found_living recorded boot tick Gone some h = tt
found_living recorded None tick (Lives found) some h = cc h
found_living None (Some boot) tick (Lives found) some h = cc h
found_living (Some process) (Some boot) tick (Lives found) some h =
    subst (λ (p : ProcessId). 0 < p.pid) (sym (h.2)) some

-- and began in this boot
pub found_of_boot : (recorded : Option ProcessId) (boot : Option (List ℕ)) (tick : Option ℕ) (found : Fate)
    → IsFoundIn recorded boot tick found → IsOfBoot boot found
found_of_boot recorded boot tick Unknown h = tt
found_of_boot recorded None tick Gone h = cc h
found_of_boot recorded (Some boot) tick Gone h = search rules
found_of_boot recorded None tick (Lives found) h = cc h
found_of_boot None (Some boot) tick (Lives found) h = cc h
found_of_boot (Some process) (Some boot) tick (Lives found) h =
    ap (λ (b : List ℕ). Some b) (sym (h.0) ∙ ap (λ (p : ProcessId). p.boot) (sym (h.2)))
