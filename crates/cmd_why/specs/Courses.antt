-- What is said about what a service does that its status does not say.
use Rattle.std.specs.Prelude.{ℕ, List, [], ◌++◌, codes}
use Rattle.tai_status.specs.Label.{Tai64n}
use Rattle.cmd_svc.specs.declared.course.Course.{Course}
use Rattle.cmd_svc.specs.declared.course.Course.TheVariants.{BackingOff, Finishing, Plain, Ready}

-- the time of it, or another one if it has none
abbrev pub time_of_course : Course → (other : Tai64n) → Tai64n
time_of_course (Ready label) other = label
time_of_course (BackingOff until) other = until
time_of_course course other = other

-- the sentence about it, with the local time of it
abbrev pub course_sentence : Course → (time : List ℕ) → List ℕ
course_sentence Plain time = []
course_sentence (Ready label) time = codes " It has been ready since " ++ time ++ codes "."
course_sentence Finishing time = codes " Its finish runs."
course_sentence (BackingOff until) time =
    codes " Its processes end too often: the next start waits until " ++ time ++ codes "."
