-- The papers of a service that are still to be written.
use Rattle.std.specs.Prelude.{Bool, false, if◌then◌else◌, Option, Some, None}
use Rattle.svc_world.specs.declared.paper.Owed.{Owed}
use Rattle.svc_world.specs.declared.paper.Paper.{Paper}
use Rattle.svc_world.specs.declared.paper.Paper.TheVariants.{Place, Process, Status, Exit, Counts, Ready, Backoff}

abbrev pub nothing_owed : Owed
nothing_owed = record {
  place = false;
  process = false;
  status = false;
  exit = false;
  counts = false;
  ready = false;
  backoff = false;
}

-- the same, except that this paper is owed or not
abbrev pub with_owed : Paper → (owed : Bool) → Owed → Owed
with_owed Place owed all = record all { place = owed }
with_owed Process owed all = record all { process = owed }
with_owed Status owed all = record all { status = owed }
with_owed Exit owed all = record all { exit = owed }
with_owed Counts owed all = record all { counts = owed }
with_owed Ready owed all = record all { ready = owed }
with_owed Backoff owed all = record all { backoff = owed }

-- whether this paper is owed
abbrev pub is_owed : Paper → Owed → Bool
is_owed Place all = all.place
is_owed Process all = all.process
is_owed Status all = all.status
is_owed Exit all = all.exit
is_owed Counts all = all.counts
is_owed Ready all = all.ready
is_owed Backoff all = all.backoff

-- the first paper that is owed
abbrev pub first_owed : Owed → Option Paper
first_owed all =
    if all.place then Some Place
    else if all.process then Some Process
    else if all.status then Some Status
    else if all.exit then Some Exit
    else if all.counts then Some Counts
    else if all.ready then Some Ready
    else if all.backoff then Some Backoff
    else None
