-- What `readproctitle` read.
use Rattle.std.proofs.Common.{◌≡◌, ℕ, ◌++◌, List, ap, ◌∙◌}
use Rattle.tai_status.specs.Counted.{Device, Gives}
use Rattle.env_title.specs.Title.{TitleParts, new_title, pushed}
use Rattle.env_title.proofs.Pushes.{pushed-pushed}
use Rattle.cmd_filters.specs.Title.{ShowsRead}
use Rattle.tai_status.proofs.Stamped.{Consumes-then}

pub ShowsRead-further : {len : ℕ} {before now after : Device} {title further : TitleParts} (more : List ℕ)
    → ShowsRead len before now title → Gives now after more → further ≡ pushed title more
    → ShowsRead len before after further
ShowsRead-further {len} {before} {now} {after} more s read is = record {
  bytes = s.bytes ++ more;
  read = Consumes-then before.bytes now.bytes after.bytes s.bytes more s.read read;
  is = is ∙ ap (λ (t : TitleParts). pushed t more) s.is ∙ pushed-pushed (new_title len) s.bytes more;
}
