-- The title of readproctitle (cr.yp.to/daemontools/readproctitle.html): the last bytes of a log, as `ps` shows them.
use Rattle.std.specs.Prelude.{List, ◌++◌, ℕ, ◌-◌, ◌==◌, not, filter, replicate}
use Rattle.circular_buffer.specs.Buffer.{keep_last}

abbrev pub dot : ℕ
dot = 46

-- three dots
abbrev pub dots : List ℕ
dots = replicate 3 dot

-- the bytes after the three dots, and the length of the title with the dots
pub record TitleParts : Type 0 where
  pub items : List ℕ
  pub len : ℕ

-- the title of this length before anything is pushed
abbrev pub new_title : ℕ → TitleParts
new_title len = record { items = replicate (len - 3) dot; len = len }

-- the bytes that are not NUL
abbrev pub without_nul : List ℕ → List ℕ
without_nul bytes = filter (λ byte. not (byte == 0)) bytes

-- the title after these bytes are pushed: the last of its items followed by the bytes that are not NUL, as many as fit
abbrev pub pushed : TitleParts → List ℕ → TitleParts
pushed title bytes = record { items = keep_last (title.len - 3) (title.items ++ without_nul bytes); len = title.len }

-- the text of a title: three dots and its items
abbrev pub title_text : TitleParts → List ℕ
title_text title = dots ++ title.items
