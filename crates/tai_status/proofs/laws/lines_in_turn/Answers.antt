use Rattle.tai_status.proofs.Texts.{lines_of-line, lines_of-last, lines_of-whole, texts_of-lines}
use Rattle.tai_status.proofs.laws.lines_in_turn.Goals as goal

pub returns : goal.returns
returns c = record { first = lines_of-line; last = lines_of-last; whole = lines_of-whole; texts = texts_of-lines }
