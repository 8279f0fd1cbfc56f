-- The output of a pair's service and the pipe of its logger: the logger reads what goes into that pipe.
use Rattle.std.specs.Prelude.{ℕ, ◌==◌, not, if◌then◌else◌, List, [], ◌∷◌, Option, Some, None}
use Rattle.std.specs.List.{filter}
use Rattle.std.specs.declared.alloc.Global.{Global}
use Rattle.std.specs.declared.io.PipeReader.{PipeReader}
use Rattle.std.specs.declared.fs.File.{File}
use Rattle.std.specs.declared.sync.Arc.{Arc}
use Rattle.scan_table.specs.declared.part.Role.{Role}
use Rattle.scan_table.specs.declared.part.Role.TheVariants.{Main, Log}
use Rattle.svc_maker.specs.declared.pipes.PairPipes.{PairPipes}

-- the pipes of a slot, if it is a pair
abbrev pub pipes_of : (slot : ℕ) → List PairPipes → Option PairPipes
pipes_of slot [] = None
pipes_of slot (pair ∷ pairs) = if pair.slot == slot then Some pair else pipes_of slot pairs

-- the pipes of all other slots
abbrev pub pipes_without : (slot : ℕ) → List PairPipes → List PairPipes
pipes_without slot pairs = filter (λ (pair : PairPipes). not (pair.slot == slot)) pairs

-- the standard input of a part's children: for a pair's logger, the reading end of its pipe
abbrev pub input_of : Role → Option PairPipes → Option (Arc PipeReader Global)
input_of Log (Some pair) = Some pair.input
input_of Log None = None
input_of Main pair = None

-- their standard output: for a pair's service, its end of the output
abbrev pub output_of : Role → Option PairPipes → Option (Arc File Global)
output_of Main (Some pair) = Some pair.output
output_of Main None = None
output_of Log pair = None
