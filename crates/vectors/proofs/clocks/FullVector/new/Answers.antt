use Rattle.std.proofs.Common.{ap}
use Rattle.vectors.specs.EntriesClocks.{clock_before, clock_answers}
use Rattle.vectors.proofs.Vectors.{full_is}
use Rattle.vectors.proofs.clocks.FullVector.new.Goals as goal

pub returns : goal.returns
returns c = record { order = ap clock_before full_is; answers = ap clock_answers full_is }
