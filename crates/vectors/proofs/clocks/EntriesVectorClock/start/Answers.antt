use Rattle.std.proofs.Common.{rules}
use Rattle.vectors.specs.VectorsLemmas.{zeros_held}
use Rattle.vectors.proofs.clocks.EntriesVectorClock.start.Goals as goal

pub returns : goal.returns
returns g c = search (rules, c.zero.ensures, zeros_held g.C.Counter.of g.row.R)
