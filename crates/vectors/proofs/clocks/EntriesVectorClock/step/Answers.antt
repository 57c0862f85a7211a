use Rattle.std.specs.Prelude.{refl}
use Rattle.std.proofs.Common.{ap, ◌∙◌, arith}
use Rattle.vectors.specs.EntriesClocks.{clock_before}
use Rattle.vectors.specs.Vectors.{sharing}
use Rattle.vectors.specs.VectorsLemmas.{sharing_meaning, made_of}
use Rattle.vectors.proofs.clocks.EntriesVectorClock.step.Goals as goal

pub returns : goal.returns
returns g c =
    let counter = g.C.Counter in
    let law = g.met.C.Counter in
    let n = g.row.R in
    let s = c.args.s.now in
    let clock = sharing counter.value counter.of counter.CEILING n in
    let meaning = sharing_meaning counter.value counter.of counter.CEILING n c.args.self.now.count.some law.floor law.value_of in
    let next = made_of counter.value counter.of counter.CEILING n law.of_value (record { port = s.port; entries = c.advance.new.entries }) s.port _ refl c.advance.ensures in
    record { moved = (omega arith, next); later = ap (clock_before clock s) next ∙ meaning.step_before s (omega arith) }
