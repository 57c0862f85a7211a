use Rattle.std.proofs.Common.{rules, refl}
use Rattle.std.proofs.lemmas.Slice.Eq.{slice_eq-Decides}
use Rattle.vectors.proofs.clocks.EntriesVectorClock.same.Goals as goal

pub returns : goal.returns
returns g c =
    let entries = slice_eq-Decides g.met.C.Counter.identical c.args.a.now.entries c.args.b.now.entries _ refl in
    search (rules, entries)
