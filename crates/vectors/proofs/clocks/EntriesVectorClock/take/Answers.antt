use Rattle.std.specs.Prelude.{refl}
use Rattle.std.proofs.Common.{◌≡◌, map, ap, ◌∙◌, rules, arith}
use Rattle.vectors.specs.Entries.{largest, greater, one_more}
use Rattle.vectors.specs.EntryLaws.{greater_within}
use Rattle.vectors.specs.EntriesClocks.{clock_before}
use Rattle.vectors.specs.Vectors.{shared, sharing}
use Rattle.vectors.specs.VectorsLemmas.{sharing_meaning, made_of}
use Rattle.vectors.proofs.clocks.EntriesVectorClock.take.Goals as goal

pub advance-requires : goal.advance-requires
advance-requires g c =
    let n = g.row.R in
    let e = map g.C.Counter.value c.args.s.now.entries in
    let f = map g.C.Counter.value c.args.m.now.entries in
    (search rules, omega (arith, ap (largest n) c.raise.ensures, greater_within n e f))

pub returns : goal.returns
returns g c =
    let counter = g.C.Counter in
    let law = g.met.C.Counter in
    let n = g.row.R in
    let s = c.args.s.now in
    let m = c.args.m.now in
    let clock = sharing counter.value counter.of counter.CEILING n in
    let meaning = sharing_meaning counter.value counter.of counter.CEILING n c.args.self.now.count.some law.floor law.value_of in
    let e = map counter.value s.entries in
    let f = map counter.value m.entries in
    let own : map counter.value c.advance.new.entries ≡ one_more n (shared n s.port) (map counter.value c.raise.new.e) = search rules in
    let made : map counter.value c.advance.new.entries ≡ one_more n (shared n s.port) (greater n e f) = own ∙ ap (one_more n (shared n s.port)) c.raise.ensures in
    let next = made_of counter.value counter.of counter.CEILING n law.of_value (record { port = s.port; entries = c.advance.new.entries }) s.port _ refl made in
    record {
      moved = (omega arith, omega arith, next);
      later = ap (clock_before clock s) next ∙ meaning.take_before s m (omega arith) (omega arith);
      follows = ap (clock_before clock m) next ∙ meaning.take_after s m (omega arith) (omega arith);
    }
