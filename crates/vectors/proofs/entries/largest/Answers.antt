use Rattle.std.proofs.Common.{◌≡◌, max, map, fold, ap, rules, arith}
use Rattle.std.proofs.iter.runs.Made.{chains}
use Rattle.vectors.specs.Entries.{largest}
use Rattle.vectors.specs.EntryLaws.{greatest_so_far}
use Rattle.vectors.proofs.entries.largest.Goals as goal

pub returns : goal.returns
returns g c =
    let value = g.C.Counter.value in
    let e = c.args.e.now in
    let chain : c.fold.result ≡ fold (λ most x. max (value x) most) 0 e = search (rules, chains) in
    omega (arith, chain, greatest_so_far value 0 e, ap (λ n. largest n (map value e)) c.told-e)
