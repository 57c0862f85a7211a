use Rattle.std.proofs.Common.{◌<◌, ◌≤◌, rules, tests}
use Rattle.std.proofs.lemmas.Iterator.{YieldsList-from_slice, YieldsList-from_zip, cases_from_all}
use Rattle.vectors.specs.EntryLaws.{none_tested}
use Rattle.vectors.proofs.entries.none_exceeds.Goals as goal

pub returns : goal.returns
returns g c =
    let counter = g.C.Counter in
    let cases = cases_from_all c.all.new.self _ c.all.result (λ p. counter.value p.0 ≤ counter.value p.1) (λ p. counter.value p.1 < counter.value p.0) c.all.ensures.ran (YieldsList-from_zip (YieldsList-from_slice c.args.a.now cc) (YieldsList-from_slice c.args.b.now cc)) (λ x q k. search (rules, tests)) (λ x q k. search (rules, tests)) in
    none_tested counter.value _ _ _ (counter.of 0) c.told-a c.told-b c.all.result cases
