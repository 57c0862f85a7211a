use Rattle.std.proofs.Common.{◌+◌, map, ap, ◌∙◌, subst, sym, arith}
use Rattle.std.proofs.lemmas.List.{get_or-map, map-set, length-map, length-set}
use Rattle.vectors.specs.EntryLaws.{GreaterBelow, greater_next, greater_all}
use Rattle.vectors.proofs.entries.raise.Goals as goal

pub loop-k-preserved : goal.loop-k-preserved
loop-k-preserved g c =
    let value = g.C.Counter.value in
    let e = c.loop-k.e in
    let k = c.loop-k.k in
    let old = c.args.e.now in
    let m = c.args.m.now in
    let is_e = get_or-map value e k c.index-e-k.result 0 (omega arith) in
    let is_m = get_or-map value m k c.index-m-k.result 0 (omega arith) in
    let next = greater_next k (value c.greater_of.result) (map value old) (map value m) (map value e) (omega (arith, length-map e value)) (omega (arith, is_e, is_m, c.greater_of.ensures, ap value c.index-e-k.is, ap value c.index-m-k.is)) c.loop-k.invariant.1 in
    (omega (arith, length-set e k c.greater_of.result), subst (GreaterBelow (k + 1) (map value old) (map value m)) (sym (map-set value e k c.greater_of.result)) next)

pub returns : goal.returns
returns g c = greater_all g.row.R c.loop-k.k _ _ _ c.loop-k-test.false (length-map c.loop-k.e _ ∙ c.loop-k.invariant.0) c.loop-k.invariant.1
