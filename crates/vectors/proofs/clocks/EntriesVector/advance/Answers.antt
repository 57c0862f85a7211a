use Rattle.std.proofs.Common.{◌≡◌, ◌+◌, map, get_or, set, slice_index_or, sym, ap, ◌∙◌, arith}
use Rattle.std.proofs.lemmas.List.{get_or-map, map-set, length-map}
use Rattle.vectors.specs.Entries.{one_more}
use Rattle.vectors.specs.EntryLaws.{entry_largest, one_more_set}
use Rattle.vectors.proofs.clocks.EntriesVector.advance.Goals as goal

pub next-requires : goal.next-requires
next-requires g c =
    let value = g.C.Counter.value in
    let counters = c.args.entries.now in
    let e = map value counters in
    let own = c.owned-own.result in
    let read : value (slice_index_or counters own c.index-entries-own.result) ≡ get_or e own 0 = sym (get_or-map value counters own c.index-entries-own.result 0 (omega arith)) in
    omega (arith, read, entry_largest g.row.R e own c.owned-own.ensures.bound)

pub returns : goal.returns
returns g c =
    let value = g.C.Counter.value in
    let counters = c.args.entries.now in
    let e = map value counters in
    let own = c.owned-own.result in
    let n = g.row.R in
    let read : value c.index-entries-own.result ≡ get_or e own 0 = ap value c.index-entries-own.is ∙ sym (get_or-map value counters own c.index-entries-own.result 0 (omega arith)) in
    let more : value c.next.result ≡ get_or e own 0 + 1 = ap value c.next.ensures ∙ g.met.C.Counter.value_of _ ∙ omega (arith, read, ap value c.index-entries-own.is) in
    map-set value counters own c.next.result ∙ ap (set e own) more ∙ one_more_set n own e c.owned-own.ensures.bound (length-map counters value ∙ omega arith) ∙ ap (λ o. one_more n o e) c.owned-own.ensures.value
