use Rattle.std.proofs.Common.{◌≡◌, ◌∙◌, rules}
use lib.Count.{ones}
use Rattle.std.specs.List.{sum_by}
use Rattle.std.proofs.iter.runs.Made.{chains}
use Rattle.trace.proofs.Bits.{count_words, count_words_few}
use Rattle.trace.proofs.rows.count_held.Goals as goal

pub sum-requires-clause-fits : goal.sum-requires-clause-fits
sum-requires-clause-fits c =
    let few = count_words_few c.args.words.now c.requires (λ k. (c.type_inv.words k).fits) in search (rules, chains)

pub returns : goal.returns
returns c =
    let ws = c.args.words.now in
    let sum : c.sum.result ≡ sum_by ones ws = search (rules, chains) in sum ∙ count_words ws c.requires (λ k. (c.type_inv.words k).fits)
