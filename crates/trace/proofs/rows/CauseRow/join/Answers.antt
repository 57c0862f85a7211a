use Rattle.std.proofs.Common.{ℕ, get_or, rules}
use lib.Bits.{bit_or}
use Rattle.trace.proofs.Bits.{held_join, made}
use Rattle.trace.proofs.rows.CauseRow.join.Goals as goal

pub returns : goal.returns
returns c =
    let ws = c.args.self.now.words in
    let us = c.args.other.now.words in
    let vs = c.from_fn-self.result in
    held_join ws us vs (search rules) (search rules) (search rules)
    (made (λ (k : ℕ). bit_or (get_or ws k 0) (get_or us k 0)) vs 8 (λ i y q l w. (search rules, search rules)) c.from_fn-self.ensures.items)
