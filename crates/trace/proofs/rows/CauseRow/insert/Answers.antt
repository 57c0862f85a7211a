use Rattle.std.proofs.Common.{ℕ, ◌/◌, ◌%◌, ◌<◌, length, get_or, set, ap, ◌∙◌, arith, rules}
use lib.Bits.{bit_or}
use Rattle.std.proofs.lemmas.Nat.{one_shl}
use Rattle.trace.specs.Rows.{held}
use Rattle.trace.proofs.Bits.{held_insert}
use Rattle.trace.proofs.rows.CauseRow.insert.Goals as goal

pub returns : goal.returns
returns c x =
    let ws = c.args.self.now.words in
    let a = c.args.event in
    let l : a / 64 < length ws = search rules in
    rw c.from.ensures (ap (λ (n : ℕ). held (set ws (a / 64) (bit_or (get_or ws (a / 64) 0) n)) x) (one_shl (a % 64) 64 (omega arith)) ∙ held_insert ws a x l)
