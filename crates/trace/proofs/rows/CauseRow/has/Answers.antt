use Rattle.std.proofs.Common.{◌≡◌, ℕ, ◌/◌, ◌%◌, ◌^◌, ◌<◌, ◌≤◌, Bool, false, eqb, List, length, get_or, Some, None, Option, MatchOption, sym, ap, ◌∙◌, rules}
use denote.Ref.{Bor}
use Rattle.std.specs.List.{HoldsAt}
use Rattle.std.proofs.lemmas.List.{get_or_past}
use Rattle.trace.specs.Rows.{bit_at, held}
use Rattle.trace.proofs.Bits.{bit_zero}
use Rattle.trace.proofs.rows.CauseRow.has.Goals as goal

-- bit k of the word at i, and where there is no such word none
bit_found : (ws : List ℕ) (i k : ℕ) (word : Option (Bor ℕ)) (answer : Bool) → MatchOption word (length ws ≤ i) (λ w. (i < length ws) × HoldsAt (λ x. w.now ≡ x) ws i)
    → MatchOption word (answer ≡ false) (λ w. answer ≡ eqb (w.now / 2 ^ k % 2) 1) → answer ≡ bit_at (get_or ws i 0) k
unfolding bit_at
bit_found ws i k None answer past h = h ∙ sym (bit_zero k) ∙ ap (λ (w : ℕ). bit_at w k) (sym (get_or_past ws i 0 past))
bit_found ws i k (Some w) answer there h = h ∙ ap (λ (x : ℕ). bit_at x k) (there.1 0)

pub returns : goal.returns
unfolding held
returns c =
    let answer = bit_found c.args.self.now.words c.from.result (c.args.event % 64) c.get.result c.is_some_and.result c.get.ensures.lookup.3 (search rules) in
    answer ∙ ap (λ (i : ℕ). bit_at (get_or c.args.self.now.words i 0) (c.args.event % 64)) c.from.ensures
