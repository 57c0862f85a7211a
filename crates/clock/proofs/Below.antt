-- A comparison of all numbers below a bound, as a test and as a statement.
use Rattle.std.proofs.Common.{ℕ, ◌<◌, ◌≤◌, leb, Decides, refl}
use Rattle.std.proofs.lemmas.Bool.{leb-true, le-leb}
use Rattle.std.proofs.lemmas.Bool.Decides.{Decides-below_and}
use Rattle.clock.specs.Below.{each_below}

pub each_decides : (f g : ℕ → ℕ) (n : ℕ) → Decides (each_below n (λ i. leb (f i) (g i))) ((i : ℕ) → i < n → f i ≤ g i)
each_decides f g n = Decides-below_and (λ i. leb (f i) (g i)) (λ i. f i ≤ g i) (λ m. each_below m (λ i. leb (f i) (g i))) (λ i. (leb-true (f i) (g i), le-leb (f i) (g i))) refl (λ _. refl) n
