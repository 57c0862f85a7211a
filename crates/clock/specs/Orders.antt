-- Lawful orders. Assumes nothing.
use Rattle.std.specs.Prelude.{◌≡◌, Bool, true, false}

pub record Lawful {Item : Type 0} (before : Item → Item → Bool) : Type 0 where
  pub irreflexive : (a : Item) → before a a ≡ false
  pub transitive : (a b c : Item) → before a b ≡ true → before b c ≡ true → before a c ≡ true
