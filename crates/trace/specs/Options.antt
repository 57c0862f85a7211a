-- Events that may be absent.
use Rattle.std.specs.Prelude.{◌≡◌, ℕ, true, false, is_some, Some, None, Option, refl}
use Rattle.std.proofs.Common.{sym, ap, subst}
use borrow.Author.Tests.{clash}
use Rattle.std.proofs.lemmas.Bool.{eqb-true, eq-eqb}
use Rattle.std.specs.Option.{option_or}
use Rattle.trace.specs.Messages.{same}

pub some_of : (o : Option ℕ) → is_some o ≡ true → (c : ℕ) × (o ≡ Some c)
some_of (Some c) h = (c, refl)
some_of None h = absurd (clash h)

pub none_of : (o : Option ℕ) → is_some o ≡ false → o ≡ None
none_of (Some c) h = absurd (clash (sym h))
none_of None h = refl

pub same_eq : (a b : Option ℕ) → same a b ≡ true → a ≡ b
same_eq None None h = refl
same_eq None (Some b) h = absurd (clash h)
same_eq (Some a) None h = absurd (clash h)
same_eq (Some a) (Some b) h = ap Some (eqb-true a b h)

same_refl : (a : Option ℕ) → same a a ≡ true
same_refl None = refl
same_refl (Some a) = eq-eqb a a refl

pub eq_same : (a b : Option ℕ) → a ≡ b → same a b ≡ true
eq_same a b e = subst (λ (x : Option ℕ). same a x ≡ true) e (same_refl a)

pub option_or-none : (a : Option ℕ) → option_or a None ≡ a
option_or-none None = refl
option_or-none (Some a) = refl

pub option_or-assoc : (x y z : Option ℕ) → option_or (option_or x y) z ≡ option_or x (option_or y z)
option_or-assoc None y z = refl
option_or-assoc (Some a) y z = refl
