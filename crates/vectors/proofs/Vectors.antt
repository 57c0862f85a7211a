-- An entry of 8 or 16 bits is the number that it holds, so the generic clock over such entries is the one over numbers.
use Rattle.std.specs.Prelude.{◌≡◌, ℕ, refl}
use Rattle.std.proofs.Common.{subst, lit≤}
use Rattle.std.proofs.lemmas.List.{map-id}
use Rattle.std.proofs.Math.Nat.{mod-eq_of_lt}
use Rattle.clock.specs.declared.ports.Port.{Port}
use Rattle.clock.specs.Ports.{port_number}
use Rattle.clock.proofs.Numbers.{port_low}
use Rattle.vectors.specs.Vectors.{full_vector, shared, rev, sharing}
use Rattle.vectors.specs.VectorsLemmas.{sharing_sound}
use Rattle.vectors.specs.EntriesClocksLemmas.{Sound}

-- where 8 entries are shared each port owns its own
alone : (p : Port) → shared 8 p ≡ port_number p
alone p = mod-eq_of_lt (port_low p)

pub full_is : sharing (λ (k : ℕ). k) (λ k. k) 65535 8 ≡ full_vector
full_is i = record {
  count = 8;
  ceiling = 65535;
  owned = λ p. alone p i;
  port_of = λ s. s.port;
  entries_of = λ s. map-id s.entries i;
  stamp_of = λ p e. record { port = p; entries = map-id e i };
}

pub rev_is : sharing (λ (k : ℕ). k) (λ k. k) 255 4 ≡ rev
rev_is i = record {
  count = 4;
  ceiling = 255;
  owned = shared 4;
  port_of = λ s. s.port;
  entries_of = λ s. map-id s.entries i;
  stamp_of = λ p e. record { port = p; entries = map-id e i };
}

-- so the choices of the two clocks are sound

pub full_sound : Sound full_vector
full_sound = subst Sound full_is (sharing_sound (λ k. k) (λ k. k) 65535 8 (lit≤ tt) (lit≤ tt) (λ k. refl))

pub rev_sound : Sound rev
rev_sound = subst Sound rev_is (sharing_sound (λ k. k) (λ k. k) 255 4 (lit≤ tt) (lit≤ tt) (λ k. refl))
