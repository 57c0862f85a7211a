-- The eight ports by their numbers. Assumes nothing.
use Rattle.std.specs.Prelude.{◌≡◌, ℕ, ◌<◌, ◌≤◌, [], ◌∷◌, Ok, Err, Result, slice_index_or}
use Rattle.clock.specs.declared.ports.Port.{Port}
use Rattle.clock.specs.declared.ports.Port.TheVariants.{P0, P1, P2, P3, P4, P5, P6, P7}
use Rattle.clock.specs.declared.refusals.Refusal.{Refusal}
use Rattle.clock.specs.Refusals.{refusal_number}

abbrev pub port_number : Port → ℕ
port_number P0 = 0
port_number P1 = 1
port_number P2 = 2
port_number P3 = 3
port_number P4 = 4
port_number P5 = 5
port_number P6 = 6
port_number P7 = 7

-- the port of a number below 8
abbrev pub port_at : ℕ → Port
port_at n = slice_index_or (P0 ∷ P1 ∷ P2 ∷ P3 ∷ P4 ∷ P5 ∷ P6 ∷ P7 ∷ []) n P7

-- the answer to a port number: what its port gives below 8, refusal 4 from 8 on
abbrev pub PortGives : {Value : Type 0} → (Port → Value) → ℕ → Result Value Refusal → Type 0
PortGives give n (Ok v) = (n < 8) × (v ≡ give (port_at n))
PortGives give n (Err f) = (8 ≤ n) × (refusal_number f ≡ 4)

-- the answer to a port number: its port
abbrev pub PortAnswer : ℕ → Result Port Refusal → Type 0
PortAnswer = PortGives (λ p. p)
