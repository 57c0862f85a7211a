-- Lamport's scalar clock with a port. Assumes nothing.
use Rattle.std.specs.Prelude.{◌≡◌, ℕ, ◌+◌, ◌-◌, ◌<◌, ◌≤◌, max, Bool, Some, None, Option, nat_lt}
use Rattle.clock.specs.Clocks.{Answers}
use Rattle.examples.specs.declared.scalar.Scalar.{Scalar}
use Rattle.examples.specs.declared.scalar.ScalarStamp.{ScalarStamp}

-- the ceiling that the clock was made with
abbrev pub ceiling_of : Scalar → ℕ
ceiling_of c = c.ceiling

-- the answer to a ceiling
abbrev pub MadeScalar : ℕ → Option Scalar → Type 0
MadeScalar ceiling (Some c) = (255 ≤ ceiling) × (ceiling_of c ≡ ceiling)
MadeScalar ceiling None = ceiling < 255

-- an earlier time
abbrev pub scalar_before : ScalarStamp → ScalarStamp → Bool
scalar_before a b = nat_lt a.time b.time

abbrev pub scalar_answers : ℕ → Answers ScalarStamp
scalar_answers ceiling = record {
  port_of = λ s. s.port;
  room = λ s. ceiling - s.time;
  start = λ p. record { port = p; time = 0 };
  step = λ s. record { port = s.port; time = s.time + 1 };
  take = λ s m. record { port = s.port; time = max s.time m.time + 1 };
}
