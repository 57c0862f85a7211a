-- What start, step and take answer, and what they leave in the stamp's place. Assumes nothing.
use Rattle.std.specs.Prelude.{◌≡◌, ℕ, ◌≤◌, min, Bool, true, Ok, Err, Result}
use Rattle.clock.specs.declared.refusals.Refusal.{Refusal}
use Rattle.clock.specs.Ports.{PortGives}
use Rattle.clock.specs.Refusals.{refusal_number}
use Rattle.clock.specs.Clocks.{Answers}

-- the start of a port number
abbrev pub Started : {Stamp : Type 0} → Answers Stamp → ℕ → Result Stamp Refusal → Type 0
Started c = PortGives c.start

-- a step of `old` leaves `new` in its place
abbrev pub Stepped : {Stamp Value : Type 0} → Answers Stamp → Stamp → Stamp → Result Value Refusal → Type 0
Stepped c old new (Ok _) = (1 ≤ c.room old) × (new ≡ c.step old)
Stepped c old new (Err f) = (c.room old ≡ 0) × (refusal_number f ≡ 10) × (new ≡ old)

-- a take of the message's stamp m by `old` leaves `new` in its place
abbrev pub Taken : {Stamp Value : Type 0} → Answers Stamp → Stamp → Stamp → Stamp → Result Value Refusal → Type 0
Taken c m old new (Ok _) = (1 ≤ c.room old) × (1 ≤ c.room m) × (new ≡ c.take old m)
Taken c m old new (Err f) = (min (c.room old) (c.room m) ≡ 0) × (refusal_number f ≡ 10) × (new ≡ old)

-- where the call is accepted, a is before b
abbrev pub BeforeIfAccepted : {Stamp Value : Type 0} → (Stamp → Stamp → Bool) → Stamp → Stamp → Result Value Refusal → Type 0
BeforeIfAccepted before a b (Ok _) = before a b ≡ true
BeforeIfAccepted before a b (Err _) = Unit {0}
