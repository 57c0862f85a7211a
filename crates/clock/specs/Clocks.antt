-- What makes a lawful order a clock. Assumes nothing.
use Rattle.std.specs.Prelude.{◌≡◌, ℕ, ◌-◌, ◌≤◌, min, Bool, true}
use Rattle.clock.specs.declared.ports.Port.{Port}

-- A clock's answers besides its order. A step or a take is refused where a stamp it uses has room 0; what `step` and
-- `take` say there is never asked.
pub record Answers (Stamp : Type 0) : Type 0 where
  pub port_of : Stamp → Port
  pub room : Stamp → ℕ
  pub start : Port → Stamp
  pub step : Stamp → Stamp
  pub take : Stamp → Stamp → Stamp

-- What starts, steps and takes give, a sentence a line; `take s m` is the taker's stamp after the message's stamp m. When
-- they are refused stands in Moves.antt. By `step_before`, `take_before` and transitivity the start of a port is before
-- every stamp that steps and takes make of it, so it is the stamp of no event.
pub record Meaning {Stamp : Type 0} (before : Stamp → Stamp → Bool) (c : Answers Stamp) : Type 0 where
  pub start_port : (p : Port) → c.port_of (c.start p) ≡ p
  pub start_room : (p q : Port) → c.room (c.start p) ≡ c.room (c.start q)
  pub start_floor : (p : Port) → 255 ≤ c.room (c.start p)
  pub step_before : (s : Stamp) → 1 ≤ c.room s → before s (c.step s) ≡ true
  pub step_port : (s : Stamp) → 1 ≤ c.room s → c.port_of (c.step s) ≡ c.port_of s
  pub step_room : (s : Stamp) → 1 ≤ c.room s → c.room s - 1 ≤ c.room (c.step s)
  pub take_before : (s m : Stamp) → 1 ≤ c.room s → 1 ≤ c.room m → before s (c.take s m) ≡ true
  pub take_after : (s m : Stamp) → 1 ≤ c.room s → 1 ≤ c.room m → before m (c.take s m) ≡ true
  pub take_port : (s m : Stamp) → 1 ≤ c.room s → 1 ≤ c.room m → c.port_of (c.take s m) ≡ c.port_of s
  pub take_room : (s m : Stamp) → 1 ≤ c.room s → 1 ≤ c.room m → min (c.room s) (c.room m) - 1 ≤ c.room (c.take s m)
