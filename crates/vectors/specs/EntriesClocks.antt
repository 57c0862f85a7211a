-- Clocks whose stamps are a port and a number of entries, of which each port owns one. Assumes nothing.
use Rattle.std.specs.Prelude.{ℕ, Bool, List}
use Rattle.clock.specs.declared.ports.Port.{Port}
use Rattle.clock.specs.Clocks.{Answers}
use Rattle.vectors.specs.Entries.{zeros, one_more, entries_before, entries_room, entries_take}

-- What such a clock chooses: how many entries there are and how high they go, which of them a port owns, and how a stamp
-- holds its port and its entries.
pub record EntriesClock (Stamp : Type 0) : Type 0 where
  pub count : ℕ
  pub ceiling : ℕ
  pub owned : Port → ℕ
  pub port_of : Stamp → Port
  pub entries_of : Stamp → List ℕ
  pub stamp_of : Port → List ℕ → Stamp

abbrev pub clock_before : {Stamp : Type 0} → EntriesClock Stamp → Stamp → Stamp → Bool
clock_before c a b = entries_before c.count (c.owned (c.port_of b)) (c.entries_of a) (c.entries_of b)

abbrev pub clock_answers : {Stamp : Type 0} → EntriesClock Stamp → Answers Stamp
clock_answers c = record {
  port_of = c.port_of;
  room = λ s. entries_room c.count c.ceiling (c.entries_of s);
  start = λ p. c.stamp_of p (zeros c.count);
  step = λ s. c.stamp_of (c.port_of s) (one_more c.count (c.owned (c.port_of s)) (c.entries_of s));
  take = λ s m. c.stamp_of (c.port_of s) (entries_take c.count (c.owned (c.port_of s)) (c.entries_of s) (c.entries_of m));
}
