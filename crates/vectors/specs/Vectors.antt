-- The full vector and the R-entries vector, and every clock of their kind. Assumes nothing.
use Rattle.std.specs.Prelude.{ℕ, ◌%◌, map}
use Rattle.clock.specs.declared.ports.Port.{Port}
use Rattle.clock.specs.Ports.{port_number}
use Rattle.vectors.specs.declared.stamps.EntriesStamp.{EntriesStamp}
use Rattle.vectors.specs.EntriesClocks.{EntriesClock}

-- 8 entries up to 65,535, of which port p owns entry p
abbrev pub full_vector : EntriesClock (EntriesStamp ℕ 8)
full_vector = record {
  count = 8;
  ceiling = 65535;
  owned = port_number;
  port_of = λ s. s.port;
  entries_of = λ s. s.entries;
  stamp_of = λ p e. record { port = p; entries = e };
}

-- the entry that a port owns where the ports share n entries
abbrev pub shared : ℕ → Port → ℕ
shared n p = port_number p % n

-- 4 entries up to 255, of which port p owns entry p mod 4
abbrev pub rev : EntriesClock (EntriesStamp ℕ 4)
rev = record {
  count = 4;
  ceiling = 255;
  owned = shared 4;
  port_of = λ s. s.port;
  entries_of = λ s. s.entries;
  stamp_of = λ p e. record { port = p; entries = e };
}

-- n entries up to a ceiling that the ports share: `value` is the number that an entry holds, and `of` the entry that holds a
-- number
abbrev pub sharing : {Counter : Type 0} → (Counter → ℕ) → (ℕ → Counter) → (ceiling n : ℕ) → EntriesClock (EntriesStamp Counter n)
sharing value of ceiling n = record {
  count = n;
  ceiling = ceiling;
  owned = shared n;
  port_of = λ s. s.port;
  entries_of = λ s. map value s.entries;
  stamp_of = λ p e. record { port = p; entries = map of e };
}
