-- The K-Lamport clock, over its number of entries. Assumes nothing.
use Rattle.std.specs.Prelude.{◌≡◌, ℕ, suc, ◌+◌, ◌-◌, ◌≤◌, max, Bool, true, false, cond, not, ◌&&◌, List, ◌∷◌, map, ◌==◌, nat_le, nat_lt, slice_index}
use Rattle.std.specs.List.{range_with_len}
use Rattle.clock.specs.declared.ports.Port.{Port}
use Rattle.clock.specs.Below.{each_below}
use Rattle.clock.specs.Ports.{port_number}
use Rattle.clock.specs.Clocks.{Answers}
use Rattle.lamport.specs.declared.klamport.KLamportStamp.{KLamportStamp}

-- of k entries, none is greater than the one before it
abbrev pub descending : ℕ → List ℕ → Bool
descending k e = each_below (k - 1) (λ i. nat_le (slice_index e (suc i)) (slice_index e i))

-- some entry is greater than the one before it
abbrev pub rising : ℕ → KLamportStamp → Bool
rising k s = not (descending k s.entries)

-- no entry of a from 1 up exceeds the same entry of b
abbrev pub one_port_bound : ℕ → List ℕ → List ℕ → Bool
one_port_bound k a b = each_below (k - 1) (λ i. nat_le (slice_index a (suc i)) (slice_index b (suc i)))

-- no entry of a but the last exceeds the next entry of b
abbrev pub two_ports_bound : ℕ → List ℕ → List ℕ → Bool
two_ports_bound k a b = each_below (k - 1) (λ i. nat_le (slice_index a i) (slice_index b (suc i)))

-- Neither rises, the first entry of a is smaller, and the others are bounded as for one port or for two.
abbrev pub entries_precede : ℕ → Bool → List ℕ → List ℕ → Bool
entries_precede k one_port a b =
    descending k a && (descending k b && (nat_lt (slice_index a 0) (slice_index b 0) && cond one_port (one_port_bound k a b) (two_ports_bound k a b)))

abbrev pub lamport_before : ℕ → KLamportStamp → KLamportStamp → Bool
lamport_before k a b = entries_precede k (port_number a.port == port_number b.port) a.entries b.entries

-- a stamp of k entries, by the first and the others
abbrev pub stamp_of : ℕ → Port → ℕ → (ℕ → ℕ) → KLamportStamp
stamp_of k p first others = record { port = p; entries = first ∷ map others (range_with_len 0 (k - 1)) }

-- A step adds 1 to the first entry. A take of the message's entries w makes the first the greater of both and 1 more,
-- and each other the greater of the taker's and of the one before it in w.
abbrev pub lamport_answers : ℕ → Answers KLamportStamp
lamport_answers k = record {
  port_of = λ s. s.port;
  room = λ s. cond (descending k s.entries) (65535 - slice_index s.entries 0) 0;
  start = λ p. stamp_of k p 0 (λ i. 0);
  step = λ s. stamp_of k s.port (slice_index s.entries 0 + 1) (λ i. slice_index s.entries (suc i));
  take = λ s m. stamp_of k s.port (max (slice_index s.entries 0) (slice_index m.entries 0) + 1) (λ i. max (slice_index s.entries (suc i)) (slice_index m.entries i));
}

-- A stamp that rises has no room and is ordered with no other; no start, step or take of this clock makes one.
pub record RisingApart (k : ℕ) : Type 0 where
  pub no_room : (s : KLamportStamp) → rising k s ≡ true → (lamport_answers k).room s ≡ 0
  pub before_none : (a b : KLamportStamp) → rising k a ≡ true → lamport_before k a b ≡ false
  pub after_none : (a b : KLamportStamp) → rising k b ≡ true → lamport_before k a b ≡ false
  pub no_start : (p : Port) → rising k ((lamport_answers k).start p) ≡ false
  pub no_step : (s : KLamportStamp) → 1 ≤ (lamport_answers k).room s → rising k ((lamport_answers k).step s) ≡ false
  pub no_take : (s m : KLamportStamp) → 1 ≤ (lamport_answers k).room s → 1 ≤ (lamport_answers k).room m → rising k ((lamport_answers k).take s m) ≡ false
