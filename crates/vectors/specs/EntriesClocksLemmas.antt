-- Every clock of entries keeps the meaning of a clock.
use Rattle.std.specs.Prelude.{◌≡◌, ℕ, ◌+◌, ◌-◌, ◌<◌, ◌≤◌, min, max, true, List, length, slice_index}
use Rattle.std.proofs.Common.{sym, ap, ap₂, ◌∙◌, arith}
use Rattle.clock.specs.declared.ports.Port.{Port}
use Rattle.clock.specs.Orders.{Lawful}
use Rattle.clock.specs.Clocks.{Meaning}
use Rattle.vectors.specs.Entries.{largest, zeros, greater, one_more, entries_room, entries_take}
use Rattle.vectors.specs.EntriesClocks.{EntriesClock, clock_before, clock_answers}
use Rattle.vectors.specs.EntryLaws.{largest_within, largest_same, entry_zeros, entry_greater, own_entry, entry_rises, step_largest, take_largest, entries_after, entries_irreflexive, entries_transitive}

-- what the choices have to keep: a stamp that is made has the port and the entries that it was made of
pub record Sound {Stamp : Type 0} (c : EntriesClock Stamp) : Type 0 where
  pub owned_below : (p : Port) → c.owned p < c.count
  pub floor : 255 ≤ c.ceiling
  pub port_back : (p : Port) (e : List ℕ) → c.port_of (c.stamp_of p e) ≡ p
  pub entries_back : (p : Port) (e : List ℕ) (k : ℕ) → k < c.count → slice_index (c.entries_of (c.stamp_of p e)) k ≡ slice_index e k

module _ {Stamp : Type 0} (l : EntriesClock Stamp) (sound : Sound l) where
  pub clock_lawful : Lawful (clock_before l)
  clock_lawful = record {
    irreflexive = λ a. entries_irreflexive l.count (l.owned (l.port_of a)) (l.entries_of a);
    transitive = λ a b c x y. entries_transitive l.count (l.owned (l.port_of b)) (l.owned (l.port_of c)) (l.entries_of a) (l.entries_of b) (l.entries_of c) (sound.owned_below (l.port_of c)) x y;
  }

  -- a stamp of entries t on port p is after a stamp whose entries do not exceed t's and are below in p's own
  made_after : (a : Stamp) (p : Port) (t : List ℕ) → ((k : ℕ) → k < l.count → slice_index (l.entries_of a) k ≤ slice_index t k) → slice_index (l.entries_of a) (l.owned p) < slice_index t (l.owned p) → clock_before l a (l.stamp_of p t) ≡ true
  made_after a p t all at =
      rw sound.port_back (entries_after l.count (l.owned p) (l.entries_of a) (l.entries_of (l.stamp_of p t))
      (λ k h. omega (arith, all k h, sound.entries_back p t k h)) (omega (arith, at, sound.entries_back p t (l.owned p) (sound.owned_below p))))

  -- a take is after each stamp whose entries the greater ones cover
  take_covers : (a s m : Stamp) → ((k : ℕ) → slice_index (l.entries_of a) k ≤ max (slice_index (l.entries_of s) k) (slice_index (l.entries_of m) k)) → clock_before l a ((clock_answers l).take s m) ≡ true
  take_covers a s m cover =
      let n = l.count in
      let own = l.owned (l.port_of s) in
      let g = greater n (l.entries_of s) (l.entries_of m) in
      made_after a (l.port_of s) (one_more n own g)
      (λ k h. omega (arith, cover k, (entry_rises n own g k h).0, entry_greater n (l.entries_of s) (l.entries_of m) k h))
      (omega (arith, cover own, own_entry n own g (sound.owned_below (l.port_of s)), entry_greater n (l.entries_of s) (l.entries_of m) own (sound.owned_below (l.port_of s))))

  -- the room of what is made
  made_room : (p : Port) (e : List ℕ) → (clock_answers l).room (l.stamp_of p e) ≡ entries_room l.count l.ceiling e
  made_room p e = ap (λ n. l.ceiling - n) (largest_same l.count (l.entries_of (l.stamp_of p e)) e (sound.entries_back p e))

  pub clock_meaning : Meaning (clock_before l) (clock_answers l)
  clock_meaning = record {
    start_port = λ p. sound.port_back p (zeros l.count);
    start_room = λ p q. made_room p (zeros l.count) ∙ sym (made_room q (zeros l.count));
    start_floor = λ p. omega (arith, made_room p (zeros l.count), sound.floor, largest_within l.count (zeros l.count) 0 (λ k h. omega (arith, entry_zeros l.count k h)));
    step_before = λ s h. (
        let own = l.owned (l.port_of s) in
        made_after s (l.port_of s) (one_more l.count own (l.entries_of s)) (λ k j. (entry_rises l.count own (l.entries_of s) k j).0)
        (omega (arith, own_entry l.count own (l.entries_of s) (sound.owned_below (l.port_of s)))));
    step_port = λ s h. sound.port_back _ _;
    step_room = λ s h. (
        let e = one_more l.count (l.owned (l.port_of s)) (l.entries_of s) in
        omega (arith, made_room (l.port_of s) e, largest_within l.count e (largest l.count (l.entries_of s) + 1) (step_largest l.count (l.owned (l.port_of s)) (l.entries_of s))));
    take_before = λ s m h k. take_covers s s m (λ j. omega arith);
    take_after = λ s m h k. take_covers m s m (λ j. omega arith);
    take_port = λ s m h k. sound.port_back _ _;
    take_room = λ s m h k. (
        let e = entries_take l.count (l.owned (l.port_of s)) (l.entries_of s) (l.entries_of m) in
        omega (arith, made_room (l.port_of s) e, largest_within l.count e (max (largest l.count (l.entries_of s)) (largest l.count (l.entries_of m)) + 1) (take_largest l.count (l.owned (l.port_of s)) (l.entries_of s) (l.entries_of m))));
  }

  -- Entries e that are those of the stamp s: their room is its room, and what moves them in place moves it.

  same_room : (s : Stamp) (e : List ℕ) → e ≡ l.entries_of s → length e ≡ l.count → entries_room (length e) l.ceiling e ≡ (clock_answers l).room s
  same_room s e same len = ap (λ n. entries_room n l.ceiling e) len ∙ ap (entries_room l.count l.ceiling) same

  pub clock_stepped : (s : Stamp) (own : ℕ) (e t : List ℕ) → e ≡ l.entries_of s → length e ≡ l.count → own ≡ l.owned (l.port_of s) → 1 ≤ entries_room (length e) l.ceiling e → t ≡ one_more (length e) own e → ((1 ≤ (clock_answers l).room s) × (l.stamp_of (l.port_of s) t ≡ (clock_answers l).step s)) × (clock_before l s (l.stamp_of (l.port_of s) t) ≡ true)
  clock_stepped s own e t same len owned roomy made =
      let room : 1 ≤ (clock_answers l).room s = omega (arith, roomy, same_room s e same len) in
      let next : l.stamp_of (l.port_of s) t ≡ (clock_answers l).step s = ap (l.stamp_of (l.port_of s)) (made ∙ ap (λ n. one_more n own e) len ∙ ap (λ o. one_more l.count o e) owned ∙ ap (one_more l.count (l.owned (l.port_of s))) same) in
      ((room, next), ap (clock_before l s) next ∙ clock_meaning.step_before s room)

  pub clock_taken : (s m : Stamp) (own : ℕ) (e f t : List ℕ) → e ≡ l.entries_of s → f ≡ l.entries_of m → length e ≡ l.count → length f ≡ l.count → own ≡ l.owned (l.port_of s) → 1 ≤ min (entries_room (length e) l.ceiling e) (entries_room (length f) l.ceiling f) → t ≡ entries_take (length e) own e f → ((1 ≤ (clock_answers l).room s) × (1 ≤ (clock_answers l).room m) × (l.stamp_of (l.port_of s) t ≡ (clock_answers l).take s m)) × (clock_before l s (l.stamp_of (l.port_of s) t) ≡ true) × (clock_before l m (l.stamp_of (l.port_of s) t) ≡ true)
  clock_taken s m own e f t same message len length_f owned roomy made =
      let room : 1 ≤ (clock_answers l).room s = omega (arith, roomy, same_room s e same len) in
      let message_room : 1 ≤ (clock_answers l).room m = omega (arith, roomy, same_room m f message length_f) in
      let next : l.stamp_of (l.port_of s) t ≡ (clock_answers l).take s m = ap (l.stamp_of (l.port_of s)) (made ∙ ap (λ n. entries_take n own e f) len ∙ ap (λ o. entries_take l.count o e f) owned ∙ ap₂ (entries_take l.count (l.owned (l.port_of s))) same message) in
      ((room, message_room, next), ap (clock_before l s) next ∙ clock_meaning.take_before s m room message_room, ap (clock_before l m) next ∙ clock_meaning.take_after s m room message_room)
