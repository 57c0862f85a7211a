-- The choices of every clock whose ports share entries are sound, and what its stamps hold.
use Rattle.std.specs.Prelude.{◌≡◌, ℕ, zero, suc, ◌+◌, ◌<◌, ◌≤◌, List, [], ◌∷◌, map, replicate, slice_index, refl}
use Rattle.std.specs.List.{range_with_len}
use Rattle.std.proofs.Common.{sym, ap, ap₂, ◌∙◌, arith}
use Rattle.clock.specs.declared.ports.Port.{Port}
use Rattle.vectors.specs.declared.stamps.EntriesStamp.{EntriesStamp}
use Rattle.vectors.specs.Entries.{zeros}
use Rattle.vectors.specs.Vectors.{sharing}
use Rattle.clock.specs.Orders.{Lawful}
use Rattle.clock.specs.Clocks.{Meaning}
use Rattle.vectors.specs.EntriesClocks.{clock_before, clock_answers}
use Rattle.vectors.specs.EntriesClocksLemmas.{Sound, clock_lawful, clock_meaning}

-- a list of the entries that hold numbers, and the numbers that a list of entries holds
module _ {Counter : Type 0} (value : Counter → ℕ) (of : ℕ → Counter) where
  numbers_back : ((k : ℕ) → value (of k) ≡ k) → (e : List ℕ) → map value (map of e) ≡ e
  numbers_back back [] = refl
  numbers_back back (k ∷ e) = ap₂ ◌∷◌ (back k) (numbers_back back e)

  entries_back : ((x : Counter) → of (value x) ≡ x) → (e : List Counter) (t : List ℕ) → map value e ≡ t → e ≡ map of t
  entries_back back e t same = sym (list_back e) ∙ ap (map of) same
    where
      list_back : (e : List Counter) → map of (map value e) ≡ e
      list_back [] = refl
      list_back (x ∷ e) = ap₂ ◌∷◌ (back x) (list_back e)

  pub sharing_sound : (ceiling n : ℕ) → 0 < n → 255 ≤ ceiling → ((k : ℕ) → value (of k) ≡ k) → Sound (sharing value of ceiling n)
  sharing_sound ceiling n some floor back = record {
    owned_below = λ p. omega arith;
    floor = floor;
    port_back = λ p e. refl;
    entries_back = λ p e k h. ap (λ t. slice_index t k) (numbers_back back e);
  }

  module _ (ceiling n : ℕ) (some : 0 < n) (floor : 255 ≤ ceiling) (back : (k : ℕ) → value (of k) ≡ k) where
    pub sharing_lawful : Lawful (clock_before (sharing value of ceiling n))
    sharing_lawful = clock_lawful (sharing value of ceiling n) (sharing_sound ceiling n some floor back)

    pub sharing_meaning : Meaning (clock_before (sharing value of ceiling n)) (clock_answers (sharing value of ceiling n))
    sharing_meaning = clock_meaning (sharing value of ceiling n) (sharing_sound ceiling n some floor back)

  -- a stamp is the one that is made of its port and of the numbers that it holds
  pub made_of : (ceiling n : ℕ) → ((x : Counter) → of (value x) ≡ x) → (s : EntriesStamp Counter n) (p : Port) (t : List ℕ) → s.port ≡ p → map value s.entries ≡ t → s ≡ (sharing value of ceiling n).stamp_of p t
  made_of ceiling n back s p t on held = ap₂ (λ (q : Port) e. record { port = q; entries = e }) on (entries_back back s.entries t held)

-- what a start has
pub zeros_held : {Counter : Type 0} (of : ℕ → Counter) (n : ℕ) → replicate n (of 0) ≡ map of (zeros n)
zeros_held of n = held n 0
  where
    held : (n from : ℕ) → replicate n (of 0) ≡ map of (map (λ (k : ℕ). 0) (range_with_len from n))
    held zero from = refl
    held (suc n) from = ap (◌∷◌ (of 0)) (held n (from + 1))
