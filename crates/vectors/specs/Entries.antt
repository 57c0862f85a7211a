-- Entries of stamps: n numbers, of which each port owns one. Assumes nothing.
use Rattle.std.specs.Prelude.{ℕ, zero, suc, ◌+◌, ◌-◌, max, Bool, cond, ◌&&◌, List, map, ◌==◌, nat_le, nat_lt, slice_index}
use Rattle.std.specs.List.{range_with_len}
use Rattle.clock.specs.Below.{each_below}

-- none of the first n entries of a exceeds that of b
unfoldable pub none_exceeds : ℕ → List ℕ → List ℕ → Bool
none_exceeds n a b = each_below n (λ k. nat_le (slice_index a k) (slice_index b k))

-- the largest of the first n entries
unfoldable pub largest : ℕ → List ℕ → ℕ
largest zero e = 0
largest (suc k) e = max (slice_index e k) (largest k e)

-- n entries, all 0
abbrev pub zeros : ℕ → List ℕ
zeros n = map (λ (k : ℕ). 0) (range_with_len 0 n)

-- n entries, each the greater of two
unfoldable pub greater : ℕ → List ℕ → List ℕ → List ℕ
greater n a b = map (λ k. max (slice_index a k) (slice_index b k)) (range_with_len 0 n)

-- n entries, with 1 added to entry `own`
unfoldable pub one_more : ℕ → ℕ → List ℕ → List ℕ
one_more n own e = map (λ k. cond (k == own) (slice_index e k + 1) (slice_index e k)) (range_with_len 0 n)

-- All of a's entries are at most b's, and the one that the port of b owns, `own`, is less.
abbrev pub entries_before : ℕ → ℕ → List ℕ → List ℕ → Bool
entries_before n own a b = none_exceeds n a b && nat_lt (slice_index a own) (slice_index b own)

-- the ceiling less the largest entry
abbrev pub entries_room : ℕ → ℕ → List ℕ → ℕ
entries_room n ceiling e = ceiling - largest n e

-- each entry the greater of the taker's and the message's, and then 1 more in the taker's own
abbrev pub entries_take : ℕ → ℕ → List ℕ → List ℕ → List ℕ
entries_take n own e m = one_more n own (greater n e m)
