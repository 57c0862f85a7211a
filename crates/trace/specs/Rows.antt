-- Sets of event numbers as rows of bits, in words of 64. Assumes nothing.
use Rattle.std.specs.Prelude.{ℕ, zero, suc, ◌/◌, ◌%◌, ◌^◌, Bool, cond, List, [], ◌∷◌, ◌++◌, ◌==◌, slice_index}
use Rattle.trace.specs.declared.rows.CauseRow.{CauseRow}

-- whether bit k of n is set
unfoldable pub bit_at : ℕ → ℕ → Bool
bit_at n k = n / 2 ^ k % 2 == 1

-- whether bit k of words of 64 bits is set
unfoldable pub held : List ℕ → ℕ → Bool
held words k = bit_at (slice_index words (k / 64)) (k % 64)

-- whether the number k is in the row
abbrev pub in_row : CauseRow → ℕ → Bool
in_row row k = held row.words k

-- the numbers below n that pass a test, in rising order
unfoldable pub members : (ℕ → Bool) → ℕ → List ℕ
members test zero = []
members test (suc n) = members test n ++ cond (test n) (n ∷ []) []
