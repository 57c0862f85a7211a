-- What a trace keeps of its events: the invariant of the trace struct. Assumes nothing.
use Rattle.std.specs.Prelude.{◌≡◌, ℕ, ◌<◌, Bool, true, ◌||◌, List, [], length, take, Some, None, Option, nat_lt, slice_index_or}
use Rattle.clock.specs.declared.ports.Port.TheVariants.{P0}
use Rattle.clock.specs.Refusals.{lowest}
use Rattle.trace.specs.declared.entries.Entry.{Entry}
use Rattle.trace.specs.declared.entries.Entry.TheVariants.{Local}
use Rattle.trace.specs.declared.causes.DirectCauses.{DirectCauses}
use Rattle.trace.specs.declared.causes.EventCauses.{EventCauses}
use Rattle.trace.specs.Entries.{message_number}
use Rattle.trace.specs.Adding.{event_conditions}
use Rattle.trace.specs.Decision.{last_on, last_for, send_for, at_or_before}
use Rattle.trace.specs.Messages.{same}
use Rattle.trace.specs.Rows.{in_row}

-- the entry of event i
abbrev pub entry_at : List Entry → ℕ → Entry
entry_at t i = slice_index_or t i (Local P0)

-- an entry that can come after the events of t
abbrev pub Acceptable : List Entry → Entry → Type 0
Acceptable t e = (message_number e < 512) × (lowest 6 (event_conditions t e) ≡ 0)

-- each entry could come after those before it
abbrev pub Accepted : List Entry → Type 0
Accepted t = (i : ℕ) → i < length t → Acceptable (take i t) (entry_at t i)

-- for each port the last event on it
abbrev pub Latest : List (Option ℕ) → List Entry → Type 0
Latest latest t = (p : ℕ) → p < 8 → same (slice_index_or latest p None) (last_on p t) ≡ true

-- what is kept of the causes of event j, where there is no such event none
abbrev pub causes_at : List EventCauses → ℕ → EventCauses
causes_at cs j = slice_index_or cs j (record { direct = record { previous = None; send = None }; row = record { words = [] } })

-- the direct causes that are kept of event j
abbrev pub direct_at : List EventCauses → ℕ → DirectCauses
direct_at cs j = (causes_at cs j).direct

-- .. are those of its entry
abbrev pub Caused : List EventCauses → List Entry → Type 0
Caused cs t =
    (j : ℕ) → j < length t
    → (same (direct_at cs j).previous (last_for (take j t) (entry_at t j)) ≡ true) × (same (direct_at cs j).send (send_for (take j t) (entry_at t j)) ≡ true)

-- an event that may be absent is below n
abbrev pub is_below : ℕ → Option ℕ → Bool
is_below n None = true
is_below n (Some c) = nat_lt c n

-- direct causes are lower in number than their event, so none leads back to it
abbrev pub Acyclic : List EventCauses → List Entry → Type 0
Acyclic cs t = (j : ℕ) → j < length t → (is_below j (direct_at cs j).previous ≡ true) × (is_below j (direct_at cs j).send ≡ true)

-- whether event i is in the row of event j
abbrev pub row_of : List EventCauses → ℕ → ℕ → Bool
row_of cs j i = in_row (causes_at cs j).row i

-- the row of an event has its direct causes and what is in their rows
abbrev pub Closed : List Entry → (ℕ → ℕ → Bool) → Type 0
Closed t row =
    (j : ℕ) → j < length t → (i : ℕ)
    → row j i ≡ (at_or_before row (last_for (take j t) (entry_at t j)) i || at_or_before row (send_for (take j t) (entry_at t j)) i)
