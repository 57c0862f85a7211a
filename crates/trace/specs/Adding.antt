-- Adding entries to a trace. A trace is the list of the entries accepted so far: event i is the entry at place i. Assumes nothing.
use Rattle.std.specs.Prelude.{◌≡◌, ℕ, Bool, false, cond, not, List, [], ◌∷◌, ◌++◌, map, length, take, is_some, Ok, Err, Option, Result, ◌==◌, nat_le}
use Rattle.std.specs.List.{position}
use Rattle.clock.specs.declared.refusals.Refusal.{Refusal}
use Rattle.clock.specs.Refusals.{refusal_number, lowest}
use Rattle.trace.specs.declared.entries.Entry.{Entry}
use Rattle.trace.specs.declared.entries.Entry.TheVariants.{Local, Send, Receipt}
use Rattle.trace.specs.declared.added.Added.{Added}
use Rattle.trace.specs.Entries.{sends, receives}
use Rattle.trace.specs.Forms.{form, entry_of, kind_byte, size_of, byte_conditions}

-- the event that sent the message n: the first that sends it
unfoldable pub sender_of : ℕ → List Entry → Option ℕ
sender_of n t = position (sends n) t

-- the event that received the message n: the first that receives it
unfoldable pub receiver_of : ℕ → List Entry → Option ℕ
receiver_of n t = position (receives n) t

-- the entry sends a message that was sent before
abbrev pub sent_before : List Entry → Entry → Bool
sent_before t (Local p) = false
sent_before t (Send p n) = is_some (sender_of n t)
sent_before t (Receipt p n) = false

-- the entry receives a message that nobody has sent
abbrev pub not_sent : List Entry → Entry → Bool
not_sent t (Local p) = false
not_sent t (Send p n) = false
not_sent t (Receipt p n) = not (is_some (sender_of n t))

-- the entry receives a message that has been received
abbrev pub received_before : List Entry → Entry → Bool
received_before t (Local p) = false
received_before t (Send p n) = false
received_before t (Receipt p n) = is_some (receiver_of n t)

-- for each refusal from 6 to 9, whether it applies to an entry after the events of t
abbrev pub event_conditions : List Entry → Entry → List Bool
event_conditions t e =
    -- 6: the trace holds 512 events
    nat_le 512 (length t)
    -- 7: a send of a number that was sent before
    ∷ sent_before t e
    -- 8: a receipt of a number that nobody has sent
    ∷ not_sent t e
    -- 9: a receipt of a number that has been received
    ∷ received_before t e
    ∷ []

-- For each refusal from 1 to 9, whether it applies to the bytes after the events of t: 1 nothing left, 2 unknown kind,
-- 3 too few bytes, 4 port above 7, 5 message above 511, 6 trace full, 7 sent before, 8 not sent, 9 received before.
abbrev pub conditions : List Entry → List ℕ → List Bool
conditions t bytes = byte_conditions bytes ++ event_conditions t (entry_of bytes)

-- the lowest refusal that applies to the bytes after the events of t, or 0
abbrev pub refusal_of : List Entry → List ℕ → ℕ
refusal_of t bytes = lowest 1 (conditions t bytes)

-- the trace after one try
abbrev pub tried : List Entry → List ℕ → List Entry
tried t bytes = cond (refusal_of t bytes == 0) (t ++ entry_of bytes ∷ []) t

abbrev pub after_from : List Entry → List (List ℕ) → List Entry
after_from t [] = t
after_from t (bytes ∷ tries) = after_from (tried t bytes) tries

-- the trace that a list of tries leaves of a new one
abbrev pub after : List (List ℕ) → List Entry
after tries = after_from [] tries

-- the trace is what the tries of its own entries leave of a new one
abbrev pub Reached : List Entry → Type 0
Reached t = after (map form t) ≡ t

-- the answer to an entry by itself
abbrev pub EntryAdds : List Entry → List Entry → Entry → Result ℕ Refusal → Type 0
EntryAdds old new e (Ok event) = (lowest 6 (event_conditions old e) ≡ 0) × (event ≡ length old) × (new ≡ old ++ e ∷ [])
EntryAdds old new e (Err f) = (lowest 6 (event_conditions old e) ≡ refusal_number f) × (new ≡ old)

-- an accepted try: no refusal applies, and the entry is the next event
pub record Accepts (old new : List Entry) (bytes : List ℕ) (answer : Added) : Type 0 where
  pub none_applies : refusal_of old bytes ≡ 0
  pub number : answer.event ≡ length old
  pub size : answer.used ≡ size_of (kind_byte bytes)
  pub stored : take answer.used bytes ≡ form (entry_of bytes)
  pub events : new ≡ old ++ entry_of bytes ∷ []

-- a refused try: the lowest refusal that applies, and nothing changed
pub record Refuses (old new : List Entry) (bytes : List ℕ) (f : Refusal) : Type 0 where
  pub applies : refusal_of old bytes ≡ refusal_number f
  pub unchanged : new ≡ old

abbrev pub Adds : List Entry → List Entry → List ℕ → Result Added Refusal → Type 0
Adds old new bytes (Ok answer) = Accepts old new bytes answer
Adds old new bytes (Err f) = Refuses old new bytes f
