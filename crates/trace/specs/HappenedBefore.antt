-- Happened-before (Lamport 1978) over the events of a trace, and their direct causes. Assumes nothing.
use Rattle.std.specs.Prelude.{◌≡◌, ℕ, ◌<◌, true, List, Some, None, Option}
use Rattle.std.specs.List.{slice_get}
use Rattle.trace.specs.declared.entries.Entry.{Entry}
use Rattle.trace.specs.Entries.{port_of, sends, receives}

-- event i of the trace is the entry e
abbrev pub Event : List Entry → ℕ → Entry → Type 0
Event t i e = slice_get t i ≡ Some e

-- events i and j are on one port
pub record SamePort (t : List Entry) (i j : ℕ) : Type 0 where
  pub first : Entry
  pub second : Entry
  pub first_is : Event t i first
  pub second_is : Event t j second
  pub same : port_of first ≡ port_of second

-- event i sent the message that event j received
pub record SentTo (t : List Entry) (i j : ℕ) : Type 0 where
  pub number : ℕ
  pub send : Entry
  pub receipt : Entry
  pub send_is : Event t i send
  pub receipt_is : Event t j receipt
  pub sent : sends number send ≡ true
  pub received : receives number receipt ≡ true

-- The smallest relation that holds between two events on one port, the earlier first, and between a send and its receipt,
-- and that goes on through a third event.
pub data HappenedBefore (t : List Entry) : ℕ → ℕ → Type 0 where
  on_port : {i j : ℕ} → i < j → SamePort t i j → HappenedBefore t i j
  by_message : {i j : ℕ} → SentTo t i j → HappenedBefore t i j
  through : {i j k : ℕ} → HappenedBefore t i j → HappenedBefore t j k → HappenedBefore t i k

-- The direct causes of event j: the last event before it on its port, if any, ..
abbrev pub PortCause : List Entry → ℕ → Option ℕ → Type 0
PortCause t j None = (i : ℕ) → i < j → SamePort t i j → ⊥
PortCause t j (Some c) = (c < j) × SamePort t c j × ((i : ℕ) → c < i → i < j → SamePort t i j → ⊥)

-- .. and the event that sent what it received, if it is a receipt.
abbrev pub MessageCause : List Entry → ℕ → Option ℕ → Type 0
MessageCause t j None = (i : ℕ) → SentTo t i j → ⊥
MessageCause t j (Some c) = (c < j) × SentTo t c j × ((i : ℕ) → SentTo t i j → i ≡ c)
