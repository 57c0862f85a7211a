-- The table of messages: the sending and the receiving event of each number. Assumes nothing.
use Rattle.std.specs.Prelude.{◌≡◌, ℕ, ◌<◌, Bool, true, false, not, List, [], ◌∷◌, is_some, Some, None, Ok, Err, Option, Result, nat_eq, slice_index_or, slice_set}
use Rattle.std.specs.Option.{option_eq}
use Rattle.clock.specs.declared.refusals.Refusal.{Refusal}
use Rattle.clock.specs.Refusals.{refusal_number, lowest}
use Rattle.trace.specs.declared.entries.Entry.{Entry}
use Rattle.trace.specs.declared.entries.Entry.TheVariants.{Local, Send, Receipt}
use Rattle.trace.specs.declared.messages.MessageRecord.{MessageRecord}
use Rattle.trace.specs.Adding.{sender_of, receiver_of}

-- the record of a message that was neither sent nor received
abbrev pub unused : MessageRecord
unused = record { sender = None; receiver = None }

abbrev pub record_at : List MessageRecord → ℕ → MessageRecord
record_at rs n = slice_index_or rs n unused

-- whether two events that may be absent are the same
abbrev pub same : Option ℕ → Option ℕ → Bool
same a b = option_eq nat_eq a b

-- the table agrees with the events: each record has the sender and the receiver of its message
abbrev pub Agrees : List MessageRecord → List Entry → Type 0
Agrees rs t =
    (n : ℕ) → n < 512 → (same (record_at rs n).sender (sender_of n t) ≡ true) × (same (record_at rs n).receiver (receiver_of n t) ≡ true)

-- for each refusal from 7 to 9, whether a record lets it apply to a send or a receipt of its message
abbrev pub send_conditions : MessageRecord → List Bool
send_conditions m = is_some m.sender ∷ false ∷ false ∷ []

abbrev pub receipt_conditions : MessageRecord → List Bool
receipt_conditions m = false ∷ not (is_some m.sender) ∷ is_some m.receiver ∷ []

abbrev pub with_sender : MessageRecord → ℕ → MessageRecord
with_sender m event = record { sender = Some event; receiver = m.receiver }

abbrev pub with_receiver : MessageRecord → ℕ → MessageRecord
with_receiver m event = record { sender = m.sender; receiver = Some event }

abbrev pub SendNoted : MessageRecord → MessageRecord → ℕ → Result Unit Refusal → Type 0
SendNoted old new event (Ok _) = (lowest 7 (send_conditions old) ≡ 0) × (new ≡ with_sender old event)
SendNoted old new event (Err f) = (lowest 7 (send_conditions old) ≡ refusal_number f) × (new ≡ old)

abbrev pub ReceiptNoted : MessageRecord → MessageRecord → ℕ → Result ℕ Refusal → Type 0
ReceiptNoted old new event (Ok c) = (lowest 7 (receipt_conditions old) ≡ 0) × (old.sender ≡ Some c) × (new ≡ with_receiver old event)
ReceiptNoted old new event (Err f) = (lowest 7 (receipt_conditions old) ≡ refusal_number f) × (new ≡ old)

-- the same for any entry, in the table of all records
abbrev pub note_conditions : List MessageRecord → Entry → List Bool
note_conditions rs (Local p) = []
note_conditions rs (Send p n) = send_conditions (record_at rs n)
note_conditions rs (Receipt p n) = receipt_conditions (record_at rs n)

abbrev pub noted : List MessageRecord → Entry → ℕ → List MessageRecord
noted rs (Local p) event = rs
noted rs (Send p n) event = slice_set rs n (with_sender (record_at rs n) event)
noted rs (Receipt p n) event = slice_set rs n (with_receiver (record_at rs n) event)

-- the event that sent what an entry receives
abbrev pub sent_by : List MessageRecord → Entry → Option ℕ
sent_by rs (Local p) = None
sent_by rs (Send p n) = None
sent_by rs (Receipt p n) = (record_at rs n).sender

abbrev pub Noted : List MessageRecord → List MessageRecord → Entry → ℕ → Result (Option ℕ) Refusal → Type 0
Noted old new e event (Ok cause) = (lowest 7 (note_conditions old e) ≡ 0) × (cause ≡ sent_by old e) × (new ≡ noted old e event)
Noted old new e event (Err f) = (lowest 7 (note_conditions old e) ≡ refusal_number f) × (new ≡ old)
