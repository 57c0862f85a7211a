-- The form of an entry in bytes: one byte of kind, one of port and, but for a local event, two of message number with the
-- high byte first. Assumes nothing.
use Rattle.std.specs.Prelude.{◌≡◌, ℕ, ◌+◌, ◌*◌, ◌/◌, ◌%◌, ◌<◌, Bool, cond, not, ◌&&◌, ◌||◌, List, [], ◌∷◌, length, take, Ok, Err, Result, ◌==◌, nat_lt, slice_index}
use Rattle.clock.specs.declared.ports.Port.{Port}
use Rattle.clock.specs.declared.refusals.Refusal.{Refusal}
use Rattle.clock.specs.Ports.{port_number, port_at}
use Rattle.clock.specs.Refusals.{refusal_number, lowest}
use Rattle.trace.specs.declared.entries.Entry.{Entry}
use Rattle.trace.specs.declared.entries.Entry.TheVariants.{Local, Send, Receipt}

abbrev pub form : Entry → List ℕ
form (Local p) = 1 ∷ port_number p ∷ []
form (Send p n) = 2 ∷ port_number p ∷ n / 256 ∷ n % 256 ∷ []
form (Receipt p n) = 3 ∷ port_number p ∷ n / 256 ∷ n % 256 ∷ []

-- the parts of an entry that begins the bytes
abbrev pub kind_byte : List ℕ → ℕ
kind_byte bytes = slice_index bytes 0

abbrev pub port_byte : List ℕ → ℕ
port_byte bytes = slice_index bytes 1

abbrev pub message_bytes : List ℕ → ℕ
message_bytes bytes = slice_index bytes 2 * 256 + slice_index bytes 3

-- how many bytes an entry of a kind has
abbrev pub size_of : ℕ → ℕ
size_of kind = cond (kind == 1) 2 4

-- the entry that begins the bytes
abbrev pub entry_of : List ℕ → Entry
entry_of bytes =
    cond (kind_byte bytes == 1) (Local (port_at (port_byte bytes)))
    (cond (kind_byte bytes == 2) (Send (port_at (port_byte bytes)) (message_bytes bytes))
    (Receipt (port_at (port_byte bytes)) (message_bytes bytes)))

-- for each refusal from 1 to 5, whether it applies to the bytes
abbrev pub byte_conditions : List ℕ → List Bool
byte_conditions bytes =
    -- 1: nothing is left
    (length bytes == 0)
    -- 2: a kind that is no entry's
    ∷ not (kind_byte bytes == 1 || (kind_byte bytes == 2 || kind_byte bytes == 3))
    -- 3: fewer bytes than the kind calls for
    ∷ nat_lt (length bytes) (size_of (kind_byte bytes))
    -- 4: a port above 7
    ∷ nat_lt 7 (port_byte bytes)
    -- 5: a message number above 511
    ∷ (not (kind_byte bytes == 1) && nat_lt 511 (message_bytes bytes))
    ∷ []

-- the answer to reading an entry: itself and its size, or the lowest refusal that applies
abbrev pub ReadAnswer : List ℕ → Result (Entry × ℕ) Refusal → Type 0
ReadAnswer bytes (Ok x) = (lowest 1 (byte_conditions bytes) ≡ 0) × (x.0 ≡ entry_of bytes) × (x.1 ≡ size_of (kind_byte bytes))
ReadAnswer bytes (Err f) = lowest 1 (byte_conditions bytes) ≡ refusal_number f

-- what is read is what the bytes begin with
abbrev pub FormRead : List ℕ → Result (Entry × ℕ) Refusal → Type 0
FormRead bytes (Ok x) = take x.1 bytes ≡ form x.0
FormRead bytes (Err f) = Unit {0}

-- the answer to the body of a send or a receipt
abbrev pub MessageAnswer : ℕ → ℕ → ℕ → Result (Port × ℕ) Refusal → Type 0
MessageAnswer port high low (Ok x) = (port < 8) × (high * 256 + low < 512) × (x.0 ≡ port_at port) × (x.1 ≡ high * 256 + low)
MessageAnswer port high low (Err f) = lowest 4 (nat_lt 7 port ∷ nat_lt 511 (high * 256 + low) ∷ []) ≡ refusal_number f
