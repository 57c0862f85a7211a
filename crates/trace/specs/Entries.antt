-- What an entry says of its event: the port, and the message that it sends or receives. Assumes nothing.
use Rattle.std.specs.Prelude.{ℕ, Bool, false, ◌==◌}
use Rattle.clock.specs.declared.ports.Port.{Port}
use Rattle.clock.specs.Ports.{port_number}
use Rattle.trace.specs.declared.entries.Entry.{Entry}
use Rattle.trace.specs.declared.entries.Entry.TheVariants.{Local, Send, Receipt}

abbrev pub port_of : Entry → Port
port_of (Local p) = p
port_of (Send p n) = p
port_of (Receipt p n) = p

abbrev pub port_number_of : Entry → ℕ
port_number_of e = port_number (port_of e)

-- whether the entry sends the message n
abbrev pub sends : ℕ → Entry → Bool
sends n (Local p) = false
sends n (Send p m) = m == n
sends n (Receipt p m) = false

-- whether the entry receives the message n
abbrev pub receives : ℕ → Entry → Bool
receives n (Local p) = false
receives n (Send p m) = false
receives n (Receipt p m) = m == n

-- the number of the message that the entry sends or receives, 0 where there is none
abbrev pub message_number : Entry → ℕ
message_number (Local p) = 0
message_number (Send p n) = n
message_number (Receipt p n) = n
