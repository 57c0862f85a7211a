-- Direct causes as values, and a decision of happened-before that can be computed. Assumes nothing.
use Rattle.std.specs.Prelude.{ℕ, zero, suc, Bool, false, cond, ◌||◌, List, [], ◌∷◌, take, Some, None, Option, ◌==◌}
use Rattle.std.specs.List.{slice_get}
use Rattle.std.specs.Option.{option_or}
use Rattle.trace.specs.declared.entries.Entry.{Entry}
use Rattle.trace.specs.declared.entries.Entry.TheVariants.{Local, Send, Receipt}
use Rattle.trace.specs.Entries.{port_number_of}
use Rattle.trace.specs.Adding.{sender_of}

-- The direct causes as values, from the events that came earlier.

-- whether an entry is on the port of a number
abbrev pub on_port_number : ℕ → Entry → Bool
on_port_number p e = port_number_of e == p

-- the place of the last entry on a port, counted from k
abbrev pub last_from : ℕ → ℕ → List Entry → Option ℕ
last_from p k [] = None
last_from p k (e ∷ es) = option_or (last_from p (suc k) es) (cond (on_port_number p e) (Some k) None)

-- the last event on the port of number p
unfoldable pub last_on : ℕ → List Entry → Option ℕ
last_on p t = last_from p 0 t

-- the direct causes of an entry that comes after the events of t
abbrev pub last_for : List Entry → Entry → Option ℕ
last_for t e = last_on (port_number_of e) t

abbrev pub send_for : List Entry → Entry → Option ℕ
send_for t (Local p) = None
send_for t (Send p n) = None
send_for t (Receipt p n) = sender_of n t

-- the direct causes of event j, none where there is no such event
abbrev pub cause_by : (List Entry → Entry → Option ℕ) → List Entry → Option Entry → Option ℕ
cause_by cause past None = None
cause_by cause past (Some e) = cause past e

abbrev pub port_cause : List Entry → ℕ → Option ℕ
port_cause t j = cause_by last_for (take j t) (slice_get t j)

abbrev pub message_cause : List Entry → ℕ → Option ℕ
message_cause t j = cause_by send_for (take j t) (slice_get t j)

-- i is the event c, or one that is before c
abbrev pub at_or_before : (ℕ → ℕ → Bool) → Option ℕ → ℕ → Bool
at_or_before before None i = false
at_or_before before (Some c) i = i == c || before c i

-- following direct causes back from j leads to i in at most n turns
abbrev pub leads_back : List Entry → ℕ → ℕ → ℕ → Bool
leads_back t zero j i = false
leads_back t (suc n) j i = at_or_before (leads_back t n) (port_cause t j) i || at_or_before (leads_back t n) (message_cause t j) i

-- The decision of happened-before. Direct causes lead to lower numbers, so j + 1 turns suffice.
unfoldable pub happened : List Entry → ℕ → ℕ → Bool
happened t i j = leads_back t (suc j) j i
