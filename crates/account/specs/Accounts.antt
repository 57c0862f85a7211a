-- The account of a dump, as the bytes of its text. One space stands between items, and byte 10 ends a line. Assumes nothing.
use Rattle.std.specs.Prelude.{◌≡◌, ℕ, zero, suc, List, [], ◌++◌, length, Some, None, codes, decimal, Option}
use Rattle.std.specs.List.{slice_get, flat_map}
use Rattle.clock.specs.Ports.{port_number}
use Rattle.trace.specs.declared.entries.Entry.{Entry}
use Rattle.trace.specs.declared.entries.Entry.TheVariants.{Local, Send, Receipt}
use Rattle.trace.specs.Dumps.{DumpRead}
use Rattle.trace.specs.Causality.{Causal}
use Rattle.trace.specs.Decision.{happened}
use Rattle.trace.specs.Rows.{members}

-- each number after a space
abbrev pub numbers_text : List ℕ → List ℕ
numbers_text = flat_map (λ n. codes " " ++ decimal n)

-- the kind, the port and, but for a local event, the message
abbrev pub entry_text : Entry → List ℕ
entry_text (Local p) = codes " local " ++ decimal (port_number p)
entry_text (Send p n) = codes " send " ++ (decimal (port_number p) ++ (codes " " ++ decimal n))
entry_text (Receipt p n) = codes " receipt " ++ (decimal (port_number p) ++ (codes " " ++ decimal n))

-- the events that happened before event j, in rising order: they have lower numbers
abbrev pub causes_of : List Entry → ℕ → List ℕ
causes_of t j = members (λ i. happened t i j) j

-- the line of event j, if there is one
abbrev pub event_line : List Entry → ℕ → Option Entry → List ℕ
event_line t j None = []
event_line t j (Some e) = decimal j ++ (entry_text e ++ (codes " after" ++ (numbers_text (causes_of t j) ++ codes "\n")))

-- the lines of the first n events
unfoldable pub event_lines : List Entry → ℕ → List ℕ
event_lines t zero = []
event_lines t (suc n) = event_lines t n ++ event_line t n (slice_get t n)

-- how many events were accepted, and the refusal that ended the dump, 0 for none
abbrev pub first_line : ℕ → ℕ → List ℕ
first_line count r = codes "events " ++ (decimal count ++ (codes " refused " ++ (decimal r ++ codes "\n")))

-- the account of the dump that the bytes are
pub record AccountOf (bytes text : List ℕ) : Type 0 where
  pub events : List Entry
  pub refused : ℕ
  pub read : DumpRead bytes events refused
  -- so the decision by which causes are listed is that of happened-before, and no cause has a higher number
  pub causal : Causal events
  pub is : text ≡ first_line (length events) refused ++ event_lines events (length events)
