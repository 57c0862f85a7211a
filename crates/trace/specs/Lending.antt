-- The table of messages lends the record of one message. Assumes nothing.
use Rattle.std.specs.Prelude.{ℕ}
use Rattle.std.specs.Borrow.{Lends, MutBor, Fml}
use Rattle.std.specs.Vec.{with_item}
use Rattle.trace.specs.declared.messages.MessageRecord.{MessageRecord}
use Rattle.trace.specs.declared.messages.MessageTable.{MessageTable}
use Rattle.trace.specs.contracts.messages.MessageRecord.{the_row as the_record}
use Rattle.trace.specs.contracts.messages.MessageTable.{the_row as the_table}

-- the table with m as the record of message n
abbrev pub with_record : MessageTable → ℕ → MessageRecord → MessageTable
with_record t n m = record t { records = with_item t.records n m }

-- the table ends with the last value behind the record that it lends as the record of message n
abbrev pub LendsRecord : MutBor MessageTable → ℕ → MutBor MessageRecord → Fml
LendsRecord t n m = Lends the_table the_record t m (with_record t.now n)
