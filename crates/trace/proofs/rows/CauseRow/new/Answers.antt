use Rattle.trace.proofs.Bits.{held_none}
use Rattle.trace.proofs.rows.CauseRow.new.Goals as goal

pub returns : goal.returns
returns c = held_none
