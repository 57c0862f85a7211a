use Rattle.std.specs.Fmt.{HasWritten, IsPlainFormatter}
use Rattle.trace.specs.Rows.{in_row, members}
use Rattle.account.specs.Accounts.{numbers_text}
use Rattle.account.proofs.CausesDisplay.fmt.Given as goal

abbrev pub invariant-loop-cause : goal.invariant-loop-cause
invariant-loop-cause g l = IsPlainFormatter l.initial.f → HasWritten g.W.Write.write_str_gives l.initial.f (numbers_text (members (in_row l.self.row.now) l.cause-counter)) l.f
