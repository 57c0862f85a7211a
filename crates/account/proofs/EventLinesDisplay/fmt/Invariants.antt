use Rattle.std.specs.Fmt.{HasWritten, IsPlainFormatter}
use Rattle.trace.specs.Of.{events_of}
use Rattle.account.specs.Accounts.{event_lines}
use Rattle.account.proofs.EventLinesDisplay.fmt.Given as goal

abbrev pub invariant-loop-event : goal.invariant-loop-event
invariant-loop-event g l = IsPlainFormatter l.initial.f → HasWritten g.W.Write.write_str_gives l.initial.f (event_lines (events_of l.trace) l.event) l.f
