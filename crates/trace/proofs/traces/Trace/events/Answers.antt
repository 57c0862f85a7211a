use Rattle.trace.specs.Of.{events_of}
use Rattle.trace.proofs.Tries.{reached, causal_runs}
use Rattle.trace.proofs.traces.Trace.events.Goals as goal

pub returns : goal.returns
returns c =
    record { value = c.as_slice.ensures.value; reached = reached (events_of c.args.self.now) c.args.self.now.accepted; runs = causal_runs }
