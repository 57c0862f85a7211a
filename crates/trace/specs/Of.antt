-- The model of a trace value. Assumes nothing.
use Rattle.std.specs.Prelude.{List, vec_items}
use Rattle.trace.specs.declared.entries.Entry.{Entry}
use Rattle.trace.specs.declared.traces.Trace.{Trace}

-- the accepted entries of a trace
abbrev pub events_of : Trace → List Entry
events_of t = vec_items t.entries
