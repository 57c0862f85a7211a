use Rattle.std.proofs.Common.{◌≡◌, length, map}
use Rattle.vectors.specs.EntryLaws.{GreaterBelow}
use Rattle.vectors.proofs.entries.raise.Given as goal

abbrev pub invariant-loop-k : goal.invariant-loop-k
invariant-loop-k g l = let value = g.C.Counter.value in (length l.e ≡ g.row.R) × GreaterBelow l.k (map value l.initial.e) (map value l.m) (map value l.e)
