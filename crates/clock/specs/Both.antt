-- A combination of clocks keeps the meaning of a clock.
use Rattle.std.proofs.Common.{ap₂, arith}
use Rattle.std.specs.Prelude.{min, Bool}
use Rattle.std.proofs.lemmas.Bool.{and_from}
use Rattle.clock.specs.Clocks.{Answers, Meaning}
use Rattle.clock.specs.Combinations.{both_before, both_answers}

pub both_meaning : {Left Right : Type 0} {l : Left → Left → Bool} {r : Right → Right → Bool} {c : Answers Left} {d : Answers Right} → Meaning l c → Meaning r d → Meaning (both_before l r) (both_answers c d)
both_meaning C D = record {
  start_port = λ p. C.start_port p;
  start_room = λ p q. ap₂ min (C.start_room p q) (D.start_room p q);
  start_floor = λ p. omega (arith, C.start_floor p, D.start_floor p);
  step_before = λ s h. and_from _ _ (C.step_before s.0 (omega arith)) (D.step_before s.1 (omega arith));
  step_port = λ s h. C.step_port s.0 (omega arith);
  step_room = λ s h. omega (arith, C.step_room s.0 (omega arith), D.step_room s.1 (omega arith));
  take_before = λ s m h k. and_from _ _ (C.take_before s.0 m.0 (omega arith) (omega arith)) (D.take_before s.1 m.1 (omega arith) (omega arith));
  take_after = λ s m h k. and_from _ _ (C.take_after s.0 m.0 (omega arith) (omega arith)) (D.take_after s.1 m.1 (omega arith) (omega arith));
  take_port = λ s m h k. C.take_port s.0 m.0 (omega arith) (omega arith);
  take_room = λ s m h k. omega (arith, C.take_room s.0 m.0 (omega arith) (omega arith), D.take_room s.1 m.1 (omega arith) (omega arith));
}
