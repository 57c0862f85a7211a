-- The combination of two clocks: both parts together. Assumes nothing.
use Rattle.std.specs.Prelude.{min, Bool, ◌&&◌}
use Rattle.clock.specs.Clocks.{Answers}

-- before in both parts
abbrev pub both_before : {Left Right : Type 0} → (Left → Left → Bool) → (Right → Right → Bool) → Left × Right → Left × Right → Bool
both_before l r a b = l a.0 b.0 && r a.1 b.1

-- the port of the left part, the smaller room, and each move in both parts
abbrev pub both_answers : {Left Right : Type 0} → Answers Left → Answers Right → Answers (Left × Right)
both_answers l r = record {
  port_of = λ s. l.port_of s.0;
  room = λ s. min (l.room s.0) (r.room s.1);
  start = λ p. (l.start p, r.start p);
  step = λ s. (l.step s.0, r.step s.1);
  take = λ s m. (l.take s.0 m.0, r.take s.1 m.1);
}
