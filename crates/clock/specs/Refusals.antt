-- The refusals by their numbers. Assumes nothing.
use Rattle.std.specs.Prelude.{ℕ, suc, Bool, cond, List, [], ◌∷◌}
use Rattle.clock.specs.declared.refusals.Refusal.{Refusal}
use Rattle.clock.specs.declared.refusals.Refusal.TheVariants.{NothingLeft, UnwantedKind, TooFewBytes, PortTooHigh, MessageTooHigh, TraceFull, SentBefore, NotSent, ReceivedBefore, NoRoom, RisingEntries, PortsDiffer, NoSuchEvent, CountTooHigh, ListTooShort, NumberTwice}

abbrev pub refusal_number : Refusal → ℕ
refusal_number NothingLeft = 1
refusal_number UnwantedKind = 2
refusal_number TooFewBytes = 3
refusal_number PortTooHigh = 4
refusal_number MessageTooHigh = 5
refusal_number TraceFull = 6
refusal_number SentBefore = 7
refusal_number NotSent = 8
refusal_number ReceivedBefore = 9
refusal_number NoRoom = 10
refusal_number RisingEntries = 11
refusal_number PortsDiffer = 12
refusal_number NoSuchEvent = 13
refusal_number CountTooHigh = 14
refusal_number ListTooShort = 15
refusal_number NumberTwice = 16

-- the number of the first condition that holds, counted from n, or 0 where none does
abbrev pub lowest : ℕ → List Bool → ℕ
lowest n [] = 0
lowest n (c ∷ cs) = cond c n (lowest (suc n) cs)
