-- What holds of happened-before, and what a trace answers about it. Assumes nothing.
use Rattle.std.specs.Prelude.{◌≡◌, ℕ, ◌<◌, Bool, List, length, Ok, Err, Decides, Result}
use Rattle.clock.specs.declared.refusals.Refusal.{Refusal}
use Rattle.clock.specs.Refusals.{refusal_number}
use Rattle.clock.specs.Orders.{Lawful}
use Rattle.trace.specs.declared.entries.Entry.{Entry}
use Rattle.trace.specs.declared.causes.DirectCauses.{DirectCauses}
use Rattle.trace.specs.declared.rows.CauseRow.{CauseRow}
use Rattle.trace.specs.Adding.{after}
use Rattle.trace.specs.Rows.{in_row}
use Rattle.trace.specs.HappenedBefore.{HappenedBefore, PortCause, MessageCause}
use Rattle.trace.specs.Decision.{happened}

-- What holds of happened-before on every trace that can exist.
pub record Causal (t : List Entry) : Type 0 where
  -- what happened before an event has a lower number
  pub upward : (i j : ℕ) → HappenedBefore t i j → (i < j) × (j < length t)
  -- the decision is right
  pub decided : (i j : ℕ) → Decides (happened t i j) (HappenedBefore t i j)
  -- it is a lawful order on event numbers, in which a number that is no event's has no part
  pub lawful : Lawful (happened t)

-- the law over every list of tries on a new trace
abbrev pub CausalRuns : Type 0
CausalRuns = (tries : List (List ℕ)) → Causal (after tries)

-- the answer to a question about two events
pub record Before (t : List Entry) (a b : ℕ) (answer : Bool) : Type 0 where
  pub first_is : a < length t
  pub second_is : b < length t
  pub value : answer ≡ happened t a b
  pub decides : Decides answer (HappenedBefore t a b)

pub record NoSuchEvents (t : List Entry) (a b : ℕ) (f : Refusal) : Type 0 where
  pub number : refusal_number f ≡ 13
  pub missing : a < length t → b < length t → ⊥

abbrev pub BeforeAnswer : List Entry → ℕ → ℕ → Result Bool Refusal → Type 0
BeforeAnswer t a b (Ok answer) = Before t a b answer
BeforeAnswer t a b (Err f) = NoSuchEvents t a b f

-- the answer to a question about the causes of one event
pub record Causes (t : List Entry) (j : ℕ) (row : CauseRow) : Type 0 where
  pub event_is : j < length t
  pub value : (i : ℕ) → in_row row i ≡ happened t i j
  pub decides : (i : ℕ) → Decides (in_row row i) (HappenedBefore t i j)

abbrev pub CausesAnswer : List Entry → ℕ → Result CauseRow Refusal → Type 0
CausesAnswer t j (Ok row) = Causes t j row
CausesAnswer t j (Err f) = NoSuchEvents t j j f

pub record Direct (t : List Entry) (j : ℕ) (answer : DirectCauses) : Type 0 where
  pub event_is : j < length t
  pub previous_is : PortCause t j answer.previous
  pub send_is : MessageCause t j answer.send

abbrev pub DirectAnswer : List Entry → ℕ → Result DirectCauses Refusal → Type 0
DirectAnswer t j (Ok answer) = Direct t j answer
DirectAnswer t j (Err f) = NoSuchEvents t j j f
