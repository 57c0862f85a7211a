use Rattle.std.proofs.Common.{◌≡◌, ℕ, Bool, false, List, Ok, Err, Decides, Result, sym, ◌∙◌, subst}
use Rattle.std.specs.Result.{result_unwrap_or}
use Rattle.clock.specs.declared.refusals.Refusal.{Refusal}
use Rattle.trace.specs.declared.entries.Entry.{Entry}
use Rattle.trace.specs.Causality.{BeforeAnswer}
use Rattle.trace.specs.Decision.{happened}
use Rattle.trace.specs.DecisionLemmas.{decided, none_outside, not_happened}
use Rattle.trace.specs.HappenedBefore.{HappenedBefore}
use Rattle.trace.specs.Invariants.{Accepted}
use Rattle.trace.specs.Of.{events_of}
use Rattle.trace.proofs.orders.TraceOrder.before.Goals as goal

-- the answer, or false where an event is missing, is the decision
answer_or_false : (t : List Entry) → Accepted t → (a b : ℕ) (r : Result Bool Refusal) → BeforeAnswer t a b r → result_unwrap_or r false ≡ happened t a b
answer_or_false t acc a b (Ok answer) h = h.value
answer_or_false t acc a b (Err f) h = sym (not_happened t acc a b (none_outside t acc a b h.missing))

pub returns : goal.returns
returns c =
    let t = events_of c.args.self.now in
    let acc = c.args.self.now.accepted in
    let a = c.args.a.now in
    let b = c.args.b.now in
    let value : c.unwrap_or.result ≡ happened t a b = c.unwrap_or.ensures ∙ answer_or_false t acc a b c.happened_before.result c.happened_before.ensures in
    record { value = value; exact = subst (λ (x : Bool). Decides x (HappenedBefore t a b)) (sym value) (decided t acc a b) }
