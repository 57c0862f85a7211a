use Rattle.std.proofs.Common.{◌≡◌, ℕ, ◌<◌, ◌≤◌, List, length, Some, None, vec_items, MatchOption, IfOk, IfErr, Option, refl, arith, rules}
use denote.Ref.{Bor}
use Rattle.std.specs.List.{HoldsAt}
use Rattle.std.specs.Option.{ok_or}
use Rattle.clock.specs.declared.refusals.Refusal.TheVariants.{NoSuchEvent}
use Rattle.trace.specs.declared.causes.EventCauses.{EventCauses}
use Rattle.trace.specs.declared.entries.Entry.{Entry}
use Rattle.trace.specs.Causality.{NoSuchEvents, Causes, Direct}
use Rattle.trace.specs.Invariants.{Accepted, Caused, row_of, Closed}
use Rattle.trace.specs.Of.{events_of}
use Rattle.trace.proofs.Asking.{direct_kept, row_kept}
use Rattle.trace.proofs.traces.Trace.causes_of.Goals as goal

-- what is found at an event's place, and where there is none the refusal
found : (t : List Entry) (cs : List EventCauses) (j : ℕ) (o : Option (Bor EventCauses)) → Accepted t → length cs ≡ length t → Caused cs t → Closed t (row_of cs)
    → MatchOption o (length cs ≤ j) (λ c. (j < length cs) × HoldsAt (λ x. c.now ≡ x) cs j)
    → IfOk (ok_or o NoSuchEvent) (λ c. Direct t j c.now.direct) × IfOk (ok_or o NoSuchEvent) (λ c. Causes t j c.now.row) × IfErr (ok_or o NoSuchEvent) (λ f. NoSuchEvents t j j f)
found t cs j None acc even caused closed past = (tt, tt, record { number = refl; missing = λ a b. omega arith })
found t cs j (Some c) acc even caused closed there =
    let event : j < length t = omega (arith, there.0) in
    (direct_kept t acc j event cs c.now (there.1 _) caused, row_kept t acc j event cs c.now (there.1 _) closed, tt)

pub returns : goal.returns
returns c =
    let self = c.args.self.now in
    let kept = found (events_of self) (vec_items self.causes) c.args.event c.get.result self.accepted (search rules) self.caused self.closed (rw (c.deref.ensures.value, c.from.ensures) at c.get.ensures.lookup.3) in
    rw c.ok_or.ensures.value (record { direct = kept.0; row = kept.1; missing = kept.2 })
