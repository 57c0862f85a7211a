use Rattle.std.proofs.Common.{[], ◌∷◌, None, vec_items, sym, subst}
use Rattle.trace.specs.Messages.{Agrees}
use Rattle.trace.specs.Invariants.{Latest}
use Rattle.trace.proofs.Tables.{agrees_none}
use Rattle.trace.proofs.Pushes.{latest_none}
use Rattle.trace.proofs.traces.Trace.new.Goals as goal

pub invariant_of-result-clause-agrees : goal.invariant_of-result-clause-agrees
invariant_of-result-clause-agrees c =
    subst (λ t. Agrees (vec_items c.in_ok-messages.messages.records) t) (sym c.in_ok-entries.ensures.items)
    (subst (λ rs. Agrees rs []) (sym c.in_ok-messages.ensures) agrees_none)

pub invariant_of-result-clause-lasts : goal.invariant_of-result-clause-lasts
invariant_of-result-clause-lasts c =
    subst (λ t. Latest (None ∷ None ∷ None ∷ None ∷ None ∷ None ∷ None ∷ None ∷ []) t) (sym c.in_ok-entries.ensures.items) latest_none
