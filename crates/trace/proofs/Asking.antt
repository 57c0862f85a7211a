-- What is read of the causes that a trace keeps of an event.
use Rattle.std.proofs.Common.{◌≡◌, ℕ, ◌<◌, List, length, subst, sym}
use Rattle.trace.specs.declared.entries.Entry.{Entry}
use Rattle.trace.specs.declared.causes.EventCauses.{EventCauses}
use Rattle.trace.specs.Causality.{Causes, Direct}
use Rattle.trace.specs.Invariants.{Accepted, causes_at, direct_at, Caused, row_of, Closed}
use Rattle.trace.specs.Closure.{is_port_cause, is_message_cause, row_exact, row_complete}
use Rattle.trace.specs.DecisionLemmas.{row_happened}
use Rattle.trace.specs.Options.{same_eq}

module _ (t : List Entry) (acc : Accepted t) (j : ℕ) (event : j < length t) (cs : List EventCauses) (c : EventCauses) (kept : c ≡ causes_at cs j) where
  pub direct_kept : Caused cs t → Direct t j c.direct
  direct_kept caused =
      let same = caused j event in
      subst (λ (x : EventCauses). Direct t j x.direct) (sym kept)
      (record {
        event_is = event;
        previous_is = is_port_cause t acc j (direct_at cs j).previous event (sym (same_eq _ _ same.0));
        send_is = is_message_cause t acc j (direct_at cs j).send event (sym (same_eq _ _ same.1));
      })

  pub row_kept : Closed t (row_of cs) → Causes t j c.row
  row_kept closed =
      subst (λ (x : EventCauses). Causes t j x.row) (sym kept)
      (record {
        event_is = event;
        value = λ i. row_happened t acc (row_of cs) closed i j event;
        decides = λ i. (row_exact t acc (row_of cs) closed i j event, row_complete t acc (row_of cs) closed);
      })
