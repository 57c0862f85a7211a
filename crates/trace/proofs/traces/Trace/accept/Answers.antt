-- What the answers say of the new event's direct causes is one record over the trace and the entry.
use Rattle.std.proofs.Common.{◌≡◌, ℕ, ◌<◌, ◌||◌, List, length, get_or, set, Some, None, vec_items, Option, sym, ap, ◌∙◌, subst, rules}
use Rattle.std.proofs.Math.Path.{subst₂}
use Rattle.clock.specs.declared.ports.Port.{Port}
use Rattle.clock.specs.Ports.{port_number}
use Rattle.trace.specs.declared.causes.EventCauses.{EventCauses}
use Rattle.trace.specs.declared.entries.Entry.{Entry}
use Rattle.trace.specs.declared.traces.Trace.{Trace}
use Rattle.trace.specs.Entries.{port_of, port_number_of, message_number}
use Rattle.trace.specs.Decision.{last_for, send_for, at_or_before}
use Rattle.trace.specs.Rows.{in_row}
use Rattle.trace.specs.Messages.{Agrees, sent_by, noted}
use Rattle.trace.specs.Invariants.{Accepted, Latest, Caused, is_below, Acyclic, row_of, Closed}
use Rattle.trace.proofs.Tables.{agrees_push, refusal_noted, sent_is}
use Rattle.trace.proofs.Pushes.{accepted_push, latest_is, latest_push, last_below, send_below, caused_push, acyclic_push, closed_push}
use Rattle.trace.proofs.traces.Trace.accept.Goals as goal

-- the entry's port is at the place n, and the direct causes of the entry are what is kept there and what the messages tell
record Found (self : Trace) (e : Entry) (n : ℕ) (told : Option ℕ) : Type 0 where
  even : length (vec_items self.causes) ≡ length (vec_items self.entries)
  place : n ≡ port_number_of e
  low : n < 8
  previous : get_or self.latest n None ≡ last_for (vec_items self.entries) e
  send : told ≡ send_for (vec_items self.entries) e

found : (self : Trace) (e : Entry) (p : Port) (k n : ℕ) (told : Option ℕ) → p ≡ port_of e → k ≡ port_number p → k < 8 → n ≡ k → message_number e < 512
    → told ≡ sent_by (vec_items self.messages.records) e → Found self e n told
found self e p k n told on_port number low same few is_told =
    let place : n ≡ port_number_of e = same ∙ number ∙ ap port_number on_port in
    let low : n < 8 = subst (λ (i : ℕ). i < 8) (sym same) low in
    record {
      even = search rules;
      place = place;
      low = low;
      previous = latest_is self.latest (vec_items self.entries) e n place low self.lasts;
      send = is_told ∙ sent_is (vec_items self.messages.records) (vec_items self.entries) e self.agrees few;
    }

pub row_after-row-requires : goal.row_after-row-requires
row_after-row-requires c =
    let self = c.args.self.now in
    let t = vec_items self.entries in
    let e = c.args.entry in
    let items = c.deref.result.now in
    let f = found self e _ _ _ _ c.port.ensures c.number.ensures.value c.number.ensures.bound c.from-port.ensures c.requires c.in_ok-send.ensures.1 in
    let even : length items ≡ length t = ap length c.deref.ensures.value ∙ f.even in
    record {
      previous = ap (is_below (length items)) f.previous ∙ ap (λ (n : ℕ). is_below n (last_for t e)) even ∙ last_below t e;
      send = ap (is_below (length items)) f.send ∙ ap (λ (n : ℕ). is_below n (send_for t e)) even ∙ send_below t e;
      few = search rules;
    }

pub invariant_of-self-2-clause-accepted : goal.invariant_of-self-2-clause-accepted
invariant_of-self-2-clause-accepted c =
    let self = c.args.self.now in
    let t = vec_items self.entries in
    let rs = vec_items self.messages.records in
    let e = c.args.entry in
    let few : length t < 512 = search rules in
    let fine = refusal_noted rs t e self.agrees c.requires few ∙ c.in_ok-send.ensures.0 in
    subst Accepted (sym c.push_reserved-2.ensures.items) (accepted_push t e self.accepted (c.requires, fine))

pub invariant_of-self-2-clause-agrees : goal.invariant_of-self-2-clause-agrees
invariant_of-self-2-clause-agrees c =
    let self = c.args.self.now in
    let t = vec_items self.entries in
    let rs = vec_items self.messages.records in
    let e = c.args.entry in
    let long : length rs ≡ 512 = search rules in
    let count : length t ≡ c.len-count.result = search rules in
    let after : vec_items c.note.new.self.records ≡ noted rs e (length t) = c.in_ok-send.ensures.2 ∙ ap (noted rs e) (sym count) in
    subst₂ Agrees (sym after) (sym c.push_reserved-2.ensures.items) (agrees_push rs t e long self.agrees c.requires c.in_ok-send.ensures.0)

pub invariant_of-self-2-clause-lasts : goal.invariant_of-self-2-clause-lasts
invariant_of-self-2-clause-lasts c =
    let self = c.args.self.now in
    let t = vec_items self.entries in
    let n = c.from-port.result in
    let f = found self c.args.entry _ _ _ _ c.port.ensures c.number.ensures.value c.number.ensures.bound c.from-port.ensures c.requires c.in_ok-send.ensures.1 in
    let ports : length self.latest ≡ 8 = search rules in
    let count : length t ≡ c.len-count.result = search rules in
    subst₂ (λ (k : ℕ) xs. Latest (set self.latest n (Some k)) xs) count (sym c.push_reserved-2.ensures.items) (latest_push self.latest t c.args.entry n ports f.place f.low self.lasts)

pub invariant_of-self-2-clause-caused : goal.invariant_of-self-2-clause-caused
invariant_of-self-2-clause-caused c =
    let self = c.args.self.now in
    let f = found self c.args.entry _ _ _ _ c.port.ensures c.number.ensures.value c.number.ensures.bound c.from-port.ensures c.requires c.in_ok-send.ensures.1 in
    subst₂ Caused (sym c.push_reserved.ensures.items) (sym c.push_reserved-2.ensures.items)
    (caused_push (vec_items self.causes) _ (vec_items self.entries) c.args.entry f.even f.previous f.send self.caused)

pub invariant_of-self-2-clause-acyclic : goal.invariant_of-self-2-clause-acyclic
invariant_of-self-2-clause-acyclic c =
    let self = c.args.self.now in
    let f = found self c.args.entry _ _ _ _ c.port.ensures c.number.ensures.value c.number.ensures.bound c.from-port.ensures c.requires c.in_ok-send.ensures.1 in
    subst₂ Acyclic (sym c.push_reserved.ensures.items) (sym c.push_reserved-2.ensures.items)
    (acyclic_push (vec_items self.causes) _ (vec_items self.entries) c.args.entry f.even f.previous f.send self.acyclic)

pub invariant_of-self-2-clause-closed : goal.invariant_of-self-2-clause-closed
invariant_of-self-2-clause-closed c =
    let self = c.args.self.now in
    let f = found self c.args.entry _ _ _ _ c.port.ensures c.number.ensures.value c.number.ensures.bound c.from-port.ensures c.requires c.in_ok-send.ensures.1 in
    let Row : List EventCauses → Type 0 = λ cs. (i : ℕ) → in_row c.row_after-row.result i ≡ (at_or_before (row_of cs) (get_or self.latest c.from-port.result None) i || at_or_before (row_of cs) c.in_ok-send.send i) in
    let row : Row (vec_items self.causes) = subst Row c.deref.ensures.value c.row_after-row.ensures in
    subst₂ (λ xs ys. Closed xs (row_of ys)) (sym c.push_reserved-2.ensures.items) (sym c.push_reserved.ensures.items)
    (closed_push (vec_items self.entries) c.args.entry (vec_items self.causes) _ _ _ f.even f.previous f.send self.closed row)
