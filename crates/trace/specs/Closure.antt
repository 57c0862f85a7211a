-- Rows that hold the direct causes of each event and what is in their rows hold exactly what happened before it.
use Rattle.std.specs.Prelude.{◌≡◌, ℕ, zero, suc, ◌<◌, Bool, true, false, ◌⊎◌, List, length, take, cond, is_some, Some, None, Option, ◌==◌, ◌≢◌}
use Rattle.std.proofs.Math.Path.{refl, sym, subst}
use Rattle.std.proofs.Common.{ap, ◌∙◌, zero-add, not-suc-le-zero, lt-ltb, arith}
use Rattle.std.proofs.Math.Logic.{inl, inr}
use borrow.Author.Tests.{clash}
use Rattle.std.proofs.lemmas.Bool.{eqb-true, eq-eqb, cases_order, cases_Bool, cases_lt, or_cases, or_left, or_right}
use Rattle.std.proofs.lemmas.Bool.Decides.{nat_tests}
use Rattle.std.proofs.lemmas.List.{length-take-le, get_or-take}
use Rattle.std.proofs.lemmas.List.Quantifiers.{position-Some}
use Rattle.std.proofs.lemmas.List.Sums.{fails_before_first}
use Rattle.std.proofs.lemmas.Option.{none-some, same_Some, slice_get-get_or, slice_get_within, get_or_from_slice_get}
use Rattle.std.specs.List.{position_or_len}
use Rattle.clock.specs.declared.ports.Port.TheVariants.{P0}
use Rattle.clock.specs.Ports.{port_number}
use Rattle.clock.specs.Refusals.{lowest}
use Rattle.clock.proofs.Numbers.{port_same}
use Rattle.trace.specs.declared.entries.Entry.{Entry}
use Rattle.trace.specs.declared.entries.Entry.TheVariants.{Local, Send, Receipt}
use Rattle.trace.specs.Entries.{port_number_of, sends, receives}
use Rattle.trace.specs.Adding.{sender_of, event_conditions}
use Rattle.trace.specs.HappenedBefore.{Event, SamePort, SentTo, PortCause, MessageCause, HappenedBefore, on_port, by_message, through}
use Rattle.trace.specs.Decision.{on_port_number, last_on, last_for, send_for, at_or_before}
use Rattle.trace.specs.Invariants.{entry_at, Accepted, Closed}
use Rattle.trace.specs.Options.{some_of, none_of}
use Rattle.trace.specs.Places.{last_none, last_some, IsLast}

-- an event is the entry at its place
pub event_at : (t : List Entry) (i : ℕ) (e : Entry) → Event t i e → (i < length t) × (entry_at t i ≡ e)
event_at t i e h = (slice_get_within t i e h, get_or_from_slice_get t i e (Local P0) h)

at_event : (t : List Entry) (i : ℕ) → i < length t → Event t i (entry_at t i)
at_event t i l = slice_get-get_or t i _ l

same_port : (t : List Entry) (i j : ℕ) → i < length t → j < length t → port_number_of (entry_at t i) ≡ port_number_of (entry_at t j) → SamePort t i j
same_port t i j li lj e =
    record { first = entry_at t i; second = entry_at t j; first_is = at_event t i li; second_is = at_event t j lj; same = port_same _ _ e }

pub port_of_same : (t : List Entry) (i j : ℕ) → SamePort t i j → (i < length t) × (j < length t) × (port_number_of (entry_at t i) ≡ port_number_of (entry_at t j))
port_of_same t i j s =
    let a = event_at t i s.first s.first_is in
    let b = event_at t j s.second s.second_is in
    (a.0, b.0, ap port_number_of a.1 ∙ ap port_number s.same ∙ ap port_number_of (sym b.1))

sent_at : (t : List Entry) (i j n : ℕ) → i < length t → j < length t → sends n (entry_at t i) ≡ true → receives n (entry_at t j) ≡ true → SentTo t i j
sent_at t i j n li lj s r =
    record { number = n; send = entry_at t i; receipt = entry_at t j; send_is = at_event t i li; receipt_is = at_event t j lj; sent = s; received = r }

pub record Carried (t : List Entry) (i j : ℕ) : Type 0 where
  pub message : ℕ
  pub from : i < length t
  pub to : j < length t
  pub sent : sends message (entry_at t i) ≡ true
  pub received : receives message (entry_at t j) ≡ true

pub carried : (t : List Entry) (i j : ℕ) → SentTo t i j → Carried t i j
carried t i j s =
    let a = event_at t i s.send s.send_is in
    let b = event_at t j s.receipt s.receipt_is in
    record { message = s.number; from = a.0; to = b.0; sent = ap (sends s.number) a.1 ∙ s.sent; received = ap (receives s.number) b.1 ∙ s.received }

-- an accepted receipt has a send before it
receipt_sent : (t : List Entry) (e : Entry) (n : ℕ) → receives n e ≡ true → lowest 6 (event_conditions t e) ≡ 0 → (c : ℕ) × (send_for t e ≡ Some c) × (sender_of n t ≡ Some c)
receipt_sent t (Local p) n h r = absurd (clash h)
receipt_sent t (Send p m) n h r = absurd (clash h)
receipt_sent t (Receipt p m) n h r =
    let s : is_some (sender_of m t) ≡ true = elim (cases_Bool (is_some (sender_of m t))) [ inl y ↦ y | inr f ↦ grind (arith, nat_tests) ] in
    let o = some_of (sender_of m t) s in
    (o.0, o.1, ap (λ (k : ℕ). sender_of k t) (sym (eqb-true m n h)) ∙ o.1)

-- an accepted send is the first of its message
send_fresh : (t : List Entry) (e : Entry) (n : ℕ) → sends n e ≡ true → lowest 6 (event_conditions t e) ≡ 0 → sender_of n t ≡ None
send_fresh t (Local p) n h r = absurd (clash h)
send_fresh t (Receipt p m) n h r = absurd (clash h)
send_fresh t (Send p m) n h r =
    let s : is_some (sender_of m t) ≡ false = elim (cases_Bool (is_some (sender_of m t))) [ inl y ↦ grind (arith, nat_tests) | inr f ↦ f ] in
    ap (λ (k : ℕ). sender_of k t) (sym (eqb-true m n h)) ∙ none_of (sender_of m t) s

pub sender_some : (t : List Entry) (n c : ℕ) → sender_of n t ≡ Some c → (c < length t) × (sends n (entry_at t c) ≡ true)
unfolding sender_of
sender_some t n c h = let r = position-Some (sends n) t c (Local P0) h in (r.0, r.1)

sender_found : (t : List Entry) (n i : ℕ) → i < length t → sends n (entry_at t i) ≡ true → sender_of n t ≢ None
unfolding sender_of
sender_found t n i l h none =
    elim (cases_lt (position_or_len (sends n) t) (length t)) [
      | inl k ↦ none-some _ (sym none ∙ ap (λ (b : Bool). cond b (Some (position_or_len (sends n) t)) None) (lt-ltb _ _ k))
      | inr g ↦ clash (sym (fails_before_first (sends n) t i (Local P0) (omega arith)) ∙ h)
    ]

send_of : (t : List Entry) (e : Entry) (c : ℕ) → send_for t e ≡ Some c → (n : ℕ) × (receives n e ≡ true) × (sender_of n t ≡ Some c)
send_of t (Local p) c h = absurd (none-some _ h)
send_of t (Send p m) c h = absurd (none-some _ h)
send_of t (Receipt p m) c h = (m, eq-eqb m m refl, h)

pub last_of : (p : ℕ) (t : List Entry) (c : ℕ) → last_on p t ≡ Some c → IsLast p 0 c t
unfolding last_on
last_of p t c h = last_some p 0 c t h

last_missing : (p : ℕ) (t : List Entry) (i : ℕ) → i < length t → on_port_number p (entry_at t i) ≡ true → last_on p t ≢ None
unfolding last_on
last_missing p t i l h n = last_none p 0 i t l h n

module _ (t : List Entry) (acc : Accepted t) where
  front : (b i : ℕ) → i < b → entry_at (take b t) i ≡ entry_at t i
  front b i h = get_or-take b t i _ h

  front_length : (b : ℕ) → b < length t → length (take b t) ≡ b
  front_length b h = length-take-le b t (omega arith)

  -- the message of an event was sent by one event only
  pub one_send : (m a c : ℕ) → a < length t → c < length t → sends m (entry_at t a) ≡ true → sends m (entry_at t c) ≡ true → a ≡ c
  one_send m a c la lc ha hc =
      elim (cases_order a c) [
        | inl e ↦ e
        | inr o ↦ elim o [
          | inl l ↦ absurd (twice a c l lc ha hc)
          | inr l ↦ absurd (twice c a l la hc ha)
        ]
      ]
    where
      twice : (a c : ℕ) → a < c → c < length t → sends m (entry_at t a) ≡ true → sends m (entry_at t c) ≢ true
      twice a c l lc ha hc =
          let k = front_length c lc in
          sender_found (take c t) m a (omega arith) (ap (sends m) (front c a l) ∙ ha) (send_fresh (take c t) (entry_at t c) m hc (acc c lc).1)

  unfoldable pub Cause : ℕ → ℕ → Type 0
  Cause c b = (last_for (take b t) (entry_at t b) ≡ Some c) ⊎ (send_for (take b t) (entry_at t b) ≡ Some c)

  send_lower : (b c m : ℕ) → b < length t → sender_of m (take b t) ≡ Some c → (c < b) × (sends m (entry_at t c) ≡ true)
  send_lower b c m l h =
      let s = sender_some (take b t) m c h in
      let k = front_length b l in
      let q : c < b = (let x = s.0 in omega arith) in
      (q, ap (sends m) (sym (front b c q)) ∙ s.1)

  last_lower : (b c : ℕ) → b < length t → last_for (take b t) (entry_at t b) ≡ Some c
      → (c < b) × (port_number_of (entry_at t c) ≡ port_number_of (entry_at t b)) × ((a : ℕ) → c < a → a < b → port_number_of (entry_at t a) ≢ port_number_of (entry_at t b))
  last_lower b c l h =
      let r = last_of (port_number_of (entry_at t b)) (take b t) c h in
      let k = front_length b l in
      let e : c ≡ r.place = r.at ∙ zero-add r.place in
      let q : r.place < b = (let x = r.within in omega arith) in (
        subst (λ (i : ℕ). i < b) (sym e) q,
        subst (λ (i : ℕ). port_number_of (entry_at t i) ≡ port_number_of (entry_at t b)) (sym e) (ap port_number_of (sym (front b r.place q)) ∙ eqb-true _ _ r.there),
        (λ a la lb same. r.latest a (omega arith) (omega arith) (eq-eqb _ _ (ap port_number_of (front b a lb) ∙ same))),
      )

  -- direct causes are lower in number
  pub cause_lower : (b c : ℕ) → b < length t → Cause c b → c < b
  unfolding Cause
  cause_lower b c l (inl h) = (last_lower b c l h).0
  cause_lower b c l (inr h) = (send_lower b c _ l (send_of (take b t) (entry_at t b) c h).2).0

  cause_before : (b c : ℕ) → b < length t → Cause c b → HappenedBefore t c b
  unfolding Cause
  cause_before b c l (inl h) = let r = last_lower b c l h in let q = r.0 in on_port q (same_port t c b (omega arith) l r.1)
  cause_before b c l (inr h) =
      let s = send_of (take b t) (entry_at t b) c h in
      let r = send_lower b c s.0 l s.2 in
      by_message (sent_at t c b s.0 (let x = r.0 in omega arith) l r.1 s.1)

  -- a send is the cause of its receipt
  send_cause : (m a b : ℕ) → a < length t → b < length t → sends m (entry_at t a) ≡ true → receives m (entry_at t b) ≡ true → send_for (take b t) (entry_at t b) ≡ Some a
  send_cause m a b la lb sa rb =
      let s = receipt_sent (take b t) (entry_at t b) m rb (acc b lb).1 in
      let r = send_lower b s.0 m lb s.2 in
      let lc : s.0 < length t = (let x = r.0 in omega arith) in
      s.1 ∙ ap Some (one_send m s.0 a lc la r.1 sa)

  -- what happened before an event has a lower number
  pub before_lower : {a b : ℕ} → HappenedBefore t a b → (a < b) × (b < length t)
  unfolding Cause
  before_lower (on_port {i = a} {j = b} l s) = (l, (port_of_same t a b s).1)
  before_lower (by_message {i = a} {j = b} s) = let w = carried t a b s in (cause_lower b a w.to (inr (send_cause w.message a b w.from w.to w.sent w.received)), w.to)
  before_lower (through {i = a} {j = b} {k = c} h g) =
      let x = before_lower h in let y = before_lower g in ((let p = x.0 in let q = y.0 in omega arith), y.1)

  -- the last event before j on its port, as a relation
  pub is_port_cause : (j : ℕ) (o : Option ℕ) → j < length t → last_for (take j t) (entry_at t j) ≡ o → PortCause t j o
  is_port_cause j None l h = λ i k s.
      let w = port_of_same t i j s in
      let f = front_length j l in
      last_missing (port_number_of (entry_at t j)) (take j t) i (omega arith) (eq-eqb _ _ (ap port_number_of (front j i k) ∙ w.2)) h
  is_port_cause j (Some c) l h =
      let r = last_lower j c l h in
      let q = r.0 in
      (q, same_port t c j (omega arith) l r.1, (λ i a b s. r.2 i a b (port_of_same t i j s).2))

  -- the send of what j receives, as a relation
  pub is_message_cause : (j : ℕ) (o : Option ℕ) → j < length t → send_for (take j t) (entry_at t j) ≡ o → MessageCause t j o
  is_message_cause j None l h = λ i s.
      let w = carried t i j s in none-some i (sym h ∙ send_cause w.message i j w.from l w.sent w.received)
  is_message_cause j (Some c) l h =
      let s = send_of (take j t) (entry_at t j) c h in
      let r = send_lower j c s.0 l s.2 in
      let q = r.0 in (
        q,
        sent_at t c j s.0 (omega arith) l r.1 s.1,
        (λ i z. let w = carried t i j z in same_Some i c (sym (send_cause w.message i j w.from l w.sent w.received) ∙ h)),
      )

  module _ (row : ℕ → ℕ → Bool) (steps : Closed t row) where
    In : ℕ → ℕ → Type 0
    In a c = (a ≡ c) ⊎ (row c a ≡ true)

    under_true : (o : Option ℕ) (a : ℕ) → at_or_before row o a ≡ true → (c : ℕ) × (o ≡ Some c) × In a c
    unfolding In
    under_true None a h = absurd (clash h)
    under_true (Some c) a h = (c, refl, elim (or_cases (a == c) (row c a) h) [ inl e ↦ inl (eqb-true a c e) | inr r ↦ inr r ])

    under_from : (o : Option ℕ) (a c : ℕ) → o ≡ Some c → In a c → at_or_before row o a ≡ true
    unfolding In
    under_from None a c e i = absurd (none-some _ e)
    under_from (Some d) a c e (inl q) = or_left _ _ (eq-eqb a d (q ∙ sym (same_Some _ _ e)))
    under_from (Some d) a c e (inr r) = or_right (a == d) _ (ap (λ (k : ℕ). row k a) (same_Some _ _ e) ∙ r)

    to_row : (a b c : ℕ) → b < length t → Cause c b → In a c → row b a ≡ true
    unfolding Cause
    to_row a b c l (inl h) i = steps b l a ∙ or_left _ _ (under_from _ a c h i)
    to_row a b c l (inr h) i = steps b l a ∙ or_right (at_or_before row (last_for (take b t) (entry_at t b)) a) _ (under_from _ a c h i)

    of_row : (a b : ℕ) → b < length t → row b a ≡ true → (c : ℕ) × Cause c b × In a c
    unfolding Cause
    of_row a b l h =
        elim (or_cases _ _ (sym (steps b l a) ∙ h)) [
          | inl u ↦ let r = under_true _ a u in (r.0, inl r.1, r.2)
          | inr u ↦ let r = under_true _ a u in (r.0, inr r.1, r.2)
        ]

    row_sound : (n a b : ℕ) → b < n → b < length t → row b a ≡ true → HappenedBefore t a b
    unfolding In
    row_sound zero a b k l h = absurd (not-suc-le-zero k)
    row_sound (suc n) a b k l h =
        let r = of_row a b l h in
        let q = cause_lower b r.0 l r.1 in
        let z = cause_before b r.0 l r.1 in
        elim r.2 [
          | inl e ↦ subst (λ (x : ℕ). HappenedBefore t x b) (sym e) z
          | inr s ↦ through (row_sound n a r.0 (omega arith) (omega arith) s) z
        ]

    row_through : (n a b c : ℕ) → c < n → c < length t → row b a ≡ true → row c b ≡ true → row c a ≡ true
    unfolding In
    row_through zero a b c k l h g = absurd (not-suc-le-zero k)
    row_through (suc n) a b c k l h g =
        let r = of_row b c l g in
        let q = cause_lower c r.0 l r.1 in
        elim r.2 [
          | inl e ↦ to_row a c r.0 l r.1 (inr (ap (λ (x : ℕ). row x a) (sym e) ∙ h))
          | inr s ↦ to_row a c r.0 l r.1 (inr (row_through n a b r.0 (omega arith) (omega arith) h s))
        ]

    row_port : (n a b : ℕ) → b < n → b < length t → a < b → port_number_of (entry_at t a) ≡ port_number_of (entry_at t b) → row b a ≡ true
    unfolding Cause In
    row_port zero a b k l ab e = absurd (not-suc-le-zero k)
    row_port (suc n) a b k l ab e = go (last_for (take b t) (entry_at t b)) refl (λ c cb bl ac ce. row_port n a c cb bl ac ce)
      where
        go : (o : Option ℕ) → last_for (take b t) (entry_at t b) ≡ o → ((c : ℕ) → c < n → c < length t → a < c → port_number_of (entry_at t a) ≡ port_number_of (entry_at t c) → row c a ≡ true) → row b a ≡ true
        go None h rec =
            let f = front_length b l in
            absurd (last_missing (port_number_of (entry_at t b)) (take b t) a (omega arith) (eq-eqb _ _ (ap port_number_of (front b a ab) ∙ e)) h)
        go (Some c) h rec =
            let r = last_lower b c l h in
            let cb = r.0 in
            elim (cases_order a c) [
              | inl q ↦ to_row a b c l (inl h) (inl q)
              | inr o ↦ elim o [
                | inl ac ↦ to_row a b c l (inl h) (inr (rec c (omega arith) (omega arith) ac (e ∙ sym r.1)))
                | inr ca ↦ absurd (r.2 a ca ab e)
              ]
            ]

    pub row_complete : {a b : ℕ} → HappenedBefore t a b → row b a ≡ true
    unfolding Cause In
    row_complete (on_port {i = a} {j = b} l s) = let w = port_of_same t a b s in row_port (suc b) a b (omega arith) w.1 l w.2
    row_complete (by_message {i = a} {j = b} s) = let w = carried t a b s in to_row a b a w.to (inr (send_cause w.message a b w.from w.to w.sent w.received)) (inl refl)
    row_complete (through {i = a} {j = b} {k = c} h g) = row_through (suc c) a b c (omega arith) (before_lower g).1 (row_complete h) (row_complete g)

    pub row_exact : (a b : ℕ) → b < length t → row b a ≡ true → HappenedBefore t a b
    row_exact a b l h = row_sound (suc b) a b (omega arith) l h
