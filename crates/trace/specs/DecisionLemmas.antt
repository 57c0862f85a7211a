-- The decision of happened-before is right, and happened-before is a lawful order.
use Rattle.std.specs.Prelude.{◌≡◌, ℕ, zero, suc, ◌<◌, Bool, true, false, ◌||◌, List, length, take, Some, None, Decides, Option, ◌==◌, refl}
use Rattle.std.proofs.Common.{sym, ◌∙◌, not-suc-le-zero, arith}
use Rattle.std.proofs.Math.Path.{ap}
use Rattle.std.proofs.Math.Logic.{inl, inr}
use borrow.Author.Tests.{clash}
use Rattle.std.proofs.lemmas.Bool.{cases_Bool, cases_lt}
use Rattle.std.proofs.lemmas.Bool.Decides.{same_from_decides}
use Rattle.std.proofs.lemmas.List.{length-take}
use Rattle.std.proofs.lemmas.Option.{none-some, slice_get-get_or, slice_get_past}
use Rattle.std.specs.List.{slice_get}
use Rattle.clock.specs.Orders.{Lawful}
use Rattle.trace.specs.declared.entries.Entry.{Entry}
use Rattle.trace.specs.declared.entries.Entry.TheVariants.{Local, Send, Receipt}
use Rattle.trace.specs.Entries.{port_number_of}
use Rattle.trace.specs.HappenedBefore.{HappenedBefore, through}
use Rattle.trace.specs.Decision.{last_for, send_for, cause_by, port_cause, message_cause, at_or_before, leads_back, happened}
use Rattle.trace.specs.Causality.{Causal}
use Rattle.trace.specs.Invariants.{entry_at, Accepted, Closed}
use Rattle.trace.specs.Closure.{last_of, sender_some, before_lower, row_exact, row_complete}

-- a direct cause comes from the events before
pub last_before : (past : List Entry) (e : Entry) (c : ℕ) → last_for past e ≡ Some c → c < length past
last_before past e c h = let r = last_of (port_number_of e) past c h in let x = r.at in let y = r.within in omega arith

pub send_before : (past : List Entry) (e : Entry) (c : ℕ) → send_for past e ≡ Some c → c < length past
send_before past (Local p) c h = absurd (none-some _ h)
send_before past (Send p n) c h = absurd (none-some _ h)
send_before past (Receipt p n) c h = (sender_some past n c h).0

pub both_same : {a b c d : Bool} → a ≡ b → c ≡ d → (a || c) ≡ (b || d)
both_same p q = cc

module _ (t : List Entry) where
  lower : (cause : List Entry → Entry → Option ℕ) → ((past : List Entry) (e : Entry) (c : ℕ) → cause past e ≡ Some c → c < length past)
      → (j : ℕ) (o : Option Entry) (c : ℕ) → cause_by cause (take j t) o ≡ Some c → c < j
  lower cause before j None c h = absurd (none-some _ h)
  lower cause before j (Some e) c h = let l = before (take j t) e c h in let m = length-take j t in omega arith

  at_same : (f g : ℕ → ℕ → Bool) (o : Option ℕ) (i : ℕ) → ((c : ℕ) → o ≡ Some c → f c i ≡ g c i) → at_or_before f o i ≡ at_or_before g o i
  at_same f g None i h = refl
  at_same f g (Some c) i h = ap (λ (b : Bool). (i == c) || b) (h c refl)

  -- more turns than j lead no further
  leads_same : (m n j i : ℕ) → j < m → j < n → leads_back t m j i ≡ leads_back t n j i
  leads_same zero n j i l k = absurd (not-suc-le-zero l)
  leads_same (suc m) zero j i l k = absurd (not-suc-le-zero k)
  leads_same (suc m) (suc n) j i l k =
      both_same
      (at_same (leads_back t m) (leads_back t n) (port_cause t j) i (λ c h. let b = lower last_for last_before j (slice_get t j) c h in leads_same m n c i (omega arith) (omega arith)))
      (at_same (leads_back t m) (leads_back t n) (message_cause t j) i (λ c h. let b = lower send_for send_before j (slice_get t j) c h in leads_same m n c i (omega arith) (omega arith)))

  -- the decision holds the direct causes and what happened before them
  pub happened_closed : Closed t (λ j i. happened t i j)
  unfolding happened
  happened_closed j l i =
      let e : slice_get t j ≡ Some (entry_at t j) = slice_get-get_or t j _ l in
      both_same
      (at_same (leads_back t j) (λ c i. leads_back t (suc c) c i) (port_cause t j) i (λ c h. let b = lower last_for last_before j (slice_get t j) c h in leads_same j (suc c) c i b (omega arith))
      ∙ ap (λ (o : Option Entry). at_or_before (λ c i. leads_back t (suc c) c i) (cause_by last_for (take j t) o) i) e)
      (at_same (leads_back t j) (λ c i. leads_back t (suc c) c i) (message_cause t j) i (λ c h. let b = lower send_for send_before j (slice_get t j) c h in leads_same j (suc c) c i b (omega arith))
      ∙ ap (λ (o : Option Entry). at_or_before (λ c i. leads_back t (suc c) c i) (cause_by send_for (take j t) o) i) e)

  -- nothing happened before a number that is no event's
  happened_within : (i j : ℕ) → happened t i j ≡ true → j < length t
  unfolding happened
  happened_within i j h =
      elim (cases_lt j (length t)) [
        | inl l ↦ l
        | inr g ↦
            let none : slice_get t j ≡ None = slice_get_past t j g in
            let f : leads_back t (suc j) j i ≡ false =
            ap (λ (o : Option Entry). at_or_before (leads_back t j) (cause_by last_for (take j t) o) i || at_or_before (leads_back t j) (cause_by send_for (take j t) o) i) none in
            absurd (clash (sym f ∙ h))
      ]

  module _ (acc : Accepted t) where
    pub decided : (i j : ℕ) → Decides (happened t i j) (HappenedBefore t i j)
    decided i j = (
      (λ h. row_exact t acc (λ j i. happened t i j) happened_closed i j (happened_within i j h) h),
      (λ h. row_complete t acc (λ j i. happened t i j) happened_closed h),
    )

    pub lawful : Lawful (happened t)
    lawful = record {
      irreflexive = λ a.
          elim (cases_Bool (happened t a a))
          [ inl h ↦ let l = (before_lower t acc ((decided a a).0 h)).0 in absurd (let b : ⊥ = omega arith in b) | inr f ↦ f ];
      transitive = λ a b c h g. (decided a c).1 (through ((decided a b).0 h) ((decided b c).0 g));
    }

    pub causal : Causal t
    causal = record { upward = λ i j h. before_lower t acc h; decided = decided; lawful = lawful }

    -- rows that hold the direct causes and what is in their rows are the decision
    pub row_happened : (row : ℕ → ℕ → Bool) → Closed t row → (i j : ℕ) → j < length t → row j i ≡ happened t i j
    row_happened row closed i j l = same_from_decides (row j i) (happened t i j) (row_exact t acc row closed i j l, row_complete t acc row closed) (decided i j)

    -- a number that is no event's has no part in it
    pub none_outside : (i j : ℕ) → (i < length t → j < length t → ⊥) → HappenedBefore t i j → ⊥
    none_outside i j n h =
        let l : (i < j) × (j < length t) = before_lower t acc h in
        let x : i < length t = omega arith in
        n x l.1

    pub not_happened : (i j : ℕ) → (HappenedBefore t i j → ⊥) → happened t i j ≡ false
    not_happened i j n = elim (cases_Bool (happened t i j)) [ inl h ↦ absurd (n ((decided i j).0 h)) | inr f ↦ f ]
