-- One event more: what the trace keeps of its events, but for the table of messages.
use Rattle.std.proofs.Common.{◌≡◌, ℕ, suc, ◌+◌, ◌<◌, ◌≤◌, Bool, true, false, cond, ◌||◌, eqb, List, [], ◌∷◌, ◌++◌, length, get_or, take, set, Some, None, Option, sym, refl, ap, ◌∙◌, subst, inl, inr, not-suc-le-zero, add-zero, zero-add, arith, lt-ltb}
use Rattle.std.proofs.lemmas.Bool.{eq-eqb, ne_eqb, cases_eq}
use Rattle.std.proofs.lemmas.List.{length-take-le, get_or_append_left, get_or_push, length_push, take-append-le, take_at, get_or-set_same, get_or-set_other, get_or-replicate}
use Rattle.std.specs.Option.{option_or}
use Rattle.trace.specs.declared.entries.Entry.{Entry}
use Rattle.trace.specs.declared.causes.EventCauses.{EventCauses}
use Rattle.trace.specs.Entries.{port_number_of}
use Rattle.trace.specs.Decision.{on_port_number, last_from, last_on, last_for, send_for, at_or_before}
use Rattle.trace.specs.Invariants.{entry_at, Acceptable, Accepted, Latest, causes_at, direct_at, Caused, is_below, Acyclic, row_of, Closed}
use Rattle.trace.specs.Messages.{same}
use Rattle.trace.specs.Rows.{in_row}
use Rattle.trace.specs.DecisionLemmas.{last_before, send_before, both_same}
use Rattle.trace.specs.Options.{same_eq, eq_same, option_or-none, option_or-assoc}

-- what holds of each event with those before it, where it holds of the old ones and of the new one
module _ (P : ℕ → List Entry → Entry → Type 0) where
  each_push : (t : List Entry) (e : Entry) → ((j : ℕ) → j < length t → P j (take j t) (entry_at t j)) → P (length t) t e
      → (j : ℕ) → j < length (t ++ e ∷ []) → P j (take j (t ++ e ∷ [])) (entry_at (t ++ e ∷ []) j)
  each_push t e old new j l =
      let n : length (t ++ e ∷ []) ≡ length t + 1 = length_push t e in
      elim (cases_eq j (length t)) [
        | inl q ↦
            subst (λ (i : ℕ). P i (take i (t ++ e ∷ [])) (entry_at (t ++ e ∷ []) i)) (sym q)
            (subst (λ (x : Entry). P (length t) (take (length t) (t ++ e ∷ [])) x) (sym (get_or_push t e _ (length t) refl))
            (subst (λ (past : List Entry). P (length t) past e) (sym (take_at t (e ∷ []) (length t) refl)) new))
        | inr ne ↦
            let k : j < length t = omega arith in
            let k' : j ≤ length t = omega arith in
            subst (λ (x : Entry). P j (take j (t ++ e ∷ [])) x) (sym (get_or_append_left t (e ∷ []) _ j k))
            (subst (λ (past : List Entry). P j past (entry_at t j)) (sym (take-append-le j t (e ∷ []) k')) (old j k))
      ]

pub accepted_push : (t : List Entry) (e : Entry) → Accepted t → Acceptable t e → Accepted (t ++ e ∷ [])
accepted_push t e h new = each_push (λ j past x. Acceptable past x) t e h new

pub accepted_none : Accepted []
accepted_none i h = absurd (not-suc-le-zero h)

-- the last event on a port
last_from_push : (p k : ℕ) (t : List Entry) (x : Entry) → last_from p k (t ++ x ∷ []) ≡ option_or (cond (on_port_number p x) (Some (k + length t)) None) (last_from p k t)
last_from_push p k [] x = rw (add-zero k) (sym (option_or-none _))
last_from_push p k (e ∷ t) x =
    ap (λ (o : Option ℕ). option_or o (cond (on_port_number p e) (Some k) None))
    (last_from_push p (suc k) t x ∙ ap (λ (n : ℕ). option_or (cond (on_port_number p x) (Some n) None) (last_from p (suc k) t)) (let s : suc k + length t ≡ k + suc (length t) = omega arith in s))
    ∙ option_or-assoc (cond (on_port_number p x) (Some (k + suc (length t))) None) (last_from p (suc k) t) (cond (on_port_number p e) (Some k) None)

last_push : (p : ℕ) (t : List Entry) (x : Entry) → last_on p (t ++ x ∷ []) ≡ option_or (cond (on_port_number p x) (Some (length t)) None) (last_on p t)
unfolding last_on
last_push p t x = last_from_push p 0 t x ∙ ap (λ (n : ℕ). option_or (cond (on_port_number p x) (Some n) None) (last_from p 0 t)) (zero-add (length t))

pub latest_push : (ls : List (Option ℕ)) (t : List Entry) (e : Entry) (q : ℕ) → length ls ≡ 8 → q ≡ port_number_of e → q < 8 → Latest ls t
    → Latest (set ls q (Some (length t))) (t ++ e ∷ [])
latest_push ls t e q n at low h p l =
    elim (cases_eq p q) [
      | inl s ↦
          let y : on_port_number p e ≡ true = eq-eqb (port_number_of e) p (sym at ∙ sym s) in
          let new : last_on p (t ++ e ∷ []) ≡ Some (length t) = last_push p t e ∙ ap (λ (b : Bool). option_or (cond b (Some (length t)) None) (last_on p t)) y in
          let got : get_or (set ls q (Some (length t))) p None ≡ Some (length t) = ap (λ (i : ℕ). get_or (set ls q (Some (length t))) i None) s ∙ get_or-set_same ls q _ None (omega arith) in
          eq_same _ _ (got ∙ sym new)
      | inr ne ↦
          let f : on_port_number p e ≡ false = ne_eqb (port_number_of e) p (λ s. ne (sym s ∙ sym at)) in
          let new : last_on p (t ++ e ∷ []) ≡ last_on p t = last_push p t e ∙ ap (λ (b : Bool). option_or (cond b (Some (length t)) None) (last_on p t)) f in
          let got : get_or (set ls q (Some (length t))) p None ≡ get_or ls p None = get_or-set_other ls q p _ None ne in
          eq_same _ _ (got ∙ same_eq _ _ (h p l) ∙ sym new)
    ]

pub latest_none : Latest (None ∷ None ∷ None ∷ None ∷ None ∷ None ∷ None ∷ None ∷ []) []
unfolding last_on
latest_none p l = eq_same _ _ (get_or-replicate 8 p None None l)

pub latest_is : (ls : List (Option ℕ)) (t : List Entry) (e : Entry) (q : ℕ) → q ≡ port_number_of e → q < 8 → Latest ls t → get_or ls q None ≡ last_for t e
latest_is ls t e q at low h = same_eq _ _ (h q low) ∙ ap (λ (p : ℕ). last_on p t) at

-- direct causes
below_from : (n : ℕ) (o : Option ℕ) → ((c : ℕ) → o ≡ Some c → c < n) → is_below n o ≡ true
below_from n None h = refl
below_from n (Some c) h = lt-ltb c n (h c refl)

pub last_below : (t : List Entry) (e : Entry) → is_below (length t) (last_for t e) ≡ true
last_below t e = below_from (length t) (last_for t e) (last_before t e)

pub send_below : (t : List Entry) (e : Entry) → is_below (length t) (send_for t e) ≡ true
send_below t e = below_from (length t) (send_for t e) (send_before t e)

-- what is kept of the causes of the old events stays, and the new event's comes after it
causes_old : (cs : List EventCauses) (c : EventCauses) (j : ℕ) → j < length cs → causes_at (cs ++ c ∷ []) j ≡ causes_at cs j
causes_old cs c j l = get_or_append_left cs (c ∷ []) _ j l

causes_new : (cs : List EventCauses) (c : EventCauses) (j : ℕ) → length cs ≡ j → causes_at (cs ++ c ∷ []) j ≡ c
causes_new cs c j e = get_or_push cs c _ j e

pub caused_push : (cs : List EventCauses) (c : EventCauses) (t : List Entry) (e : Entry) → length cs ≡ length t → c.direct.previous ≡ last_for t e → c.direct.send ≡ send_for t e
    → Caused cs t → Caused (cs ++ c ∷ []) (t ++ e ∷ [])
caused_push cs c t e n p s h =
    each_push (λ j past x. (same (direct_at (cs ++ c ∷ []) j).previous (last_for past x) ≡ true) × (same (direct_at (cs ++ c ∷ []) j).send (send_for past x) ≡ true)) t e
    (λ j l.
    subst (λ (y : EventCauses). (same y.direct.previous (last_for (take j t) (entry_at t j)) ≡ true) × (same y.direct.send (send_for (take j t) (entry_at t j)) ≡ true))
    (sym (causes_old cs c j (omega arith))) (h j l))
    (subst (λ (y : EventCauses). (same y.direct.previous (last_for t e) ≡ true) × (same y.direct.send (send_for t e) ≡ true)) (sym (causes_new cs c (length t) n))
    (eq_same _ _ p, eq_same _ _ s))

pub acyclic_push : (cs : List EventCauses) (c : EventCauses) (t : List Entry) (e : Entry) → length cs ≡ length t → c.direct.previous ≡ last_for t e → c.direct.send ≡ send_for t e
    → Acyclic cs t → Acyclic (cs ++ c ∷ []) (t ++ e ∷ [])
acyclic_push cs c t e n p s h =
    each_push (λ j past x. (is_below j (direct_at (cs ++ c ∷ []) j).previous ≡ true) × (is_below j (direct_at (cs ++ c ∷ []) j).send ≡ true)) t e
    (λ j l.
    subst (λ (y : EventCauses). (is_below j y.direct.previous ≡ true) × (is_below j y.direct.send ≡ true)) (sym (causes_old cs c j (omega arith))) (h j l))
    (subst (λ (y : EventCauses). (is_below (length t) y.direct.previous ≡ true) × (is_below (length t) y.direct.send ≡ true)) (sym (causes_new cs c (length t) n))
    (ap (is_below (length t)) p ∙ last_below t e, ap (is_below (length t)) s ∙ send_below t e))

-- rows
at_push : (cs : List EventCauses) (c : EventCauses) (o : Option ℕ) (i : ℕ) → ((k : ℕ) → o ≡ Some k → k < length cs) → at_or_before (row_of (cs ++ c ∷ [])) o i ≡ at_or_before (row_of cs) o i
at_push cs c None i h = refl
at_push cs c (Some k) i h = ap (λ (y : EventCauses). eqb i k || in_row y.row i) (causes_old cs c k (h k refl))

pub closed_push : (t : List Entry) (e : Entry) (cs : List EventCauses) (c : EventCauses) (p s : Option ℕ) → length cs ≡ length t → p ≡ last_for t e → s ≡ send_for t e → Closed t (row_of cs)
    → ((i : ℕ) → in_row c.row i ≡ (at_or_before (row_of cs) p i || at_or_before (row_of cs) s i))
    → Closed (t ++ e ∷ []) (row_of (cs ++ c ∷ []))
closed_push t e cs c p s n pe se h new =
    each_push (λ j past x. (i : ℕ) → row_of (cs ++ c ∷ []) j i ≡ (at_or_before (row_of (cs ++ c ∷ [])) (last_for past x) i || at_or_before (row_of (cs ++ c ∷ [])) (send_for past x) i)) t e
    (λ j l i.
    let m = length-take-le j t (omega arith) in
    ap (λ (y : EventCauses). in_row y.row i) (causes_old cs c j (omega arith)) ∙ h j l i
    ∙ both_same
    (sym (at_push cs c (last_for (take j t) (entry_at t j)) i (λ k q. let b = last_before (take j t) (entry_at t j) k q in omega arith)))
    (sym (at_push cs c (send_for (take j t) (entry_at t j)) i (λ k q. let b = send_before (take j t) (entry_at t j) k q in omega arith))))
    (λ i.
    ap (λ (y : EventCauses). in_row y.row i) (causes_new cs c (length t) n) ∙ new i
    ∙ both_same
    (ap (λ (o : Option ℕ). at_or_before (row_of cs) o i) pe ∙ sym (at_push cs c (last_for t e) i (λ k q. let b = last_before t e k q in omega arith)))
    (ap (λ (o : Option ℕ). at_or_before (row_of cs) o i) se ∙ sym (at_push cs c (send_for t e) i (λ k q. let b = send_before t e k q in omega arith))))
