-- Tries: what adding answers is what the try gives, and every trace is what some tries leave.
use Rattle.std.proofs.Common.{◌≡◌, ℕ, suc, ◌+◌, ◌*◌, ◌/◌, ◌%◌, ◌<◌, Bool, true, false, cond, eqb, List, [], ◌∷◌, ◌++◌, map, length, Ok, Err, Result, sym, refl, ap, ◌∙◌, subst, inl, inr, arith}
use Rattle.std.proofs.lemmas.Bool.{cases_Bool, ne_eqb, eqb-true, eqb-false}
use Rattle.std.proofs.lemmas.Bool.Decides.{nat_tests}
use Rattle.std.proofs.lemmas.List.{append-nil, append_assoc, take_at, get_or_at, length-append}
use Rattle.clock.specs.declared.refusals.Refusal.{Refusal}
use Rattle.clock.specs.Ports.{port_at}
use Rattle.clock.specs.Refusals.{lowest}
use Rattle.clock.proofs.Numbers.{port_back, port_low, refusal_positive}
use Rattle.trace.specs.declared.entries.Entry.{Entry}
use Rattle.trace.specs.declared.entries.Entry.TheVariants.{Local, Send, Receipt}
use Rattle.trace.specs.declared.added.Added.{Added}
use Rattle.trace.specs.Entries.{message_number}
use Rattle.trace.specs.Forms.{form, kind_byte, port_byte, message_bytes, entry_of, byte_conditions}
use Rattle.trace.specs.Adding.{event_conditions, refusal_of, tried, after_from, after, Reached, Adds}
use Rattle.trace.specs.Causality.{CausalRuns}
use Rattle.trace.specs.Invariants.{entry_at, Acceptable, Accepted}
use Rattle.trace.specs.DecisionLemmas.{causal}
use Rattle.trace.proofs.Pushes.{accepted_push, accepted_none}

-- the lowest number of two lists of conditions: that of the first, and where none of it applies that of the second
low_first : (n k : ℕ) (cs ds : List Bool) → lowest (suc n) cs ≡ k → (k ≡ 0 → ⊥) → lowest (suc n) (cs ++ ds) ≡ k
low_first n k [] ds h p = absurd (p (sym h))
low_first n k (true ∷ cs) ds h p = h
low_first n k (false ∷ cs) ds h p = low_first (suc n) k cs ds h p

low_second : (n : ℕ) (cs ds : List Bool) → lowest (suc n) cs ≡ 0 → lowest (suc n) (cs ++ ds) ≡ lowest (suc n + length cs) ds
low_second n [] ds h = ap (λ (k : ℕ). lowest k ds) (omega arith)
low_second n (true ∷ cs) ds h = absurd (let b : ⊥ = omega arith in b)
low_second n (false ∷ cs) ds h = low_second (suc n) cs ds h ∙ ap (λ (k : ℕ). lowest k ds) (omega arith)

pub bytes_refused : (t : List Entry) (bytes : List ℕ) (k : ℕ) → lowest 1 (byte_conditions bytes) ≡ k → (k ≡ 0 → ⊥) → refusal_of t bytes ≡ k
bytes_refused t bytes k h p = low_first 0 k (byte_conditions bytes) (event_conditions t (entry_of bytes)) h p

pub entry_tried : (t : List Entry) (bytes : List ℕ) (e : Entry) (k : ℕ) → lowest 1 (byte_conditions bytes) ≡ 0 → e ≡ entry_of bytes → lowest 6 (event_conditions t e) ≡ k
    → refusal_of t bytes ≡ k
entry_tried t bytes e k h q r =
    low_second 0 (byte_conditions bytes) (event_conditions t (entry_of bytes)) h ∙ ap (λ (x : Entry). lowest 6 (event_conditions t x)) (sym q) ∙ r

-- what is read of bytes that none of refusals 1 to 5 applies to
pub readable : (bytes : List ℕ) (t : List Entry) → refusal_of t bytes ≡ 0 → lowest 1 (byte_conditions bytes) ≡ 0
readable bytes t h =
    elim (cases_Bool (eqb (lowest 1 (byte_conditions bytes)) 0)) [
      | inl y ↦ eqb-true _ 0 y
      | inr f ↦ absurd (let ne = eqb-false (lowest 1 (byte_conditions bytes)) 0 f in ne (sym (bytes_refused t bytes (lowest 1 (byte_conditions bytes)) refl ne) ∙ h))
    ]

message_low : (bytes : List ℕ) → lowest 1 (byte_conditions bytes) ≡ 0 → message_number (entry_of bytes) < 512
message_low bytes h = go (eqb (kind_byte bytes) 1) (eqb (kind_byte bytes) 2) refl
  where
    go : (x y : Bool) → eqb (kind_byte bytes) 1 ≡ x
        → message_number (cond x (Local (port_at (port_byte bytes))) (cond y (Send (port_at (port_byte bytes)) (message_bytes bytes)) (Receipt (port_at (port_byte bytes)) (message_bytes bytes)))) < 512
    go true y e = omega arith
    go false true e = let m = message_bytes bytes in grind (arith, nat_tests)
    go false false e = let m = message_bytes bytes in grind (arith, nat_tests)

pub tried_accepted : (t : List Entry) (bytes : List ℕ) → Accepted t → Accepted (tried t bytes)
tried_accepted t bytes h =
    elim (cases_Bool (eqb (refusal_of t bytes) 0)) [
      | inl y ↦
          let z : refusal_of t bytes ≡ 0 = eqb-true _ 0 y in
          let r = readable bytes t z in
          subst Accepted (ap (λ (b : Bool). cond b (t ++ entry_of bytes ∷ []) t) (sym y))
          (accepted_push t (entry_of bytes) h (message_low bytes r, sym (low_second 0 (byte_conditions bytes) (event_conditions t (entry_of bytes)) r) ∙ z))
      | inr f ↦ subst Accepted (ap (λ (b : Bool). cond b (t ++ entry_of bytes ∷ []) t) (sym f)) h
    ]

pub after_accepted : (t : List Entry) (tries : List (List ℕ)) → Accepted t → Accepted (after_from t tries)
after_accepted t [] h = h
after_accepted t (bytes ∷ tries) h = after_accepted (tried t bytes) tries (tried_accepted t bytes h)

pub reached_accepted : (t : List Entry) → Reached t → Accepted t
reached_accepted t r = subst Accepted r (after_accepted [] (map form t) accepted_none)

pub causal_runs : CausalRuns
causal_runs tries = causal (after tries) (after_accepted [] tries accepted_none)

-- what adding leaves is what the try gives
pub adds_tried : (old new : List Entry) (bytes : List ℕ) (r : Result Added Refusal) → Adds old new bytes r → new ≡ tried old bytes
adds_tried old new bytes (Ok a) h = h.events ∙ ap (λ (n : ℕ). cond (eqb n 0) (old ++ entry_of bytes ∷ []) old) (sym h.none_applies)
adds_tried old new bytes (Err f) h =
    h.unchanged ∙ ap (λ (b : Bool). cond b (old ++ entry_of bytes ∷ []) old) (sym (ne_eqb (refusal_of old bytes) 0 (λ z. refusal_positive f (sym h.applies ∙ z))))

-- bytes that begin with the form of an entry
joined_number : (n : ℕ) → n / 256 * 256 + n % 256 ≡ n
joined_number n = omega arith

pub form_entry : (e : Entry) (more : List ℕ) → entry_of (form e ++ more) ≡ e
form_entry (Local p) more = ap Local (port_back p)
form_entry (Send p n) more = rw (port_back p, joined_number n) refl
form_entry (Receipt p n) more = rw (port_back p, joined_number n) refl

form_readable : (e : Entry) (more : List ℕ) → message_number e < 512 → lowest 1 (byte_conditions (form e ++ more)) ≡ 0
form_readable (Local p) more l = let low = port_low p in grind (arith, nat_tests)
form_readable (Send p n) more l = let low = port_low p in let j = joined_number n in grind (arith, nat_tests)
form_readable (Receipt p n) more l = let low = port_low p in let j = joined_number n in grind (arith, nat_tests)

pub form_accepted : (t : List Entry) (e : Entry) (more : List ℕ) → Acceptable t e → refusal_of t (form e ++ more) ≡ 0
form_accepted t e more a = entry_tried t (form e ++ more) e 0 (form_readable e more a.0) (sym (form_entry e more)) a.1

form_tried : (t : List Entry) (e : Entry) → Acceptable t e → tried t (form e) ≡ t ++ e ∷ []
form_tried t e a =
    let z : refusal_of t (form e) ≡ 0 = ap (refusal_of t) (sym (append-nil (form e))) ∙ form_accepted t e [] a in
    let q : entry_of (form e) ≡ e = ap entry_of (sym (append-nil (form e))) ∙ form_entry e [] in
    ap (λ (n : ℕ). cond (eqb n 0) (t ++ entry_of (form e) ∷ []) t) z ∙ ap (λ (x : Entry). t ++ x ∷ []) q

-- an event could come after those before it
pub accepted_at : (past : List Entry) (e : Entry) (u : List Entry) → Accepted (past ++ e ∷ u) → Acceptable past e
accepted_at past e u h =
    let l : length past < length (past ++ e ∷ u) = omega (arith, length-append past (e ∷ u)) in
    let there : entry_at (past ++ e ∷ u) (length past) ≡ e = get_or_at past e u _ (length past) refl in
    subst (λ (x : Entry). Acceptable past x) there
    (subst (λ (p : List Entry). Acceptable p (entry_at (past ++ e ∷ u) (length past))) (take_at past (e ∷ u) (length past) refl) (h (length past) l))

reached_from : (past u : List Entry) → Accepted (past ++ u) → after_from past (map form u) ≡ past ++ u
reached_from past [] h = sym (append-nil past)
reached_from past (e ∷ u) h =
    ap (λ (t : List Entry). after_from t (map form u)) (form_tried past e (accepted_at past e u h))
    ∙ reached_from (past ++ e ∷ []) u (subst Accepted (sym (append_assoc past (e ∷ []) u)) h)
    ∙ append_assoc past (e ∷ []) u

-- every trace is what the tries of its own entries leave
pub reached : (t : List Entry) → Accepted t → Reached t
reached t h = reached_from [] t h
