-- One event more: the table of messages still agrees with the events.
use Rattle.std.proofs.Common.{◌≡◌, ℕ, ◌<◌, Bool, true, false, cond, not, eqb, List, [], ◌∷◌, ◌++◌, length, set, replicate, is_some, Some, None, Option, sym, refl, ap, ◌∙◌, subst, inl, inr, arith}
use Rattle.std.proofs.lemmas.Bool.{eq-eqb, ne_eqb, cases_eq, cases_Bool}
use Rattle.std.proofs.lemmas.Bool.Decides.{nat_tests}
use Rattle.std.proofs.lemmas.List.{get_or-set_same, get_or-set_other, get_or-replicate, length_push}
use Rattle.std.proofs.lemmas.List.Folds.{position_or_len_push}
use Rattle.std.proofs.lemmas.List.Sums.{prefix_len-le-length}
use Rattle.std.specs.List.{position}
use Rattle.std.specs.Option.{option_or}
use Rattle.clock.specs.Refusals.{lowest}
use Rattle.trace.specs.declared.entries.Entry.{Entry}
use Rattle.trace.specs.declared.entries.Entry.TheVariants.{Local, Send, Receipt}
use Rattle.trace.specs.declared.messages.MessageRecord.{MessageRecord}
use Rattle.trace.specs.Entries.{sends, receives, message_number}
use Rattle.trace.specs.Adding.{sender_of, receiver_of, event_conditions}
use Rattle.trace.specs.Decision.{send_for}
use Rattle.trace.specs.Messages.{unused, record_at, same, Agrees, send_conditions, receipt_conditions, note_conditions, noted, sent_by}
use Rattle.trace.specs.Options.{none_of, same_eq, eq_same, option_or-none}

position_push : (test : Entry → Bool) (t : List Entry) (x : Entry) → position test (t ++ x ∷ []) ≡ option_or (position test t) (cond (test x) (Some (length t)) None)
position_push test t x =
    let p = position_or_len_push test t x in
    let n = length_push t x in
    let l = prefix_len-le-length (λ (e : Entry). not (test e)) t in grind (arith, nat_tests)

-- the first event that passes a test stays, where the new one does not pass
first_kept : (test : Entry → Bool) (t : List Entry) (x : Entry) (o : Option ℕ) → test x ≡ false → same o (position test t) ≡ true
    → same o (position test (t ++ x ∷ [])) ≡ true
first_kept test t x o f h =
    eq_same o _
    (same_eq o _ h ∙ sym (option_or-none (position test t)) ∙ ap (λ (b : Bool). option_or (position test t) (cond b (Some (length t)) None)) (sym f) ∙ sym (position_push test t x))

-- .. and is the new one, where it is the only one that passes
first_new : (test : Entry → Bool) (t : List Entry) (x : Entry) → test x ≡ true → position test t ≡ None
    → same (Some (length t)) (position test (t ++ x ∷ [])) ≡ true
first_new test t x y none =
    eq_same (Some (length t)) _
    (ap (λ (b : Bool). option_or None (cond b (Some (length t)) None)) (sym y) ∙ ap (λ (o : Option ℕ). option_or o (cond (test x) (Some (length t)) None)) (sym none)
    ∙ sym (position_push test t x))

unsent : (m : MessageRecord) → lowest 7 (send_conditions m) ≡ 0 → m.sender ≡ None
unsent m h = none_of m.sender (elim (cases_Bool (is_some m.sender)) [ inl y ↦ grind (arith, nat_tests) | inr f ↦ f ])

unreceived : (m : MessageRecord) → lowest 7 (receipt_conditions m) ≡ 0 → m.receiver ≡ None
unreceived m h = none_of m.receiver (elim (cases_Bool (is_some m.receiver)) [ inl y ↦ grind (arith, nat_tests) | inr f ↦ f ])

AgreesAt : MessageRecord → List Entry → ℕ → Type 0
AgreesAt m t n = (same m.sender (sender_of n t) ≡ true) × (same m.receiver (receiver_of n t) ≡ true)

-- at a message that the new event neither sends nor receives
agrees_kept : (m : MessageRecord) (t : List Entry) (x : Entry) (n : ℕ) → sends n x ≡ false → receives n x ≡ false → AgreesAt m t n → AgreesAt m (t ++ x ∷ []) n
unfolding AgreesAt sender_of receiver_of
agrees_kept m t x n s r h = (first_kept (sends n) t x m.sender s h.0, first_kept (receives n) t x m.receiver r h.1)

-- a record that is changed, and the others
module _ (rs : List MessageRecord) (t : List Entry) (x : Entry) (n : ℕ) (m : MessageRecord) where
  agrees_set : n < length rs → AgreesAt m (t ++ x ∷ []) n → ((k : ℕ) → (k ≡ n → ⊥) → (sends k x ≡ false) × (receives k x ≡ false))
      → Agrees rs t → Agrees (set rs n m) (t ++ x ∷ [])
  unfolding AgreesAt
  agrees_set l here others h k b =
      elim (cases_eq k n) [
        | inl e ↦
            subst (λ (i : ℕ). AgreesAt (record_at (set rs n m) i) (t ++ x ∷ []) i) (sym e)
            (subst (λ (w : MessageRecord). AgreesAt w (t ++ x ∷ []) n) (sym (get_or-set_same rs n m unused l)) here)
        | inr ne ↦
            subst (λ (w : MessageRecord). AgreesAt w (t ++ x ∷ []) k) (sym (get_or-set_other rs n k m unused ne))
            (agrees_kept (record_at rs k) t x k (others k ne).0 (others k ne).1 (h k b))
      ]

apart : (k n : ℕ) → (k ≡ n → ⊥) → eqb n k ≡ false
apart k n ne = ne_eqb n k (λ e. ne (sym e))

pub agrees_push : (rs : List MessageRecord) (t : List Entry) (e : Entry) → length rs ≡ 512 → Agrees rs t → message_number e < 512
    → lowest 7 (note_conditions rs e) ≡ 0 → Agrees (noted rs e (length t)) (t ++ e ∷ [])
unfolding AgreesAt sender_of receiver_of
agrees_push rs t (Local p) l h b r = λ k i. agrees_kept (record_at rs k) t (Local p) k refl refl (h k i)
agrees_push rs t (Send p n) l h b r =
    agrees_set rs t (Send p n) n _ (omega arith) (
      first_new (sends n) t (Send p n) (eq-eqb n n refl) (sym (same_eq _ _ (h n b).0) ∙ unsent (record_at rs n) r),
      first_kept (receives n) t (Send p n) (record_at rs n).receiver refl (h n b).1,
    )
    (λ k ne. (apart k n ne, refl)) h
agrees_push rs t (Receipt p n) l h b r =
    agrees_set rs t (Receipt p n) n _ (omega arith) (
      first_kept (sends n) t (Receipt p n) (record_at rs n).sender refl (h n b).0,
      first_new (receives n) t (Receipt p n) (eq-eqb n n refl) (sym (same_eq _ _ (h n b).1) ∙ unreceived (record_at rs n) r),
    )
    (λ k ne. (refl, apart k n ne)) h

pub agrees_none : Agrees (replicate 512 unused) []
unfolding sender_of receiver_of
agrees_none n h =
    let e : record_at (replicate 512 unused) n ≡ unused = get_or-replicate 512 n unused unused h in
    subst (λ (w : MessageRecord). (same w.sender None ≡ true) × (same w.receiver None ≡ true)) (sym e) (refl, refl)

-- the records tell the refusals, and the event that sent what is received
pub refusal_noted : (rs : List MessageRecord) (t : List Entry) (e : Entry) → Agrees rs t → message_number e < 512 → length t < 512
    → lowest 6 (event_conditions t e) ≡ lowest 7 (note_conditions rs e)
refusal_noted rs t (Local p) h b l = grind (arith, nat_tests)
refusal_noted rs t (Send p n) h b l =
    let s : (record_at rs n).sender ≡ sender_of n t = same_eq _ _ (h n b).0 in rw (sym s) (grind (arith, nat_tests))
refusal_noted rs t (Receipt p n) h b l =
    let s : (record_at rs n).sender ≡ sender_of n t = same_eq _ _ (h n b).0 in
    let r : (record_at rs n).receiver ≡ receiver_of n t = same_eq _ _ (h n b).1 in rw (sym s, sym r) (grind (arith, nat_tests))

pub sent_is : (rs : List MessageRecord) (t : List Entry) (e : Entry) → Agrees rs t → message_number e < 512 → sent_by rs e ≡ send_for t e
sent_is rs t (Local p) h l = refl
sent_is rs t (Send p n) h l = refl
sent_is rs t (Receipt p n) h l = same_eq _ _ (h n l).0
