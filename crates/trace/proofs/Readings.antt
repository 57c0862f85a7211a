-- Reading a dump: its trace and its refusal are the only ones, and after 2052 bytes no further byte matters.
use Rattle.std.proofs.Common.{◌≡◌, ℕ, suc, ◌+◌, ◌*◌, ◌≤◌, false, eqb, ltb, List, [], ◌∷◌, ◌++◌, length, sym, refl, ap, ◌∙◌, subst, inl, inr, not-suc-le-zero, arith}
use Rattle.std.proofs.lemmas.Bool.{cases_lt}
use Rattle.std.proofs.lemmas.Bool.Decides.{nat_tests}
use Rattle.std.proofs.lemmas.List.{append-nil, append_assoc, append_cancel_left, length-append, length-take-le}
use Rattle.std.specs.List.{flat_map}
use Rattle.trace.specs.declared.entries.Entry.{Entry}
use Rattle.trace.specs.declared.entries.Entry.TheVariants.{Local, Send, Receipt}
use Rattle.trace.specs.Forms.{form, size_of, entry_of}
use Rattle.trace.specs.Adding.{refusal_of}
use Rattle.trace.specs.Dumps.{Ends, DumpOf, DumpRead}
use Rattle.trace.specs.Invariants.{Accepted}
use Rattle.trace.proofs.Tries.{form_entry, form_accepted, accepted_at, reached, reached_accepted}

-- one ending where the bytes are the same
ends_same : (t : List Entry) (rest : List ℕ) (r s : ℕ) → Ends t rest r → Ends t rest s → r ≡ s
ends_same t [] r s h g = h ∙ sym g
ends_same t (b ∷ bs) r s h g = sym h.0 ∙ g.0

-- bytes that begin with an entry that can come next do not end a dump
not_ended : (t : List Entry) (e : Entry) (rest more : List ℕ) (r : ℕ) → Ends t rest r → rest ≡ form e ++ more → refusal_of t (form e ++ more) ≡ 0 → ⊥
not_ended t (Local p) [] more r h q z = let b : ◌≡◌ {A = ℕ} 0 1 = cc in omega arith
not_ended t (Send p n) [] more r h q z = let b : ◌≡◌ {A = ℕ} 0 1 = cc in omega arith
not_ended t (Receipt p n) [] more r h q z = let b : ◌≡◌ {A = ℕ} 0 1 = cc in omega arith
not_ended t e (b ∷ bs) more r h q z = h.1 (sym h.0 ∙ ap (refusal_of t) q ∙ z)

-- the events of two readings agree, from where they are the same so far
only_from : (past t u : List Entry) (rest left : List ℕ) (r s : ℕ) → Accepted (past ++ t) → Accepted (past ++ u) → flat_map form t ++ rest ≡ flat_map form u ++ left
    → Ends (past ++ t) rest r → Ends (past ++ u) left s → (past ++ u ≡ past ++ t) × (s ≡ r)
only_from past [] [] rest left r s at au q h g =
    (refl, ends_same (past ++ []) rest s r (subst (λ (l : List ℕ). Ends (past ++ []) l s) (sym q) g) h)
only_from past [] (e ∷ u) rest left r s at au q h g =
    let h' : Ends past rest r = subst (λ (l : List Entry). Ends l rest r) (append-nil past) h in
    let q' : rest ≡ form e ++ (flat_map form u ++ left) = q ∙ append_assoc (form e) (flat_map form u) left in
    absurd (not_ended past e rest (flat_map form u ++ left) r h' q' (form_accepted past e (flat_map form u ++ left) (accepted_at past e u au)))
only_from past (e ∷ t) [] rest left r s at au q h g =
    let g' : Ends past left s = subst (λ (l : List Entry). Ends l left s) (append-nil past) g in
    let q' : left ≡ form e ++ (flat_map form t ++ rest) = sym q ∙ append_assoc (form e) (flat_map form t) rest in
    absurd (not_ended past e left (flat_map form t ++ rest) s g' q' (form_accepted past e (flat_map form t ++ rest) (accepted_at past e t at)))
only_from past (e ∷ t) (f ∷ u) rest left r s at au q h g =
    let q' : form e ++ (flat_map form t ++ rest) ≡ form f ++ (flat_map form u ++ left) = sym (append_assoc (form e) (flat_map form t) rest) ∙ q ∙ append_assoc (form f) (flat_map form u) left in
    let same : e ≡ f = sym (form_entry e (flat_map form t ++ rest)) ∙ ap entry_of q' ∙ form_entry f (flat_map form u ++ left) in
    let q'' : flat_map form t ++ rest ≡ flat_map form u ++ left = append_cancel_left (form e) _ _ (q' ∙ ap (λ (x : Entry). form x ++ (flat_map form u ++ left)) (sym same)) in
    let move = append_assoc past (e ∷ []) in
    let fu : past ++ f ∷ u ≡ (past ++ e ∷ []) ++ u = ap (λ (x : Entry). past ++ x ∷ u) (sym same) ∙ sym (move u) in
    let w = only_from (past ++ e ∷ []) t u rest left r s (subst Accepted (sym (move t)) at) (subst Accepted fu au) q'' (subst (λ (l : List Entry). Ends l rest r) (sym (move t)) h) (subst (λ (l : List Entry). Ends l left s) fu g) in
    (fu ∙ w.0 ∙ move t, w.1)

pub dump_only : (bytes : List ℕ) (t u : List Entry) (r s : ℕ) → DumpOf bytes t r → DumpOf bytes u s → (u ≡ t) × (s ≡ r)
dump_only bytes t u r s d e =
    only_from [] t u d.rest e.rest r s (reached_accepted t d.reached) (reached_accepted u e.reached) (sym d.holds ∙ e.holds) d.ends e.ends

-- a trace has at most 512 events, and their forms at most 2048 bytes
few_events : (t : List Entry) → Accepted t → length t ≤ 512
few_events t acc =
    elim (cases_lt 512 (length t)) [
      | inl l ↦
          let m = length-take-le 512 t (omega arith) in
          let r = (acc 512 l).1 in
          absurd (grind (arith, nat_tests))
      | inr g ↦ g
    ]

form_few : (e : Entry) → length (form e) ≤ 4
form_few (Local p) = omega arith
form_few (Send p n) = omega arith
form_few (Receipt p n) = omega arith

forms_few : (t : List Entry) → length (flat_map form t) ≤ 4 * length t
forms_few [] = omega arith
forms_few (e ∷ t) = omega (arith, forms_few t, form_few e, length-append (form e) (flat_map form t))

-- at most four bytes tell what is refused
refusal_more : (t : List Entry) (rest more : List ℕ) → 4 ≤ length rest → refusal_of t (rest ++ more) ≡ refusal_of t rest
refusal_more t [] more l = absurd (let b : ⊥ = omega arith in b)
refusal_more t (a ∷ []) more l = absurd (let b : ⊥ = omega arith in b)
refusal_more t (a ∷ b ∷ []) more l = absurd (let b : ⊥ = omega arith in b)
refusal_more t (a ∷ b ∷ c ∷ []) more l = absurd (let b : ⊥ = omega arith in b)
refusal_more t (a ∷ b ∷ c ∷ d ∷ rest) more l =
    let here : (n : ℕ) → eqb (suc (suc (suc (suc n)))) 0 ≡ false = λ n. grind (arith, nat_tests) in
    let long : (n : ℕ) → ltb (suc (suc (suc (suc n)))) (size_of a) ≡ false = λ n. grind (arith, nat_tests) in
    rw (here (length (rest ++ more)), long (length (rest ++ more)), here (length rest), long (length rest)) refl

ends_from : (t : List Entry) (rest : List ℕ) (r : ℕ) → 1 ≤ length rest → refusal_of t rest ≡ r → (r ≡ 0 → ⊥) → Ends t rest r
ends_from t [] r l h p = absurd (not-suc-le-zero l)
ends_from t (b ∷ bs) r l h p = (h, p)

ends_refused : (t : List Entry) (rest : List ℕ) (r : ℕ) → 1 ≤ length rest → Ends t rest r → (refusal_of t rest ≡ r) × (r ≡ 0 → ⊥)
ends_refused t [] r l h = absurd (not-suc-le-zero l)
ends_refused t (b ∷ bs) r l h = h

dump_enough : (bytes : List ℕ) (t : List Entry) (r : ℕ) → DumpOf bytes t r → 2052 ≤ length bytes → (more : List ℕ) → DumpOf (bytes ++ more) t r
dump_enough bytes t r d l more =
    let rest = d.rest in
    let few = few_events t (reached_accepted t d.reached) in
    let n : length bytes ≡ length (flat_map form t) + length rest = ap length d.holds ∙ length-append (flat_map form t) rest in
    let four : 4 ≤ length rest = omega (arith, forms_few t) in
    let e = ends_refused t rest r (omega arith) d.ends in
    record {
      reached = d.reached;
      rest = rest ++ more;
      holds = ap (λ (l : List ℕ). l ++ more) d.holds ∙ append_assoc (flat_map form t) rest more;
      ends = ends_from t (rest ++ more) r (omega (arith, length-append rest more)) (refusal_more t rest more four ∙ e.0) e.1;
    }

dump_read : (bytes : List ℕ) (t : List Entry) (r : ℕ) → DumpOf bytes t r → DumpRead bytes t r
dump_read bytes t r d = record { is = d; only = λ u s e. dump_only bytes t u r s d e; enough = dump_enough bytes t r d }

-- the bytes are used up
pub read_all : (bytes : List ℕ) (t : List Entry) (rest : List ℕ) → Accepted t → length rest ≡ 0 → bytes ≡ flat_map form t ++ rest → DumpRead bytes t 0
read_all bytes t (b ∷ bs) acc l h = absurd (let no : ⊥ = omega arith in no)
read_all bytes t [] acc l h = dump_read bytes t 0 (record { reached = reached t acc; rest = []; holds = h; ends = refl })

-- an entry is refused
pub read_until : (bytes : List ℕ) (t : List Entry) (rest : List ℕ) (r : ℕ) → Accepted t → 1 ≤ length rest → bytes ≡ flat_map form t ++ rest → refusal_of t rest ≡ r → (r ≡ 0 → ⊥)
    → DumpRead bytes t r
read_until bytes t rest r acc l h f p =
    dump_read bytes t r (record { reached = reached t acc; rest = rest; holds = h; ends = ends_from t rest r l f p })
