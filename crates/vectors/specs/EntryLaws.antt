-- Entries of stamps: what the definitions say of each entry.
use Rattle.std.specs.Prelude.{◌≡◌, ℕ, zero, suc, ◌+◌, ◌<◌, ◌≤◌, max, Bool, true, false, cond, ◌≢◌, List, [], ◌∷◌, length, map, fold, Decides, MatchBool, ◌==◌, nat_lt, slice_index, slice_index_or, slice_set, refl}
use Rattle.std.specs.List.{zip, AllWithin, HoldsAt}
use Rattle.std.proofs.Common.{sym, ap, ◌∙◌, ⊎_elim, arith, add-one, length-set, get_or-set_same, get_or-set_other}
use Rattle.std.proofs.lemmas.Bool.{and_from, and_parts, cases_eq, cases_Bool, le-leb, ltb-true, lt-ltb, eq-eqb, ne_eqb, cond-true, cond-false}
use Rattle.std.proofs.lemmas.List.{get_or-map}
use Rattle.std.proofs.lemmas.Slice.Zip.{length-zip, get_or-zip}
use Rattle.std.proofs.lemmas.List.FromFn.{get_or-map-range_with_len, fill_by_all}
use Rattle.clock.proofs.Below.{each_decides}
use Rattle.vectors.specs.Entries.{none_exceeds, largest, zeros, greater, one_more, entries_before, entries_take}

-- no entry exceeds

none_decides : (n : ℕ) (a b : List ℕ) → Decides (none_exceeds n a b) ((k : ℕ) → k < n → slice_index a k ≤ slice_index b k)
unfolding none_exceeds
none_decides n a b = each_decides (λ k. slice_index a k) (λ k. slice_index b k) n

pub none_first : (a b : List ℕ) → none_exceeds 0 a b ≡ true
unfolding none_exceeds
none_first a b = refl

pub none_next : (i : ℕ) (a b : List ℕ) → none_exceeds i a b ≡ true → slice_index a i ≤ slice_index b i → none_exceeds (i + 1) a b ≡ true
unfolding none_exceeds
none_next i a b e h = rw add-one (and_from _ _ (le-leb _ _ h) e)

pub none_fails : (n i : ℕ) (a b : List ℕ) → i < n → slice_index b i < slice_index a i → none_exceeds n a b ≡ false
none_fails n i a b l h =
    ⊎_elim (λ e. let x = (none_decides n a b).0 e i l in absurd (omega arith)) (λ e. e) (cases_Bool (none_exceeds n a b))

-- a test of each two entries, one after the other, answers whether none exceeds
module _ {Counter : Type 0} (value : Counter → ℕ) (n : ℕ) (a b : List Counter) (default : Counter) (len_a : length a ≡ n) (len_b : length b ≡ n) where
  pair_at : (k : ℕ) → k < n → (value (slice_index_or (zip a b) k (default, default)).0 ≡ slice_index (map value a) k) × (value (slice_index_or (zip a b) k (default, default)).1 ≡ slice_index (map value b) k)
  pair_at k h =
      let pair = get_or-zip a b k (default, default) (omega arith) (omega arith) in
      (ap (λ p. value p.0) pair ∙ sym (get_or-map value a k default 0 (omega arith)), ap (λ p. value p.1) pair ∙ sym (get_or-map value b k default 0 (omega arith)))

  pub none_tested : (r : Bool) → MatchBool r (AllWithin (λ p. value p.0 ≤ value p.1) (zip a b) 0 (length (zip a b))) ((k : ℕ) × (k < length (zip a b)) × HoldsAt (λ p. value p.1 < value p.0) (zip a b) k) → r ≡ none_exceeds n (map value a) (map value b)
  none_tested true h = sym ((none_decides n (map value a) (map value b)).1 (λ k l. let at = pair_at k l in omega (arith, at.0, at.1, h k (default, default) (omega arith) (omega (arith, length-zip a b)))))
  none_tested false h =
      let l : h.0 < n = omega (arith, h.1, length-zip a b) in
      let at = pair_at h.0 l in
      sym (none_fails n h.0 (map value a) (map value b) l (omega (arith, at.0, at.1, h.2 (default, default))))

-- the largest entry

pub largest_first : (e : List ℕ) → largest 0 e ≡ 0
unfolding largest
largest_first e = refl

pub largest_next : (i : ℕ) (e : List ℕ) → largest (i + 1) e ≡ max (slice_index e i) (largest i e)
unfolding largest
largest_next i e = rw add-one refl

largest_cons : (n x : ℕ) (e : List ℕ) → largest (suc n) (x ∷ e) ≡ max x (largest n e)
unfolding largest
largest_cons zero x e = omega arith
largest_cons (suc n) x e = omega (arith, largest_cons n x e)

-- the greatest of m and each entry in turn
pub greatest_so_far : {Counter : Type 0} (value : Counter → ℕ) (m : ℕ) (e : List Counter) → fold (λ most x. max (value x) most) m e ≡ max m (largest (length e) (map value e))
unfolding largest
greatest_so_far value m [] = omega arith
greatest_so_far value m (x ∷ e) = omega (arith, greatest_so_far value (max (value x) m) e, largest_cons (length e) (value x) (map value e))

pub entry_largest : (n : ℕ) (e : List ℕ) (k : ℕ) → k < n → slice_index e k ≤ largest n e
unfolding largest
entry_largest zero e k h = absurd (omega arith)
entry_largest (suc n) e k h =
    ⊎_elim (λ q. let x : slice_index_or e k 0 ≡ slice_index_or e n 0 = ap (λ j. slice_index e j) q in omega arith)
    (λ q. let x = entry_largest n e k (omega arith) in omega arith) (cases_eq k n)

pub largest_within : (n : ℕ) (e : List ℕ) (c : ℕ) → ((k : ℕ) → k < n → slice_index e k ≤ c) → largest n e ≤ c
unfolding largest
largest_within zero e c h = omega arith
largest_within (suc n) e c h =
    let x = h n (omega arith) in let y = largest_within n e c (λ k l. h k (omega arith)) in omega arith

pub largest_same : (n : ℕ) (e f : List ℕ) → ((k : ℕ) → k < n → slice_index e k ≡ slice_index f k) → largest n e ≡ largest n f
unfolding largest
largest_same zero e f h = refl
largest_same (suc n) e f h = omega (arith, h n (omega arith), largest_same n e f (λ k l. h k (omega arith)))

-- the entries of what is made

pub entry_zeros : (n k : ℕ) → k < n → slice_index (zeros n) k ≡ 0
entry_zeros n k h = get_or-map-range_with_len (λ (j : ℕ). 0) 0 n k k 0 h (omega arith)

pub entry_greater : (n : ℕ) (a b : List ℕ) (k : ℕ) → k < n → slice_index (greater n a b) k ≡ max (slice_index a k) (slice_index b k)
unfolding greater
entry_greater n a b k h = get_or-map-range_with_len (λ j. max (slice_index a j) (slice_index b j)) 0 n k k 0 h (omega arith)

pub greater_within : (n : ℕ) (a b : List ℕ) → largest n (greater n a b) ≤ max (largest n a) (largest n b)
greater_within n a b = largest_within n (greater n a b) _ (λ k h. omega (arith, entry_greater n a b k h, entry_largest n a k h, entry_largest n b k h))

entry_one_more : (n own : ℕ) (e : List ℕ) (k : ℕ) → k < n → slice_index (one_more n own e) k ≡ cond (k == own) (slice_index e k + 1) (slice_index e k)
unfolding one_more
entry_one_more n own e k h = get_or-map-range_with_len (λ j. cond (j == own) (slice_index e j + 1) (slice_index e j)) 0 n k k 0 h (omega arith)

pub own_entry : (n own : ℕ) (e : List ℕ) → own < n → slice_index (one_more n own e) own ≡ slice_index e own + 1
own_entry n own e h = entry_one_more n own e own h ∙ cond-true _ _ _ (eq-eqb own own refl)

-- no entry falls, and none rises by more than 1
pub entry_rises : (n own : ℕ) (e : List ℕ) (k : ℕ) → k < n → (slice_index e k ≤ slice_index (one_more n own e) k) × (slice_index (one_more n own e) k ≤ slice_index e k + 1)
entry_rises n own e k h =
    ⊎_elim (λ q. let x = entry_one_more n own e k h ∙ cond-true _ _ _ (eq-eqb k own q) in (omega arith, omega arith))
    (λ q. let x = entry_one_more n own e k h ∙ cond-false _ _ _ (ne_eqb k own q) in (omega arith, omega arith)) (cases_eq k own)

-- lists filled place by place

pub one_more_set : (n own : ℕ) (e : List ℕ) → own < n → length e ≡ n → slice_set e own (slice_index e own + 1) ≡ one_more n own e
unfolding one_more
one_more_set n own e h l =
    fill_by_all (λ j. cond (j == own) (slice_index e j + 1) (slice_index e j)) (slice_set e own (slice_index e own + 1)) n 0 (length-set e own _ ∙ l)
    (λ k lt. ⊎_elim
    (λ q. let w : own < length e = omega arith in
    ap (λ j. slice_index (slice_set e own (slice_index e own + 1)) j) q ∙ get_or-set_same e own (slice_index e own + 1) 0 w ∙ ap (λ j. slice_index e j + 1) (sym q) ∙ sym (cond-true (k == own) _ _ (eq-eqb k own q)))
    (λ (q : k ≢ own). get_or-set_other e own k (slice_index e own + 1) 0 q ∙ sym (cond-false (k == own) _ _ (ne_eqb k own q)))
    (cases_eq k own))

-- the first i entries of t are the greater of a's and b's, and the others are a's
pub record GreaterBelow (i : ℕ) (a b t : List ℕ) : Type 0 where
  pub done : (k : ℕ) → k < i → slice_index t k ≡ max (slice_index a k) (slice_index b k)
  pub kept : (k : ℕ) → i ≤ k → slice_index t k ≡ slice_index a k

pub greater_next : (i v : ℕ) (a b t : List ℕ) → i < length t → v ≡ max (slice_index t i) (slice_index b i) → GreaterBelow i a b t → GreaterBelow (i + 1) a b (slice_set t i v)
greater_next i v a b t l new h = record {
  done = λ k lt. ⊎_elim
      (λ q. let e : slice_index (slice_set t i v) k ≡ v = ap (slice_index (slice_set t i v)) q ∙ get_or-set_same t i v 0 l in
      omega (arith, e, new, h.kept i (omega arith), ap (slice_index a) q, ap (slice_index b) q))
      (λ ne. get_or-set_other t i k v 0 ne ∙ h.done k (omega arith)) (cases_eq k i);
  kept = λ k le. get_or-set_other t i k v 0 (λ q. omega arith) ∙ h.kept k (omega arith);
}

pub greater_filled : (n : ℕ) (a b t : List ℕ) → length t ≡ n → ((k : ℕ) → k < n → slice_index t k ≡ max (slice_index a k) (slice_index b k)) → t ≡ greater n a b
unfolding greater
greater_filled n a b t l h = fill_by_all (λ j. max (slice_index a j) (slice_index b j)) t n 0 l h

pub greater_all : (n i : ℕ) (a b t : List ℕ) → n ≤ i → length t ≡ n → GreaterBelow i a b t → t ≡ greater n a b
greater_all n i a b t le l h = greater_filled n a b t l (λ k lt. h.done k (omega arith))

-- a step and a take stay within what the largest entries leave

pub step_largest : (n own : ℕ) (e : List ℕ) (k : ℕ) → k < n → slice_index (one_more n own e) k ≤ largest n e + 1
step_largest n own e k h = omega (arith, entry_largest n e k h, (entry_rises n own e k h).1)

pub take_largest : (n own : ℕ) (e m : List ℕ) (k : ℕ) → k < n → slice_index (entries_take n own e m) k ≤ max (largest n e) (largest n m) + 1
take_largest n own e m k h = omega (arith, entry_largest n e k h, entry_largest n m k h, entry_greater n e m k h, (entry_rises n own (greater n e m) k h).1)

-- the order

-- t is after a where no entry of a exceeds and the own entry of t is greater
pub entries_after : (n own : ℕ) (a t : List ℕ) → ((k : ℕ) → k < n → slice_index a k ≤ slice_index t k) → slice_index a own < slice_index t own → entries_before n own a t ≡ true
entries_after n own a t all at = and_from _ _ ((none_decides n a t).1 all) (lt-ltb _ _ at)

pub entries_irreflexive : (n own : ℕ) (a : List ℕ) → entries_before n own a a ≡ false
entries_irreflexive n own a =
    ⊎_elim (λ e. let x = ltb-true _ _ (and_parts (none_exceeds n a a) (nat_lt (slice_index a own) (slice_index a own)) e).1 in absurd (omega arith)) (λ e. e) (cases_Bool (entries_before n own a a))

pub entries_transitive : (n o p : ℕ) (a b c : List ℕ) → p < n → entries_before n o a b ≡ true → entries_before n p b c ≡ true → entries_before n p a c ≡ true
entries_transitive n o p a b c l x y =
    let xs = and_parts (none_exceeds n a b) (nat_lt (slice_index a o) (slice_index b o)) x in
    let ys = and_parts (none_exceeds n b c) (nat_lt (slice_index b p) (slice_index c p)) y in
    let ab = (none_decides n a b).0 xs.0 in
    let bc = (none_decides n b c).0 ys.0 in
    entries_after n p a c (λ k h. omega (arith, ab k h, bc k h)) (omega (arith, ab p l, ltb-true _ _ ys.1))
