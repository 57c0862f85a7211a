-- Rows of bits: one event put in, two rows joined, and the count of a row's events.
use Rattle.std.proofs.Common.{◌≡◌, ℕ, zero, suc, ◌+◌, ◌*◌, ◌/◌, ◌%◌, ◌^◌, ◌<◌, ◌≤◌, Bool, true, false, cond, ◌||◌, eqb, List, [], ◌∷◌, length, get_or, take, set, replicate, sym, refl, ap, ◌∙◌, subst, inl, inr, add-zero, add-suc, add-one, arith}
use lib.Arith.{lt-one}
use lib.Bits.{bit_or}
use lib.Count.{ones, ones_step}
use denote.Param.Members.{Mut}
use Rattle.std.specs.Array.{IsFromFnResultFrom, IsFromFnResult}
use Rattle.std.specs.Fn.{Called}
use Rattle.std.specs.List.{sum_by}
use Rattle.std.proofs.lemmas.List.Sums.{sum_by_more}
use Rattle.std.proofs.lemmas.Nat.Bits.{bit_at_or as digit_or, bit_at-zero as digit-zero, bit_at-pow_same as digit-pow_same, bit_at-pow_other as digit-pow_other, bit_at-suc as digit-suc, bit_at_lowest as digit_lowest}
use Rattle.std.proofs.lemmas.Nat.{shr_below}
use Rattle.std.proofs.lemmas.List.{length-append, get_or-set_same, get_or-set_other, get_or_past, get_or-replicate, take_all}
use Rattle.std.proofs.lemmas.Bool.{eq-eqb, ne_eqb, cases_eq, cases_lt}
use Rattle.std.proofs.lemmas.Bool.Decides.{nat_tests}
use Rattle.trace.specs.Rows.{bit_at, held, members}

pub bit_at_or : (a b k : ℕ) → bit_at (bit_or a b) k ≡ (bit_at a k || bit_at b k)
unfolding bit_at
bit_at_or a b k = rw (digit_or a b k) (grind (arith, nat_tests))

pub bit_zero : (k : ℕ) → bit_at 0 k ≡ false
unfolding bit_at
bit_zero k = rw (digit-zero k) refl

pub bit_pow : (j k : ℕ) → bit_at (2 ^ j) k ≡ eqb k j
unfolding bit_at
bit_pow j k =
    elim (cases_eq k j) [
      | inl e ↦ rw e (rw (digit-pow_same j) (sym (eq-eqb j j refl)))
      | inr ne ↦ rw (digit-pow_other j k ne) (sym (ne_eqb k j ne))
    ]

pub held_insert : (ws : List ℕ) (a x : ℕ) → a / 64 < length ws
    → held (set ws (a / 64) (bit_or (get_or ws (a / 64) 0) (2 ^ (a % 64)))) x ≡ (held ws x || eqb x a)
unfolding held
held_insert ws a x l =
    elim (cases_eq (x / 64) (a / 64)) [
      | inl e ↦
          let same : get_or (set ws (a / 64) (bit_or (get_or ws (a / 64) 0) (2 ^ (a % 64)))) (x / 64) 0 ≡ bit_or (get_or ws (x / 64) 0) (2 ^ (a % 64)) =
          ap (λ (n : ℕ). get_or (set ws (a / 64) (bit_or (get_or ws (a / 64) 0) (2 ^ (a % 64)))) n 0) e ∙ get_or-set_same ws (a / 64) _ 0 l
          ∙ ap (λ (n : ℕ). bit_or (get_or ws n 0) (2 ^ (a % 64))) (sym e) in
          let t : eqb (x % 64) (a % 64) ≡ eqb x a = grind (arith, nat_tests) in
          ap (λ (n : ℕ). bit_at n (x % 64)) same ∙ bit_at_or (get_or ws (x / 64) 0) (2 ^ (a % 64)) (x % 64)
          ∙ ap (λ (b : Bool). bit_at (get_or ws (x / 64) 0) (x % 64) || b) (bit_pow (a % 64) (x % 64) ∙ t)
      | inr ne ↦
          let f : eqb x a ≡ false = ne_eqb x a (λ e. ne (ap (λ (n : ℕ). n / 64) e)) in
          ap (λ (n : ℕ). bit_at n (x % 64)) (get_or-set_other ws (a / 64) (x / 64) _ 0 ne) ∙ sym (or_false _) ∙ ap (λ (b : Bool). bit_at (get_or ws (x / 64) 0) (x % 64) || b) (sym f)
    ]
  where
    or_false : (b : Bool) → (b || false) ≡ b
    or_false true = refl
    or_false false = refl

-- a row has no event past its bits
pub held_past : (ws : List ℕ) (k : ℕ) → length ws ≡ 8 → 512 ≤ k → held ws k ≡ false
unfolding held
held_past ws k n h = ap (λ (w : ℕ). bit_at w (k % 64)) (get_or_past ws (k / 64) 0 (omega arith)) ∙ bit_zero (k % 64)

pub held_join : (ws us vs : List ℕ) → length ws ≡ 8 → length us ≡ 8 → length vs ≡ 8 → ((k : ℕ) → k < 8 → get_or vs k 0 ≡ bit_or (get_or ws k 0) (get_or us k 0)) → (x : ℕ) → held vs x ≡ (held ws x || held us x)
unfolding held
held_join ws us vs lw lu lv h x =
    elim (cases_lt (x / 64) 8) [
      | inl l ↦ ap (λ (n : ℕ). bit_at n (x % 64)) (h (x / 64) l) ∙ bit_at_or _ _ (x % 64)
      | inr g ↦
          let pv = get_or_past vs (x / 64) 0 (omega arith) in
          let pw = get_or_past ws (x / 64) 0 (omega arith) in
          let pu = get_or_past us (x / 64) 0 (omega arith) in
          let z = bit_zero (x % 64) in
          rw (pv, pw, pu, z) refl
    ]

pub held_none : (x : ℕ) → held (0 ∷ 0 ∷ 0 ∷ 0 ∷ 0 ∷ 0 ∷ 0 ∷ 0 ∷ []) x ≡ false
unfolding held
held_none x = ap (λ (n : ℕ). bit_at n (x % 64)) (zeros (x / 64)) ∙ bit_zero (x % 64)
  where
    zeros : (i : ℕ) → ◌≡◌ {A = ℕ} (get_or (0 ∷ 0 ∷ 0 ∷ 0 ∷ 0 ∷ 0 ∷ 0 ∷ 0 ∷ []) i 0) 0
    zeros i = elim (cases_lt i 8) [ inl l ↦ get_or-replicate 8 i 0 0 l | inr g ↦ get_or_past (replicate 8 0) i 0 g ]

-- how many numbers below n pass a test
unfoldable pub count_of : (ℕ → Bool) → ℕ → ℕ
count_of test n = length (members test n)

one_more : (b : Bool) (n : ℕ) → length (cond b (n ∷ []) []) ≡ cond b 1 0
one_more true n = refl
one_more false n = refl

pub count_none : (f : ℕ → Bool) → count_of f 0 ≡ 0
unfolding count_of members
count_none f = refl

pub count_more : (f : ℕ → Bool) (n : ℕ) → count_of f (suc n) ≡ count_of f n + cond (f n) 1 0
unfolding count_of members
count_more f n = length-append (members f n) (cond (f n) (n ∷ []) []) ∙ ap (λ (k : ℕ). length (members f n) + k) (one_more (f n) n)

-- the count's first number, and the rest
count_first : (f : ℕ → Bool) (n : ℕ) → count_of f (suc n) ≡ cond (f 0) 1 0 + count_of (λ i. f (suc i)) n
count_first f zero = omega (arith, count_more f 0, count_none f, count_none (λ i. f (suc i)))
count_first f (suc n) = omega (arith, count_first f n, count_more f (suc n), count_more (λ i. f (suc i)) n)

count_add : (f : ℕ → Bool) (m n : ℕ) → count_of f (m + n) ≡ count_of f m + count_of (λ i. f (m + i)) n
count_add f m zero = ap (count_of f) (add-zero m) ∙ sym (add-zero (count_of f m)) ∙ ap (λ (k : ℕ). count_of f m + k) (sym (count_none (λ i. f (m + i))))
count_add f m (suc n) =
    ap (count_of f) (add-suc m n) ∙ omega (arith, count_add f m n, count_more f (m + n), count_more (λ i. f (m + i)) n)

count_same : (f g : ℕ → Bool) (n : ℕ) → ((i : ℕ) → i < n → f i ≡ g i) → count_of f n ≡ count_of g n
count_same f g zero h = count_none f ∙ sym (count_none g)
count_same f g (suc n) h =
    let r = count_same f g n (λ i l. h i (omega arith)) in
    let e = h n (omega arith) in
    count_more f n ∙ ap (λ (k : ℕ). k + cond (f n) 1 0) r ∙ ap (λ (b : Bool). count_of g n + cond b 1 0) e ∙ sym (count_more g n)

bit_next : (n i : ℕ) → bit_at n (suc i) ≡ bit_at (n / 2) i
unfolding bit_at
bit_next n i = ap (λ (d : ℕ). eqb d 1) (digit-suc n i)

bit_first : (n : ℕ) → cond (bit_at n 0) 1 0 ≡ n % 2
unfolding bit_at
bit_first n = rw (digit_lowest n) (grind (arith, nat_tests))

none_set : (n : ℕ) → n < 1 → ones n ≡ 0
unfolding ones
none_set n h = ap ones (lt-one h)

ones_count : (k n : ℕ) → n < 2 ^ k → ones n ≡ count_of (bit_at n) k
ones_count zero n h = none_set n h ∙ sym (count_none (bit_at n))
ones_count (suc k) n h =
    let h' : n < 2 ^ (k + 1) = rw add-one h in
    let r = ones_count k (n / 2) (shr_below n k 1 h') in
    let s = count_same (λ i. bit_at n (suc i)) (bit_at (n / 2)) k (λ i l. bit_next n i) in
    let f = count_first (bit_at n) k in
    let b = bit_first n in
    let t = ones_step n in
    omega (arith, r, s, f, b, t)

-- the numbers of one word
pub count_word : (ws : List ℕ) (i : ℕ) → get_or ws i 0 < 2 ^ 64 → count_of (held ws) (64 * (i + 1)) ≡ count_of (held ws) (64 * i) + ones (get_or ws i 0)
unfolding held
count_word ws i h =
    let e : 64 * (i + 1) ≡ 64 * i + 64 = omega arith in
    ap (count_of (held ws)) e ∙ count_add (held ws) (64 * i) 64
    ∙ ap (λ (n : ℕ). count_of (held ws) (64 * i) + n)
    (count_same (λ j. held ws (64 * i + j)) (bit_at (get_or ws i 0)) 64
    (λ j l.
    let q : (64 * i + j) / 64 ≡ i = omega arith in
    let m : (64 * i + j) % 64 ≡ j = omega arith in
    ap (λ (x : ℕ). bit_at (get_or ws x 0) ((64 * i + j) % 64)) q ∙ ap (λ (x : ℕ). bit_at (get_or ws i 0) x) m)
    ∙ sym (ones_count 64 (get_or ws i 0) h))

-- the numbers of all words
counted_to : (ws : List ℕ) (fits : (k : ℕ) → get_or ws k 0 < 2 ^ 64) (i : ℕ) → i ≤ length ws → sum_by ones (take i ws) ≡ count_of (held ws) (64 * i)
counted_to ws fits zero l = sym (count_none (held ws))
counted_to ws fits (suc i) l =
    let r = counted_to ws fits i (omega arith) in
    let more = sum_by_more ones ws i 0 (omega arith) in
    let word = count_word ws i (fits i) in
    rw (← add-one i) (more ∙ ap (λ (n : ℕ). n + ones (get_or ws i 0)) r ∙ sym word)

pub count_words : (ws : List ℕ) → length ws ≡ 8 → ((k : ℕ) → get_or ws k 0 < 2 ^ 64) → sum_by ones ws ≡ length (members (held ws) 512)
unfolding count_of
count_words ws n fits =
    ap (sum_by ones) (sym (take_all 8 ws (omega arith))) ∙ counted_to ws fits 8 (omega arith)

count_few : (f : ℕ → Bool) (n : ℕ) → count_of f n ≤ n
count_few f zero = omega (arith, count_none f)
count_few f (suc n) = let r = count_few f n in let m = count_more f n in grind (arith, nat_tests)

pub count_words_few : (ws : List ℕ) → length ws ≡ 8 → ((k : ℕ) → get_or ws k 0 < 2 ^ 64) → sum_by ones ws < 2 ^ 32
unfolding count_of
count_words_few ws n fits = omega (arith, count_words ws n fits, count_few (held ws) 512)

-- the elements that `array::from_fn` makes by a closure that changes nothing
module _ {F : Type 0} {g : Mut F (ℕ × Unit {0}) ℕ} {f : F} (h : ℕ → ℕ) (ys : List ℕ) (top : ℕ) (calls : (i y : ℕ) (q : F) → i < top → Called g f (i, tt) y q → (q ≡ f) × (y ≡ h i)) where
  each_made : (n i : ℕ) → i + n ≤ top → IsFromFnResultFrom g f ys i n → (k : ℕ) → i ≤ k → k < i + n → get_or ys k 0 ≡ h k
  each_made zero i b r k l m = absurd (omega arith)
  each_made (suc n) i b r k l m =
      let here = calls i r.1 r.0 (omega arith) r.3 in
      elim (cases_eq k i) [
        | inl e ↦ rw e (r.2.1 0 ∙ here.1)
        | inr ne ↦ each_made n (i + 1) (omega arith) (subst (λ (q : F). IsFromFnResultFrom g q ys (i + 1) n) here.0 r.4) k (omega arith) (omega arith)
      ]

  pub made : IsFromFnResult g f ys top → (k : ℕ) → k < top → get_or ys k 0 ≡ h k
  made r k l = each_made top 0 (omega arith) r.each k (omega arith) (omega arith)
