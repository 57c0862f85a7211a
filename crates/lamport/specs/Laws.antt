-- The K-Lamport clock keeps the meaning of a clock, whatever its number of entries.
use Rattle.std.specs.Prelude.{◌≡◌, ℕ, zero, suc, ◌+◌, ◌-◌, ◌<◌, ◌≤◌, max, Bool, true, false, cond, not, List, ◌∷◌, map, Decides, MatchBool, ◌==◌, ◌≢◌, nat_lt, slice_index, slice_index_or, refl}
use Rattle.std.proofs.Common.{sym, ap, ◌∙◌, ⊎_elim, arith}
use borrow.Author.Tests.{clash}
use Rattle.std.specs.List.{range_with_len}
use Rattle.std.proofs.lemmas.Bool.{and_from, and_parts, cases_Bool, ltb-true, lt-ltb, eq-eqb, eqb-true, eqb-false, cond-true, cond-false, not-true}
use Rattle.std.proofs.lemmas.List.FromFn.{get_or-map-range_with_len}
use Rattle.clock.specs.declared.ports.Port.{Port}
use Rattle.clock.specs.Orders.{Lawful}
use Rattle.clock.specs.Clocks.{Meaning}
use Rattle.clock.specs.Ports.{port_number}
use Rattle.clock.proofs.Below.{each_decides}
use Rattle.lamport.specs.declared.klamport.KLamportStamp.{KLamportStamp}
use Rattle.lamport.specs.KLamport.{descending, rising, entries_precede, one_port_bound, two_ports_bound, lamport_before, lamport_answers, RisingApart}

abbrev Descends : ℕ → List ℕ → Type 0
Descends k e = (i : ℕ) → i < k - 1 → slice_index e (suc i) ≤ slice_index e i

descending_decides : (k : ℕ) (e : List ℕ) → Decides (descending k e) (Descends k e)
descending_decides k e = each_decides (λ i. slice_index e (suc i)) (λ i. slice_index e i) (k - 1)

-- what before says
record Precedes (k : ℕ) (one_port : Bool) (a b : List ℕ) : Type 0 where
  low : Descends k a
  high : Descends k b
  less : slice_index_or a 0 0 < slice_index b 0
  others : (i : ℕ) → i < k - 1 → MatchBool one_port (slice_index a (suc i) ≤ slice_index b (suc i)) (slice_index a i ≤ slice_index b (suc i))

others_decide : (k : ℕ) (q : Bool) (a b : List ℕ) → Decides (cond q (one_port_bound k a b) (two_ports_bound k a b)) ((i : ℕ) → i < k - 1 → MatchBool q (slice_index a (suc i) ≤ slice_index b (suc i)) (slice_index a i ≤ slice_index b (suc i)))
others_decide k true a b = each_decides (λ i. slice_index a (suc i)) (λ i. slice_index b (suc i)) (k - 1)
others_decide k false a b = each_decides (λ i. slice_index a i) (λ i. slice_index b (suc i)) (k - 1)

-- the test and what it says agree

from_test : (k : ℕ) (q : Bool) (a b : List ℕ) → entries_precede k q a b ≡ true → Precedes k q a b
from_test k q a b h =
    let x = and_parts (descending k a) _ h in
    let y = and_parts (descending k b) _ x.1 in
    let z = and_parts (nat_lt (slice_index a 0) (slice_index b 0)) _ y.1 in
    record {
      low = (descending_decides k a).0 x.0;
      high = (descending_decides k b).0 y.0;
      less = ltb-true _ _ z.0;
      others = (others_decide k q a b).0 z.1;
    }

to_test : (k : ℕ) (q : Bool) (a b : List ℕ) → Precedes k q a b → entries_precede k q a b ≡ true
to_test k q a b u =
    and_from _ _ ((descending_decides k a).1 u.low) (and_from _ _ ((descending_decides k b).1 u.high) (and_from _ _ (lt-ltb _ _ u.less) ((others_decide k q a b).1 u.others)))

-- on one port no entry exceeds the same entry, the first included
not_exceeding : (k : ℕ) (a b : List ℕ) → Precedes k true a b → (i : ℕ) → i < k - 1 → slice_index a i ≤ slice_index b i
not_exceeding k a b u zero h = omega (arith, u.less)
not_exceeding k a b u (suc i) h = omega (arith, u.others i (omega arith))

-- the entries along two orders, by which of the three pairs are on one port
through : (k : ℕ) (p q r : Bool) (a b c : List ℕ) → (p ≡ true → q ≡ true → r ≡ true) → (p ≡ true → q ≡ false → r ≡ false) → (p ≡ false → q ≡ true → r ≡ false) → Precedes k p a b → Precedes k q b c → (i : ℕ) → i < k - 1 → MatchBool r (slice_index a (suc i) ≤ slice_index c (suc i)) (slice_index a i ≤ slice_index c (suc i))
through k true true true a b c x y z u v i h = omega (arith, u.others i h, v.others i h)
through k true true false a b c x y z u v i h = absurd (clash (x refl refl))
through k true false true a b c x y z u v i h = absurd (clash (sym (y refl refl)))
through k true false false a b c x y z u v i h = omega (arith, not_exceeding k a b u i h, v.others i h)
through k false true true a b c x y z u v i h = absurd (clash (sym (z refl refl)))
through k false true false a b c x y z u v i h = omega (arith, u.others i h, v.others i h)
through k false false true a b c x y z u v i h = omega (arith, u.low i h, u.others i h, u.high i h, v.others i h)
through k false false false a b c x y z u v i h = omega (arith, u.others i h, u.high i h, v.others i h)

not_so : (b : Bool) → (b ≢ true) → b ≡ false
not_so b h = ⊎_elim (λ e. absurd (h e)) (λ e. e) (cases_Bool b)

pub lamport_lawful : (k : ℕ) → Lawful (lamport_before k)
lamport_lawful k = record {
  irreflexive = λ a. not_so (lamport_before k a a) (λ e. omega (arith, (from_test k _ a.entries a.entries e).less));
  transitive = λ a b c x y. (
      let p = port_number a.port in
      let q = port_number b.port in
      let r = port_number c.port in
      let u = from_test k (p == q) a.entries b.entries x in
      let v = from_test k (q == r) b.entries c.entries y in
      to_test k (p == r) a.entries c.entries (record {
        low = u.low;
        high = v.high;
        less = omega (arith, u.less, v.less);
        others = through k (p == q) (q == r) (p == r) a.entries b.entries c.entries
            (λ e f. eq-eqb p r (eqb-true p q e ∙ eqb-true q r f))
            (λ e f. not_so (p == r) (λ g. eqb-false q r f (sym (eqb-true p q e) ∙ eqb-true p r g)))
            (λ e f. not_so (p == r) (λ g. eqb-false p q e (eqb-true p r g ∙ sym (eqb-true q r f)))) u v;
      }));
}

-- the entries after the first of a stamp that is made
other_entry : (k first : ℕ) (others : ℕ → ℕ) (i : ℕ) → i < k - 1 → slice_index (first ∷ map others (range_with_len 0 (k - 1))) (suc i) ≡ others i
other_entry k first others i h = get_or-map-range_with_len others 0 (k - 1) i i 0 h (omega arith)

-- the entries of a stamp with room descend
roomy : (k : ℕ) (s : KLamportStamp) → 1 ≤ (lamport_answers k).room s → Descends k s.entries × ((lamport_answers k).room s ≡ 65535 - slice_index s.entries 0)
roomy k s h =
    ⊎_elim (λ e. ((descending_decides k s.entries).0 e, cond-true (descending k s.entries) _ _ e))
    (λ e. absurd (omega (arith, cond-false (descending k s.entries) (65535 - slice_index s.entries 0) 0 e)))
    (cases_Bool (descending k s.entries))

descending_room : (k : ℕ) (s : KLamportStamp) → Descends k s.entries → (lamport_answers k).room s ≡ 65535 - slice_index s.entries 0
descending_room k s f = cond-true (descending k s.entries) _ _ ((descending_decides k s.entries).1 f)

made_descends : (k first : ℕ) (others : ℕ → ℕ) → (1 < k → others 0 ≤ first) → ((i : ℕ) → suc i < k - 1 → others (suc i) ≤ others i) → Descends k (first ∷ map others (range_with_len 0 (k - 1)))
made_descends k first others at next zero h = omega (arith, other_entry k first others 0 h, at (omega arith))
made_descends k first others at next (suc i) h = omega (arith, other_entry k first others (suc i) h, other_entry k first others i (omega arith), next i h)

-- the entries of a start, a step and a take descend

start_descends : (k : ℕ) (p : Port) → Descends k ((lamport_answers k).start p).entries
start_descends k p = made_descends k 0 (λ i. 0) (λ h. omega arith) (λ i h. omega arith)

step_descends : (k : ℕ) (s : KLamportStamp) → Descends k s.entries → Descends k ((lamport_answers k).step s).entries
step_descends k s f = made_descends k _ _ (λ h. omega (arith, f 0 (omega arith))) (λ i h. f (suc i) h)

take_descends : (k : ℕ) (s m : KLamportStamp) → Descends k s.entries → Descends k m.entries → Descends k ((lamport_answers k).take s m).entries
take_descends k s m f g = made_descends k _ _ (λ h. omega (arith, f 0 (omega arith))) (λ i h. omega (arith, f (suc i) h, g i (omega arith)))

step_other : (k : ℕ) (s : KLamportStamp) (i : ℕ) → i < k - 1 → slice_index ((lamport_answers k).step s).entries (suc i) ≡ slice_index s.entries (suc i)
step_other k s = other_entry k (slice_index s.entries 0 + 1) (λ j. slice_index s.entries (suc j))

take_other : (k : ℕ) (s m : KLamportStamp) (i : ℕ) → i < k - 1 → slice_index ((lamport_answers k).take s m).entries (suc i) ≡ max (slice_index s.entries (suc i)) (slice_index m.entries i)
take_other k s m = other_entry k (max (slice_index s.entries 0) (slice_index m.entries 0) + 1) (λ j. max (slice_index s.entries (suc j)) (slice_index m.entries j))

-- a stamp is before its step and before what it takes, and the message is before what takes it

step_precedes : (k : ℕ) (s : KLamportStamp) → Descends k s.entries → Precedes k true s.entries ((lamport_answers k).step s).entries
step_precedes k s f = record {
  low = f;
  high = step_descends k s f;
  less = omega arith;
  others = λ i h. omega (arith, step_other k s i h);
}

take_precedes : (k : ℕ) (s m : KLamportStamp) → Descends k s.entries → Descends k m.entries → Precedes k true s.entries ((lamport_answers k).take s m).entries
take_precedes k s m f g = record {
  low = f;
  high = take_descends k s m f g;
  less = omega arith;
  others = λ i h. omega (arith, take_other k s m i h);
}

message_precedes : (k : ℕ) (q : Bool) (s m : KLamportStamp) → Descends k s.entries → Descends k m.entries → Precedes k q m.entries ((lamport_answers k).take s m).entries
message_precedes k q s m f g = record {
  low = g;
  high = take_descends k s m f g;
  less = omega arith;
  others = others q;
} where
  others : (q : Bool) (i : ℕ) → i < k - 1 → MatchBool q (slice_index m.entries (suc i) ≤ slice_index ((lamport_answers k).take s m).entries (suc i)) (slice_index m.entries i ≤ slice_index ((lamport_answers k).take s m).entries (suc i))
  others true i h = omega (arith, g i h, take_other k s m i h)
  others false i h = omega (arith, take_other k s m i h)

on_own_port : (k : ℕ) (p : Port) (a b : List ℕ) → Precedes k true a b → entries_precede k (port_number p == port_number p) a b ≡ true
on_own_port k p a b u = ap (λ q. entries_precede k q a b) (eq-eqb (port_number p) (port_number p) refl) ∙ to_test k true a b u

pub lamport_meaning : (k : ℕ) → Meaning (lamport_before k) (lamport_answers k)
lamport_meaning k = record {
  start_port = λ p. refl;
  start_room = λ p q. refl;
  start_floor = λ p. omega (arith, descending_room k ((lamport_answers k).start p) (start_descends k p));
  step_before = λ s h. on_own_port k s.port _ _ (step_precedes k s (roomy k s h).0);
  step_port = λ s h. refl;
  step_room = λ s h. omega (arith, (roomy k s h).1, descending_room k ((lamport_answers k).step s) (step_descends k s (roomy k s h).0));
  take_before = λ s m h g. on_own_port k s.port _ _ (take_precedes k s m (roomy k s h).0 (roomy k m g).0);
  take_after = λ s m h g. to_test k _ _ _ (message_precedes k _ s m (roomy k s h).0 (roomy k m g).0);
  take_port = λ s m h g. refl;
  take_room = λ s m h g. omega (arith, (roomy k s h).1, (roomy k m g).1, descending_room k ((lamport_answers k).take s m) (take_descends k s m (roomy k s h).0 (roomy k m g).0));
}

-- entries cannot rise and descend
not_both : (k : ℕ) (s : KLamportStamp) → rising k s ≡ true → Descends k s.entries → ⊥
not_both k s r f = clash (sym (not-true (descending k s.entries) r) ∙ (descending_decides k s.entries).1 f)

not_rising : (k : ℕ) (s : KLamportStamp) → Descends k s.entries → rising k s ≡ false
not_rising k s f = ap not ((descending_decides k s.entries).1 f)

pub rising_apart : (k : ℕ) → RisingApart k
rising_apart k = record {
  no_room = λ s r. cond-false (descending k s.entries) _ _ (not-true _ r);
  before_none = λ a b r. not_so (lamport_before k a b) (λ e. not_both k a r (from_test k _ a.entries b.entries e).low);
  after_none = λ a b r. not_so (lamport_before k a b) (λ e. not_both k b r (from_test k _ a.entries b.entries e).high);
  no_start = λ p. not_rising k ((lamport_answers k).start p) (start_descends k p);
  no_step = λ s h. not_rising k ((lamport_answers k).step s) (step_descends k s (roomy k s h).0);
  no_take = λ s m h g. not_rising k ((lamport_answers k).take s m) (take_descends k s m (roomy k s h).0 (roomy k m g).0);
}
