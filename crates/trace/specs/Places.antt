-- What the last place of an entry on a port says.
use Rattle.std.specs.Prelude.{◌≡◌, ℕ, zero, suc, ◌+◌, ◌<◌, Bool, true, false, cond, List, [], ◌∷◌, length, Some, None, Option, ◌≢◌, refl}
use Rattle.std.proofs.Common.{sym, ◌∙◌, add-zero, not-suc-le-zero, le_of_suc-le-suc, arith}
use borrow.Author.Tests.{clash}
use Rattle.std.specs.Option.{option_or}
use Rattle.std.proofs.lemmas.Option.{none-some, same_Some}
use Rattle.trace.specs.declared.entries.Entry.{Entry}
use Rattle.trace.specs.Decision.{last_from, on_port_number}
use Rattle.trace.specs.Invariants.{entry_at}

pub last_none : (p k i : ℕ) (es : List Entry) → i < length es → on_port_number p (entry_at es i) ≡ true → last_from p k es ≢ None
last_none p k i [] l h n = not-suc-le-zero l
last_none p k i (e ∷ es) l h n = go (λ j. last_none p (suc k) j es) (last_from p (suc k) es) refl (on_port_number p e) refl i l h n
  where
    go : ((j : ℕ) → j < length es → on_port_number p (entry_at es j) ≡ true → last_from p (suc k) es ≢ None) → (o : Option ℕ) → last_from p (suc k) es ≡ o → (b : Bool) → on_port_number p e ≡ b → (i : ℕ) → i < suc (length es) → on_port_number p (entry_at (e ∷ es) i) ≡ true → option_or o (cond b (Some k) None) ≢ None
    go rec (Some c) r b q i l h n = none-some _ (sym n)
    go rec None r true q i l h n = none-some _ (sym n)
    go rec None r false q zero l h n = clash (sym q ∙ h)
    go rec None r false q (suc i) l h n = rec i (le_of_suc-le-suc l) h r

pub record IsLast (p k c : ℕ) (es : List Entry) : Type 0 where
  pub place : ℕ
  pub at : c ≡ k + place
  pub within : place < length es
  pub there : on_port_number p (entry_at es place) ≡ true
  pub latest : (j : ℕ) → place < j → j < length es → on_port_number p (entry_at es j) ≢ true

pub last_some : (p k c : ℕ) (es : List Entry) → last_from p k es ≡ Some c → IsLast p k c es
last_some p k c [] h = absurd (none-some _ h)
last_some p k c (e ∷ es) h = go (last_some p (suc k) c es) (last_from p (suc k) es) refl (on_port_number p e) refl h
  where
    after : last_from p (suc k) es ≡ None → (j : ℕ) → 0 < j → j < suc (length es) → on_port_number p (entry_at (e ∷ es) j) ≢ true
    after r zero l m h = not-suc-le-zero l
    after r (suc j) l m h = last_none p (suc k) j es (le_of_suc-le-suc m) h r

    more : IsLast p (suc k) c es → IsLast p k c (e ∷ es)
    more r = record { place = suc r.place; at = (let x = r.at in omega arith); within = (let y = r.within in omega arith); there = r.there; latest = later }
      where
        later : (j : ℕ) → suc r.place < j → j < suc (length es) → on_port_number p (entry_at (e ∷ es) j) ≢ true
        later zero l m h = not-suc-le-zero l
        later (suc j) l m h = r.latest j (le_of_suc-le-suc l) (le_of_suc-le-suc m) h

    go : (last_from p (suc k) es ≡ Some c → IsLast p (suc k) c es) → (o : Option ℕ) → last_from p (suc k) es ≡ o → (b : Bool) → on_port_number p e ≡ b → option_or o (cond b (Some k) None) ≡ Some c → IsLast p k c (e ∷ es)
    go rec (Some d) r b q g = more (rec (r ∙ g))
    go rec None r true q g = record { place = 0; at = sym (same_Some _ _ g) ∙ sym (add-zero k); within = omega arith; there = q; latest = after r }
    go rec None r false q g = absurd (none-some _ g)
