-- A dump: the forms of entries, one after another. Assumes nothing.
use Rattle.std.specs.Prelude.{◌≡◌, ℕ, ◌≤◌, List, [], ◌∷◌, ◌++◌, length, Some, None, Option, ◌≢◌}
use Rattle.std.specs.List.{flat_map}
use Rattle.clock.specs.declared.refusals.Refusal.{Refusal}
use Rattle.clock.specs.Refusals.{refusal_number}
use Rattle.trace.specs.declared.entries.Entry.{Entry}
use Rattle.trace.specs.Forms.{form}
use Rattle.trace.specs.Adding.{refusal_of, Reached}

-- the number of a refusal, 0 for none
abbrev pub refused_number : Option Refusal → ℕ
refused_number None = 0
refused_number (Some f) = refusal_number f

-- how a dump ends after the events of t: no bytes are left, or what is left is refused with the number r
abbrev pub Ends : List Entry → List ℕ → ℕ → Type 0
Ends t [] r = r ≡ 0
Ends t (b ∷ bs) r = (refusal_of t (b ∷ bs) ≡ r) × (r ≢ 0)

-- The bytes are the forms of the events of t, and then what ends the dump with the refusal r, 0 for none.
pub record DumpOf (bytes : List ℕ) (t : List Entry) (r : ℕ) : Type 0 where
  pub reached : Reached t
  pub rest : List ℕ
  pub holds : bytes ≡ flat_map form t ++ rest
  pub ends : Ends t rest r

-- 512 entries of 4 bytes and one entry more
abbrev pub most_bytes : ℕ
most_bytes = 2052

-- what is told of a dump: its trace and its refusal
pub record DumpRead (bytes : List ℕ) (t : List Entry) (r : ℕ) : Type 0 where
  pub is : DumpOf bytes t r
  -- no other trace and refusal would do
  pub only : (u : List Entry) (s : ℕ) → DumpOf bytes u s → (u ≡ t) × (s ≡ r)
  -- after so many bytes no further one matters
  pub enough : most_bytes ≤ length bytes → (more : List ℕ) → DumpOf (bytes ++ more) t r
