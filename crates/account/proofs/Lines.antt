-- The line of an event after those before it.
use Rattle.std.proofs.Common.{◌≡◌, ℕ, ◌+◌, ◌<◌, List, ◌++◌, length, Some, Ok, codes, decimal, Result, refl, sym, ap, ◌∙◌, add-one}
use Rattle.std.proofs.lemmas.Option.{slice_get-get_or}
use Rattle.std.specs.List.{slice_get}
use Rattle.clock.specs.declared.refusals.Refusal.{Refusal}
use Rattle.trace.specs.declared.entries.Entry.{Entry}
use Rattle.trace.specs.declared.rows.CauseRow.{CauseRow}
use Rattle.trace.specs.Decision.{happened}
use Rattle.trace.specs.Invariants.{entry_at}
use Rattle.trace.specs.Causality.{CausesAnswer}
use Rattle.trace.specs.Rows.{in_row, members}
use Rattle.account.specs.Accounts.{numbers_text, entry_text, event_lines}

-- of the entry that stands there, and of the causes that the trace answers
pub lines_more : (t items : List Entry) (n : ℕ) (row : CauseRow) (r : Result CauseRow Refusal) → items ≡ t → n < length items → r ≡ Ok row → CausesAnswer t n r
    → event_lines t n ++ (decimal n ++ (entry_text (entry_at items n) ++ (codes " after" ++ (numbers_text (members (in_row row) n) ++ codes "\n")))) ≡ event_lines t (n + 1)
unfolding event_lines
lines_more t items n row r is below ok answer =
    let there : slice_get t n ≡ Some (entry_at items n) = ap (λ (es : List Entry). slice_get es n) (sym is) ∙ slice_get-get_or items n _ below in
    let causes : in_row row ≡ (λ i. happened t i n) = λ k i. (rw ok at answer).value i k in
    rw (add-one n, causes, there) refl
