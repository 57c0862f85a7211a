use Rattle.std.proofs.Common.{◌≡◌, refl, ◌∙◌, rules}
use Rattle.trace.specs.Messages.{unused}
use Rattle.trace.proofs.messages.MessageTable.new.Goals as goal

pub returns : goal.returns
returns c =
    let default : c.default.result ≡ unused = search rules in c.in_ok-records.ensures.items_if_clones_equal (λ m e. e) ∙ rw (default, c.from.ensures) refl
