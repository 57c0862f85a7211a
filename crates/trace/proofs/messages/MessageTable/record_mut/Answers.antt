use Rattle.std.proofs.Common.{get_or, refl, ap, ◌∙◌, arith}
use Rattle.std.proofs.lemmas.List.{get_or_read}
use Rattle.trace.specs.Messages.{unused}
use Rattle.trace.specs.Lending.{with_record}
use Rattle.trace.proofs.messages.MessageTable.record_mut.Goals as goal

pub returns : goal.returns
returns c =
    let items = c.args.self.now.records.items in
    let record_now = c.index_mut.result.now in
    let read = c.index_mut.ensures.value ∙ ap (λ i. get_or items i record_now) c.from.ensures in
    ((refl, λ w. ap (λ i. with_record c.args.self.now i w) c.from.ensures), record { lent = tt; value = get_or_read items c.args.n record_now (omega arith) read unused })
