use Rattle.std.proofs.Common.{◌++◌, List, sym, ap, ◌∙◌, rules}
use Rattle.std.proofs.lemmas.Result.{err_from_is_err_and}
use Rattle.std.specs.List.{flat_map}
use Rattle.clock.proofs.Numbers.{refusal_positive}
use Rattle.trace.specs.declared.entries.Entry.{Entry}
use Rattle.trace.specs.Adding.{refusal_of}
use Rattle.trace.specs.Forms.{form}
use Rattle.trace.specs.Of.{events_of}
use Rattle.trace.proofs.Readings.{read_all, read_until}
use Rattle.trace.proofs.dumps.add_all.Goals as goal

pub returns-in_err-added : goal.returns-in_err-added
returns-in_err-added c =
    let rest = c.loop-rest.rest.now in
    let new = c.add.new.self in
    let refuses = c.in_err-added.ensures.answer in
    let p = err_from_is_err_and c.from_residual.result c.from_residual.ensures.1 in
    rw (p.1, p.2)
    (read_until c.args.bytes.now (events_of new) rest _ new.accepted (search rules)
    (c.loop-rest.invariant ∙ ap (λ (t : List Entry). flat_map form t ++ rest) (sym refuses.unchanged))
    (ap (λ (t : List Entry). refusal_of t rest) refuses.unchanged ∙ refuses.applies)
    (refusal_positive _))

pub returns : goal.returns
returns c =
    read_all c.args.bytes.now (events_of c.loop-rest.trace) c.loop-rest.rest.now c.loop-rest.trace.accepted (search rules) c.loop-rest.invariant
