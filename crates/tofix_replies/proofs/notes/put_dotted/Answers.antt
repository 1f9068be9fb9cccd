use Rattle.std.proofs.Common.{◌++◌, [], drop, refl, sym, arith, ◌∙◌}
use Rattle.std.specs.Prelude.{codes}
use Rattle.std.proofs.lemmas.List.{append-nil}
use Rattle.json_values.proofs.Entries.{list_next, list_over, goes_on, ends_so}
use Rattle.printers.proofs.Printing.{then_prints, reprinted, prints_nothing}
use Rattle.tofix_replies.specs.Unsent.{dotted}
use Rattle.tofix_replies.proofs.notes.put_dotted.Goals as goal

pub loop-name-init : goal.loop-name-init
loop-name-init g c = ([], prints_nothing, refl)

pub loop-name-preserved : goal.loop-name-preserved
loop-name-preserved g c =
    let so_far = c.loop-name.invariant in
    let next = list_next {S = Unit {0}} (λ u names. dotted names) (λ u x. codes "." ++ x) (λ u x. u) (λ u x xs. refl) tt c.loop-name.name-index c.args.names.now c.name-item.result (omega arith) c.name-item.is in
    (_, then_prints so_far.1 (then_prints c.put.ensures (reprinted c.as_slice.ensures c.put-in-loop-name.ensures)), goes_on so_far.0 _ _ _ _ next so_far.2)

pub returns : goal.returns
returns g c =
    let so_far = c.loop-name.invariant in
    let none = list_over dotted c.loop-name.name-index c.args.names.now (omega arith) in
    reprinted (sym (append-nil so_far.0) ∙ ends_so so_far.0 [] (dotted (drop c.loop-name.name-index c.args.names.now)) (dotted c.args.names.now) none so_far.2) so_far.1
