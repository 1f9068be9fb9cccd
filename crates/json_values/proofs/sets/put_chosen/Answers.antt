use Rattle.std.proofs.Common.{List, arith}
use Rattle.std.specs.Prelude.{◌||◌}
use Rattle.sbe_types.specs.declared.kind.Named.{Named}
use Rattle.json_values.specs.Values.{chosen, has_bit}
use Rattle.json_values.specs.Plain.{plain_items, choice_text}
use Rattle.printers.proofs.Printing.{then_prints, reprinted}
use Rattle.json_values.proofs.Entries.{list_next, list_over, goes_on, ends_so}
use Rattle.json_values.proofs.Bits.{chosen_next}
use Rattle.json_values.proofs.sets.put_chosen.Goals as goal

pub loop-choice-preserved : goal.loop-choice-preserved
loop-choice-preserved g c =
    let so_far = c.loop-choice.invariant in
    let bits = c.args.bits in
    let next = list_next (λ later (cs : List Named). plain_items later (chosen bits cs))
    (λ later x. choice_text later bits x) (λ later x. has_bit bits x.number || later)
    (λ later x xs. chosen_next bits later x xs)
    c.loop-choice.later c.loop-choice.choice-index c.args.names.now c.choice-item.result (omega arith) c.choice-item.is in
    (_, then_prints so_far.1 c.put_choice-later.ensures.text, rw c.put_choice-later.ensures.later (goes_on so_far.0 _ _ _ _ next so_far.2))

pub returns : goal.returns
returns g c =
    let so_far = c.loop-choice.invariant in
    let none = list_over (λ (cs : List Named). plain_items c.loop-choice.later (chosen c.args.bits cs)) c.loop-choice.choice-index c.args.names.now (omega arith) in
    then_prints c.put.ensures (reprinted (ends_so so_far.0 _ _ _ none so_far.2) (then_prints so_far.1 c.put-2.ensures))
