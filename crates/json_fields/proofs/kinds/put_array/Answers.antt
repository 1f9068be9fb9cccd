use Rattle.std.proofs.Common.{◌≡◌, ◌<◌, ◌-◌, [], take, drop, length, refl, sym, ap, ◌∙◌, arith, length-drop, rules, FitsSigned, to_z, of_z}
use mir.Syntax.{w128}
use Rattle.std.proofs.lemmas.Int.{to_z-of_z}
use Rattle.std.proofs.lemmas.List.{take_rest}
use Rattle.sbe_types.specs.Numbers.{number_of, prim_width}
use Rattle.json_values.specs.Plain.{plain_items}
use Rattle.json_fields.specs.Shown.{elements_shown}
use Rattle.printers.proofs.Printing.{then_prints, reprinted, prints_nothing}
use Rattle.json_values.proofs.Entries.{goes_on, ends_so}
use Rattle.json_fields.proofs.FromBytes.{elements_next, less_wide}
use Rattle.json_fields.proofs.kinds.put_array.Goals as goal

pub loop-left-init : goal.loop-left-init
loop-left-init g c = record { long = c.requires; written = ([], prints_nothing, refl) }

pub loop-left-preserved : goal.loop-left-preserved
loop-left-preserved g c =
    let leaf = c.args.leaf.now in
    let rest = c.loop-left.rest.now in
    let left = c.loop-left.left in
    let so_far = c.loop-left.invariant in
    let some : 0 < left = c.loop-left-test.true in
    let wide : c.width-wide.result ≡ prim_width leaf.prim = c.width-wide.ensures.value in
    let after : take (length rest - c.width-wide.result) (drop c.width-wide.result rest) ≡ drop (prim_width leaf.prim) rest =
    take_rest rest c.width-wide.result ∙ ap (λ w. drop w rest) wide in
    let fits : FitsSigned w128 c.get_num-number.result = search rules in
    let number = to_z-of_z w128 c.get_num-number.result fits ∙ c.get_num-number.ensures ∙ ap (λ w. number_of c.args.order leaf.prim (take w rest)) wide in
    let next = elements_next c.args.order leaf c.loop-left.later left rest _ (to_z w128 (of_z w128 c.get_num-number.result)) some number after in
    record {
      long = ap length after ∙ length-drop (prim_width leaf.prim) rest ∙ ap (λ n. n - prim_width leaf.prim) so_far.long ∙ less_wide (prim_width leaf.prim) left some;
      written = (_, then_prints so_far.written.1 c.put_next.ensures, goes_on so_far.written.0 _ _ _ _ next so_far.written.2);
    }

pub returns : goal.returns
returns g c =
    let so_far = c.loop-left.invariant.written in
    let over : c.loop-left.left ≡ 0 = omega arith in
    let none = sym (ap (λ k. plain_items c.loop-left.later (elements_shown c.args.order c.args.leaf.now k c.loop-left.rest.now)) over) in
    then_prints c.put.ensures (reprinted (ends_so so_far.0 _ _ _ none so_far.2) (then_prints so_far.1 c.put-2.ensures))
