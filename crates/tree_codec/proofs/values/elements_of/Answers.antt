use Rattle.std.proofs.Common.{◌≡◌, ◌<◌, ◌-◌, ◌∷◌, [], ◌++◌, take, drop, length, ap, ◌∙◌, length-drop}
use Rattle.std.proofs.lemmas.List.{take_rest}
use Rattle.sbe_types.specs.Numbers.{number_of, prim_width}
use Rattle.tree_codec.specs.TheValues.{elements_from}
use Rattle.tree_codec.proofs.FromBytes.{elements_next, less_wide}
use Rattle.tree_codec.proofs.values.elements_of.Goals as goal

pub loop-left-preserved : goal.loop-left-preserved
loop-left-preserved c =
    let leaf = c.args.leaf.now in
    let rest = c.loop-left.rest.now in
    let left = c.loop-left.left in
    let so_far = c.loop-left.invariant in
    let some : 0 < left = c.loop-left-test.true in
    let wide : c.width-wide.result ≡ prim_width leaf.prim = c.width-wide.ensures.value in
    let after : take (length rest - c.width-wide.result) (drop c.width-wide.result rest) ≡ drop (prim_width leaf.prim) rest =
    take_rest rest c.width-wide.result ∙ ap (λ w. drop w rest) wide in
    let read = number_of c.args.order leaf.prim (take c.width-wide.result rest) in
    let number = ap (λ w. number_of c.args.order leaf.prim (take w rest)) wide in
    let next = elements_next c.args.order leaf left rest _ c.loop-left.elements (elements_from c.args.order leaf leaf.length c.args.bytes.now) read some number after so_far.gathered in
    let pushed = c.in_ok-push.ensures.ok ∙ ap (λ e. c.loop-left.elements ++ e ∷ []) c.element_value.ensures in
    record {
      long = ap length after ∙ length-drop (prim_width leaf.prim) rest ∙ ap (λ n. n - prim_width leaf.prim) so_far.long ∙ less_wide (prim_width leaf.prim) left some;
      gathered = ap (λ es. es ++ elements_from c.args.order leaf (left - 1) (take (length rest - c.width-wide.result) (drop c.width-wide.result rest))) pushed ∙ next;
    }
