use Rattle.std.proofs.Common.{◌≡◌, ◌+◌, ◌-◌, ◌<◌, false, true, length, take, drop, sym, ap, ◌∙◌, arith, rules, length-drop}
use Rattle.std.specs.Prelude.{Option, Some}
use Rattle.std.proofs.lemmas.List.{take_rest}
use Rattle.sbe_types.specs.LeafBad.{elements_bad, fault_unless, unshown}
use Rattle.sbe_types.specs.Numbers.{number_of, prim_width}
use Rattle.sbe_types.specs.Shown.{shown_element}
use Rattle.sbe_types.proofs.BadLemmas.{left, elements_more, elements_end}
use Rattle.sbe_types.proofs.leaf.judge_elements.Goals as goal

pub returns-then-not-judge_element : goal.returns-then-not-judge_element
returns-then-not-judge_element c =
    let order = c.args.order in
    let leaf = c.args.leaf.now in
    let at = c.loop-at.at in
    let rest = c.loop-at.rest.now in
    let lt : at < leaf.length = c.loop-at-test.true in
    let no : c.judge_element.result ≡ false = search rules in
    let wide : c.width-wide.result ≡ prim_width leaf.prim = c.width-wide.ensures.value in
    let told_at = sym (ap (λ t. fault_unless t c.judge_element.new.out) no) ∙ c.judge_element.ensures
    ∙ ap (λ w. let number = number_of order leaf.prim (take w rest) in unshown at number (shown_element leaf number)) wide in
    elements_end order leaf at leaf.length rest c.judge_element.new.out lt told_at ∙ c.loop-at.invariant.rest

pub loop-at-preserved : goal.loop-at-preserved
loop-at-preserved c =
    let order = c.args.order in
    let leaf = c.args.leaf.now in
    let at = c.loop-at.at in
    let rest = c.loop-at.rest.now in
    let lt : at < leaf.length = c.loop-at-test.true in
    let yes_it_is : c.judge_element.result ≡ true = search rules in
    let wide : c.width-wide.result ≡ prim_width leaf.prim = c.width-wide.ensures.value in
    let told_at = sym (ap (λ t. fault_unless t c.judge_element.new.out) yes_it_is) ∙ c.judge_element.ensures
    ∙ ap (λ w. let number = number_of order leaf.prim (take w rest) in unshown at number (shown_element leaf number)) wide in
    let after : take (length rest - c.width-wide.result) (drop c.width-wide.result rest) ≡ drop (prim_width leaf.prim) rest =
    take_rest rest c.width-wide.result ∙ ap (λ w. drop w rest) wide in
    record {
      long = ap length after ∙ length-drop (prim_width leaf.prim) rest ∙ ap (λ n. n - prim_width leaf.prim) c.loop-at.invariant.long ∙ left (prim_width leaf.prim) leaf.length at lt;
      rest = ap (elements_bad order leaf (at + 1) (leaf.length - (at + 1))) after ∙ elements_more order leaf at leaf.length rest lt told_at ∙ c.loop-at.invariant.rest;
    }
