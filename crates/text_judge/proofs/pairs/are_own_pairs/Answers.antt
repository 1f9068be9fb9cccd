use Rattle.std.proofs.Common.{filter_map, ap, sym, ◌∙◌, subst, flat_map}
use Rattle.std.specs.List.{AllByRecursion, list_any}
use Rattle.map_types.specs.Trees.{fields_of, members_of}
use Rattle.orchestra_map.specs.DataFields.{data_pair, hides_data}
use Rattle.same_texts.specs.Follow.{IsOwnPair}
use Rattle.text_judge.specs.OwnPairs.{HaveOwnPairs}
use Rattle.text_judge.proofs.PairFields.{pairs_listed}
use Rattle.text_judge.proofs.pairs.are_own_pairs.Goals as goal

pub returns : goal.returns
returns c = λ own same.
    let tags = c.args.tags.now in
    let hidden = list_any hides_data (members_of c.args.repository.now).code_sets in
    let all = subst (HaveOwnPairs tags) c.as_slice-2.ensures.value (c.have_own_pairs.ensures own) in
    subst (AllByRecursion (IsOwnPair tags))
    (ap (filter_map (data_pair hidden)) (c.in_ok-fields.ensures ∙ ap (flat_map fields_of) c.as_slice.ensures) ∙ sym same)
    (pairs_listed tags hidden c.in_ok-fields.fields.items all)
