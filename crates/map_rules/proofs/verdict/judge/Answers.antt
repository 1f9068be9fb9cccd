use Rattle.std.proofs.Common.{List, ap, ◌∙◌, flat_map, subst}
use Rattle.map_types.specs.declared.tree.RepositoryItem.{RepositoryItem}
use Rattle.map_types.specs.Trees.{code_sets_of, fields_of}
use Rattle.map_members.specs.Lent.{lent_members}
use Rattle.map_rules.specs.Verdicts.{Answers}
use Rattle.map_rules.specs.Rules.{lists_verdict}
use Rattle.map_rules.proofs.Gathering.{of_lists}
use Rattle.map_rules.proofs.verdict.judge.Goals as goal

pub returns : goal.returns
returns c =
    subst (λ (items : List RepositoryItem). Answers c.judge_lists.result (lists_verdict items (flat_map code_sets_of items) (flat_map fields_of items))) c.as_slice-items.ensures
    (of_lists c.as_slice-items.result.now c.judge_lists.result c.as_slice.result.now c.as_slice-2.result.now
    (ap lent_members c.as_slice.ensures.value ∙ c.in_ok-code_sets.ensures) (ap lent_members c.as_slice-2.ensures.value ∙ c.in_ok-fields.ensures) c.judge_lists.ensures)
