use Rattle.std.proofs.Common.{◌≡◌, Some, option_map, refl, sym, subst, ap, ◌∙◌}
use Rattle.serde_json.specs.Find.{as_array}
use Rattle.json_data.specs.Trees.{data_of, items_of}
use Rattle.line_values.specs.Refusals.{Gives}
use Rattle.line_values.proofs.ItemSteps.{array_found}
use Rattle.line_values.proofs.leaves.read_array.Goals as goal

pub returns-in-Some : goal.returns-in-Some
returns-in-Some c =
    let found : as_array (data_of c.args.found.now) ≡ Some (items_of c.in-Some.items.now) = sym c.as_array.ensures ∙ ap (option_map (λ v. items_of v.now)) c.in-Some.is in
    subst (Gives c.read_numbers.result) (sym (array_found c.args.nulls (data_of c.args.found.now) _ _ found refl)) c.read_numbers.ensures
