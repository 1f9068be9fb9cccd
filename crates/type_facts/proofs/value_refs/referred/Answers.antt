use Rattle.std.proofs.Common.{◌≡◌, ℕ, List, Option, Some, find, sym, ap, ◌∙◌}
use Rattle.std.specs.Str.{bytes_eq}
use Rattle.sbe_types.specs.declared.tree.TypesItem.{TypesItem}
use Rattle.sbe_types.specs.declared.tree.TypesItem.TheVariants as item
use Rattle.sbe_types.specs.declared.tree.ValidValueEl.{ValidValueEl}
use Rattle.schema_rules.specs.Names.{type_named}
use Rattle.type_facts.proofs.ReferredLemmas.{found_value}
use Rattle.type_facts.proofs.value_refs.referred.Goals as goal

pub returns-in-Some : goal.returns-in-Some
returns-in-Some c =
    let told : ◌≡◌ {A = Option TypesItem} (Some c.in-Some-Enum.field-0.now) (type_named c.args.types.now c.as_slice.result.now) = c.in-Some-Enum.ensures in
    let named : type_named c.args.types.now c.args.value_ref.now.enum_name ≡ Some (item.Enum c.in-Some-Enum.e) =
    ap (type_named c.args.types.now) (sym c.as_slice.ensures) ∙ sym told ∙ ap Some c.in-Some-Enum.field-0-is in
    let value : ◌≡◌ {A = Option ValidValueEl} (Some c.in-Some.value.now) (find (λ w. bytes_eq c.as_slice-in-Some-Enum.result.now w.name) c.in-Some-Enum.e.children) = c.in-Some.ensures in
    let found : find (λ w. bytes_eq c.args.value_ref.now.value_name w.name) c.in-Some-Enum.e.children ≡ Some c.in-Some.value.now =
    ap (λ (name : List ℕ). find (λ (w : ValidValueEl). bytes_eq name w.name) c.in-Some-Enum.e.children) (sym c.as_slice-in-Some-Enum.ensures) ∙ sym value in
    found_value c.args.types.now c.args.value_ref.now c.in-Some-Enum.e c.in-Some.value.now named found
