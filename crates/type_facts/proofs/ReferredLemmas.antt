-- A valueRef and the valid value that it names.
use Rattle.std.proofs.Common.{◌≡◌, ℕ, List, Option, Some, None, refl, sym, ap, ◌∙◌}
use Rattle.std.specs.Prelude.{find, option_map, option_and_then}
use Rattle.std.specs.Str.{bytes_eq}
use Rattle.sbe_types.specs.declared.tree.EnumEl.{EnumEl}
use Rattle.sbe_types.specs.declared.tree.ValidValueEl.{ValidValueEl}
use Rattle.sbe_types.specs.declared.tree.ValueRef.{ValueRef}
use Rattle.sbe_types.specs.declared.tree.TypesItem.{TypesItem}
use Rattle.sbe_types.specs.declared.tree.TypesItem.TheVariants as item
use Rattle.schema_rules.specs.Names.{enum_of, type_named, Referred, referred_in, referred}

pub found_value : (types : List TypesItem) (ref : ValueRef) (e : EnumEl) (v : ValidValueEl) → type_named types ref.enum_name ≡ Some (item.Enum e) →
    find (λ w. bytes_eq ref.value_name w.name) e.children ≡ Some v → ◌≡◌ {A = Option Referred} (Some (record { enum = e; value = v })) (referred types ref)
found_value types ref e v named found =
    sym (ap (λ (o : Option TypesItem). option_and_then (referred_in ref.value_name) (option_and_then enum_of o)) named
    ∙ ap (option_map (λ (w : ValidValueEl). record { enum = e; value = w })) found)
