-- A group that is judged, over the list of its parts.
use Rattle.std.proofs.Common.{◌≡◌, ℕ, List, false, refl, ap, ◌∙◌}
use Rattle.std.specs.Prelude.{codes, Ok, Err}
use mathlib.Core.Former.{Count}
use Rattle.sbe_types.specs.declared.tree.GroupEl.{GroupEl}
use Rattle.sbe_types.specs.declared.tree.PartItem.{PartItem, Row_of-PartItem, end_of-PartItem, more_of-PartItem, items-the_row-PartItem, items_hidden-the_row-PartItem-0}
use Rattle.sbe_types.specs.declared.tree.PartItem as part
use Rattle.schema_rules.specs.declared.codes.PartClass.TheVariants as class
use Rattle.schema_rules.specs.declared.levels.LevelFacts.{LevelFacts}
use Rattle.schema_rules.specs.Judging.{CheckResult, ◌>>=◌, first_of, at_element}
use Rattle.schema_rules.specs.Kinds.{members_named}
use Rattle.schema_rules.specs.PartRules.{Scope, PartsBefore, no_part, with_part, part_name, entries_level, part_rules, dimension_rules, group_rules, level_check, part_check, parts_check}
use Rattle.schema_check.specs.LevelCheck.{level_of, group_check}

abbrev row_in : PartItem → (n : Count) × Row_of-PartItem n
row_in (part.Group' _ _ _ _ _ _ row) = (_, row)
row_in _ = (_, end_of-PartItem)

row_list : (scope : Scope) (before : PartsBefore) (n : _) (row : Row_of-PartItem n) →
    level_check scope before row ≡ parts_check scope before (items-the_row-PartItem n row)
row_list scope before n end_of-PartItem = refl
row_list scope before n (more_of-PartItem p rest) =
    ap (λ (r : CheckResult PartsBefore). at_element (codes ".") (part_name p) (part_check scope before p) >>= (λ _. r))
    (row_list scope (with_part scope before p) _ rest)

level_then : (r : CheckResult PartsBefore) (f : LevelFacts → CheckResult (Unit {0})) → (r >>= (λ parts. f parts.all)) ≡ (level_of r >>= f)
level_then (Ok parts) f = refl
level_then (Err e) f = refl

pub group_is : (scope : Scope) (before : PartsBefore) (g : GroupEl) → part_check scope before (part.Group g) ≡ group_check scope before g
group_is scope before g =
    let row = row_in (part.Group g) in
    let inner : Scope = record { types = scope.types; level = entries_level scope.level g.since_version } in
    let rules : LevelFacts → CheckResult (Unit {0}) = λ all. first_of (group_rules scope.level.around (members_named scope.types g.dimension_type) g.block_length all) in
    let first : CheckResult (Unit {0}) → CheckResult (Unit {0}) = λ rest.
    first_of (dimension_rules scope.types g.dimension_type)
    >>= (λ _. first_of (part_rules scope.level before g.name (record { class = class.Group; since = g.since_version; is_fixed = false })) >>= (λ _. rest)) in
    ap first
    (ap (λ (r : CheckResult PartsBefore). r >>= (λ parts. rules parts.all))
    (row_list inner no_part row.0 row.1 ∙ ap (parts_check inner no_part) (items_hidden-the_row-PartItem-0 g.children))
    ∙ level_then (parts_check inner no_part g.children) rules)
