-- A composite's values and a group's entries, as the lists that they are.
use Rattle.std.proofs.Common.{◌≡◌, ap, sym, ◌∙◌}
use denote.Hole.Carrier as carrier
use Rattle.sbe_types.specs.declared.message.Value as values
use Rattle.sbe_types.specs.declared.message.GroupVal as groups
use Rattle.sbe_types.specs.declared.message.Value.{Value, Row_of-Value, items-the_row-Value, items_shown-the_row-Value-0, roll-out-Value}
use Rattle.sbe_types.specs.declared.message.Value.TheVariants as value
use Rattle.sbe_types.specs.declared.message.GroupVal.{GroupVal, Row_of-Block, items-the_row-Block, items_shown-the_row-Block-1, roll-out-GroupVal}
use Rattle.sbe_types.specs.declared.message.GroupVal.TheVariants as groupval

pub comp_is : (n : _) (row : Row_of-Value _) → value.Comp (items-the_row-Value _ row) ≡ value.Comp' n row
unfolding values.out-Value carrier.out values.roll-Value carrier.roll
comp_is n row = ap value.Comp (sym (items_shown-the_row-Value-0 n row)) ∙ roll-out-Value (value.Comp' n row)

pub entries_is : (n : _) (row : Row_of-Block _) → groupval.Entries (items-the_row-Block _ row) ≡ groupval.Entries' n row
unfolding groups.out-GroupVal carrier.out groups.roll-GroupVal carrier.roll
entries_is n row = ap groupval.Entries (sym (items_shown-the_row-Block-1 n row)) ∙ roll-out-GroupVal (groupval.Entries' n row)
