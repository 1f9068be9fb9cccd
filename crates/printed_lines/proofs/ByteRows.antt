-- Members and groups whose constants are made of bytes, in a row and in a list.
use Rattle.std.proofs.Common.{List, sym, subst}
use Rattle.std.specs.List.{All, AllByRecursion}
use Rattle.std.proofs.lemmas.List.Elements.{recursion_from_All}
use denote.Hole.Carrier as carrier
use Rattle.sbe_types.specs.declared.kind.Kind.{Comp, Row_of-Member, end_of-Member, more_of-Member, items-the_row-Member, items_hidden-the_row-Member-0}
use Rattle.sbe_types.specs.declared.kind.Member.{Member}
use Rattle.sbe_types.specs.declared.schema.Group as groups
use Rattle.sbe_types.specs.declared.schema.Level as levels
use Rattle.sbe_types.specs.declared.schema.Group.{Group, Group', out-Group}
use Rattle.sbe_types.specs.declared.schema.Level.{Level, Level', out-Level, Row_of-Group, end_of-Group, more_of-Group, items-the_row-Group, items_shown-the_row-Group-0}
use Rattle.sbe_types.proofs.KindRows.{row_in}
use Rattle.printed_lines.specs.ByteConstants.{HasByteConstants, HaveByteConstants, IsByteMember, IsByteField, IsByteLevel, AreByteGroups, IsByteGroup}

members_have : (n : _) (row : Row_of-Member n) → AllByRecursion IsByteMember (items-the_row-Member _ row) → HaveByteConstants row
members_have _ end_of-Member h = tt
members_have _ (more_of-Member name offset kind rest) h = (h.0, members_have _ rest h.1)

pub comp_has : (members : List Member) → All IsByteMember members → HasByteConstants (Comp members)
comp_has members h =
    let row = row_in (Comp members) in
    members_have row.0 row.1 (subst (AllByRecursion IsByteMember) (sym (items_hidden-the_row-Member-0 members)) (recursion_from_All IsByteMember members h))

groups_have : {n : _} (row : Row_of-Group n) → AllByRecursion IsByteGroup (items-the_row-Group _ row) → AreByteGroups row
groups_have end_of-Group h = tt
groups_have (more_of-Group g rest) h = (h.0, groups_have rest h.1)

pub level_has : (level : Level) → All IsByteField (out-Level level).fields → All IsByteGroup (out-Level level).groups → IsByteLevel level
unfolding levels.out-Level carrier.out
level_has (Level' name id semantic since block_length fields n groups parts) own below =
    let rows = recursion_from_All IsByteGroup _ below in
    (recursion_from_All IsByteField fields own, groups_have groups (subst (AllByRecursion IsByteGroup) (items_shown-the_row-Group-0 n groups) rows))

pub group_has : (g : Group) → IsByteLevel (out-Group g).level → IsByteGroup g
unfolding groups.out-Group carrier.out
group_has (Group' dim level) h = h
