-- What the code's values stand for, and kinds by their lists.
use Rattle.std.specs.Prelude.{ℕ, if◌then◌else◌, List, [], ◌∷◌, Option, Some, None, Ok}
use Rattle.std.specs.Borrow.{Bor}
use Rattle.std.specs.Ordering.{is_lt, nat_cmp}
use Rattle.std.specs.Cmp.Lexicographic.{slice_cmp}
use Rattle.serde_json.specs.Data.{Members, no_members}
use Rattle.json_data.specs.declared.data.Json.{Json}
use Rattle.json_data.specs.Trees.{members_of}
use Rattle.sbe_types.specs.declared.kind.Member.{Member}
use Rattle.sbe_types.specs.declared.schema.Group.{Group}
use Rattle.sbe_types.specs.declared.message.Value.{Value}
use Rattle.line_values.specs.declared.names.Names.{Names}
use Rattle.line_values.specs.declared.names.Names.TheVariants.{Fields, Groups, Parts, Members as MemberNames, Entry, Message}
use Rattle.line_values.specs.Refusals.{Reading, ◌>>=◌}
use Rattle.line_values.specs.Values.{value_in}
use Rattle.line_values.specs.Keys.{field_names, data_names, group_name, entry_names, message_names}

-- an object's members; none if it is missing
abbrev pub object_members : Option (Bor (List (Bor (List ℕ) × Json))) → Members
object_members None = no_members
object_members (Some ms) = members_of ms.now

-- the least, by bytes, of a key and one that was found before
abbrev pub least_of : Option (List ℕ) → List ℕ → List ℕ
least_of None key = key
least_of (Some found) key = if is_lt (slice_cmp nat_cmp found key) then found else key

-- the names of members
abbrev pub member_list_names : List Member → List (List ℕ)
member_list_names [] = []
member_list_names (m ∷ ms) = m.name ∷ member_list_names ms

-- the names of groups
abbrev pub group_list_names : List Group → List (List ℕ)
group_list_names [] = []
group_list_names (g ∷ gs) = group_name g ∷ group_list_names gs

-- the names that keys may have
abbrev pub names_in : Names → List (List ℕ)
names_in (Fields fs) = field_names fs.now
names_in (Groups gs) = group_list_names gs.now
names_in (Parts ps) = data_names ps.now
names_in (MemberNames ms) = member_list_names ms.now
names_in Entry = entry_names
names_in Message = message_names

-- the values of members, in the schema's order
unfoldable pub member_list_read : List Member → Members → Reading (List Value)
member_list_read [] found = Ok []
member_list_read (m ∷ ms) found = do
  v ← value_in m.name m.kind found
  vs ← member_list_read ms found
  Ok (v ∷ vs)
