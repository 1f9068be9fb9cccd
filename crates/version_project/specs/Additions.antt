-- Added groups and data, over lists of groups.
use Rattle.std.specs.Prelude.{ℕ, ◌||◌, if◌then◌else◌, Some, None, Option, List, [], ◌∷◌, ◌++◌, codes}
use Rattle.std.specs.List.{list_any}
use Rattle.std.specs.Option.{option_map}
use Rattle.sbe_types.specs.declared.schema.DataField.{DataField}
use Rattle.sbe_types.specs.declared.schema.Group.{Group}
use Rattle.version_laws.specs.Answer.{dotted}
use Rattle.version_laws.specs.Differ.{is_old, group_since, group_name}
use Rattle.version_laws.specs.Forward.{NamePath, or_later, below, added_below, early_part}
use Rattle.version_laws.specs.Projected.{old_part}
use Rattle.version_project.specs.IsPlain.{old_group}

-- the text of a path
abbrev pub text : Option NamePath → Option (List ℕ)
text = option_map dotted

-- the text of a path inside a part with this name
abbrev pub inside_text : List ℕ → Option (List ℕ) → Option (List ℕ)
inside_text name = option_map (λ inner. name ++ codes "." ++ inner)

-- the first group of an entry that is added, or the first addition inside a group
abbrev pub added_each : ℕ → List Group → Option NamePath
added_each version [] = None
added_each version (g ∷ gs) =
    if is_old version (group_since g) then or_later (below (group_name g) (added_below version g)) (added_each version gs) else Some (group_name g ∷ [])

-- of a message's groups and data, the first added one that is followed by one that old has, or that is in an entry
abbrev pub early_each : ℕ → List DataField → List Group → Option NamePath
early_each version parts [] = early_part version parts
early_each version parts (g ∷ gs) =
    if is_old version (group_since g)
    then or_later (below (group_name g) (added_below version g)) (early_each version parts gs)
    else (if list_any (old_group version) gs || list_any (old_part version) parts then Some (group_name g ∷ []) else early_each version parts gs)
