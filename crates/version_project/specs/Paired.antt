-- Old and new parts in order: each new part that old knows is compared with the next old one.
use Rattle.std.specs.Prelude.{ℕ, Bool, if◌then◌else◌, Option, None, List, [], ◌∷◌}
use Rattle.sbe_types.specs.declared.schema.DataField.{DataField}
use Rattle.sbe_types.specs.declared.schema.Group.{Group}
use Rattle.version_laws.specs.declared.difference.Difference.{Difference}
use Rattle.version_laws.specs.declared.difference.Reason.TheVariants as reason
use Rattle.version_project.specs.IsPlain.{old_group}
use Rattle.version_laws.specs.Differ.{differs, or_else, unless_for, in_part, data_reason, group_name, group_reason, group_differs}
use Rattle.version_laws.specs.Projected.{old_part}

-- the first difference of two lists, compared part by part
abbrev pub paired : {P : Type 0} → (P → Bool) → (P → List ℕ) → (P → P → Option Difference) → List P → List P → Option Difference
paired known name compare [] [] = None
paired known name compare (f ∷ fs) [] = differs (name f) reason.Part
paired known name compare [] (g ∷ gs) = if known g then differs (name g) reason.Part else paired known name compare [] gs
paired known name compare (f ∷ fs) (g ∷ gs) =
    if known g
    then or_else (compare f g) (paired known name compare fs gs)
    else paired known name compare (f ∷ fs) gs

-- the first difference of two groups
abbrev pub group_compare : ℕ → Bool → Group → Group → Option Difference
group_compare version more f g =
    unless_for (group_name f) (group_reason f g) (in_part (group_name f) (group_differs version more f g))

-- the first difference of two lists of groups
abbrev pub groups_compare : ℕ → Bool → List Group → List Group → Option Difference
groups_compare version more olds news = paired (old_group version) group_name (group_compare version more) olds news

-- the name of a data part
abbrev pub data_name : DataField → List ℕ
data_name p = p.name

-- the first difference of two data parts
abbrev pub data_compare : DataField → DataField → Option Difference
data_compare f g = unless_for f.name (data_reason f g) None

-- the first difference of two lists of data parts
abbrev pub parts_compare : ℕ → List DataField → List DataField → Option Difference
parts_compare version olds news = paired (old_part version) data_name data_compare olds news
