-- What holds of the levels of groups.
use Rattle.std.proofs.Common.{◌≡◌, ◌≤◌, ◌+◌, ℕ, List, length, Some}
use Rattle.std.specs.Prelude.{slice_get}
use Rattle.std.specs.List.{AllByRecursion}
use Rattle.sbe_types.specs.declared.schema.Group.{Group, out-Group}
use Rattle.sbe_types.specs.declared.schema.Level.{Level, out-Level}
use Rattle.schema_facts.specs.CheckedLevels.{HasFewParts}
use Rattle.schema_facts.specs.Levels.{Node, nodes}
use Rattle.schema_facts.proofs.KindDeclared.{all_at}
use Rattle.schema_facts.proofs.LevelForms.{holds_below}
use Rattle.regrade_laws.specs.Sizes.{HasFewThroughout}

abbrev Few : Node → Type 0
Few node = HasFewParts node.level

pub few_here : (level : Level) → HasFewThroughout level → HasFewParts level
few_here level h = (holds_below Few h.template h.dim level h.each).0

pub few_group : (level : Level) (i : ℕ) (g : Group) → HasFewThroughout level → slice_get (out-Level level).groups i ≡ Some g → HasFewThroughout (out-Group g).level
few_group level i g h at =
    record {
      template = h.template;
      dim = Some (out-Group g).dim;
      each = all_at (λ g. AllByRecursion Few (nodes h.template (Some (out-Group g).dim) (out-Group g).level)) (out-Level level).groups i g (holds_below Few h.template h.dim level h.each).1 at;
    }
