-- Lemmas of elements inside others of their kind, at composites and groups.
use Rattle.std.proofs.Common.{◌≡◌, ℕ, List, Some, None}
use Rattle.std.specs.Prelude.{Ok}
use Rattle.serde_json.specs.Data.{Data, Items}
use Rattle.json_elements.specs.declared.refusal.Cause.TheVariants.{Shape}
use Rattle.json_elements.specs.Reading.{refuse}
use Rattle.json_elements.specs.Elements.{lone, content, each, tree, branches}
use Rattle.json_elements.proofs.Trees.{By}
use Rattle.json_elements.proofs.Trees as trees

pub branches_each : {A : Type 0} (by : By A) (d : Data) (ds : Items) → content d ≡ Ok ds → branches by d ≡ each (tree by) 0 ds
branches_each = trees.branches_each

pub tree_unseen : {A : Type 0} (by : By A) (d : Data) → lone d ≡ None → tree by d ≡ refuse Shape
tree_unseen = trees.tree_unseen

pub tree_seen : {A : Type 0} (by : By A) (d inner : Data) (name : List ℕ) → lone d ≡ Some (name, inner) → tree by d ≡ by name inner (branches by inner)
tree_seen = trees.tree_seen
