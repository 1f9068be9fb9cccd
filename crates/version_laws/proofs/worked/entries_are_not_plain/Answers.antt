use Rattle.std.proofs.Common.{◌≡◌, refl, [], ◌∷◌}
use Rattle.sbe_types.specs.declared.message.DataVal.{DataVal}
use Rattle.sbe_types.specs.declared.message.DataVal.TheVariants as dataval
use Rattle.version_laws.specs.Plain.{AllOf, PlainEntry}
use Rattle.version_laws.specs.Rows.{ne_group, ne_entries}
use denote.Hole.Carrier as carrier
use Rattle.sbe_types.specs.declared.schema.Level as levels
use Rattle.version_laws.proofs.TailCuts.{all_of}
use Rattle.version_laws.proofs.worked.entries_are_not_plain.Goals as goal

never : ◌≡◌ {A = DataVal} (dataval.Bytes (65 ∷ [])) dataval.Absent → ⊥
never k = cc

pub returns : goal.returns
unfolding levels.out-Level carrier.out
returns c = λ plain. let all : AllOf (PlainEntry 0 ne_group) ne_entries = all_of (PlainEntry 0 ne_group) ne_entries (plain _ refl).0 in never all.0.1.0
