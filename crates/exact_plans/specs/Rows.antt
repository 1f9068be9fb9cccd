-- The tags of rows. Own profile.
use Rattle.std.specs.Prelude.{◌<◌, ◌^◌, List, Some, None, ⊤}
use Rattle.std.specs.List.{AllByRecursion}
use Rattle.tagvalue_codec.specs.Fields.{IsTag}
use Rattle.message_walk.specs.declared.plan.Part.{Part}
use Rattle.message_walk.specs.declared.plan.Part.TheVariants as part
use Rattle.message_walk.specs.declared.plan.PlanRow.{PlanRow}

-- the tag of the length field, if there is one, has 64 bits
abbrev pub IsSmallPart : {R : Type 0} → Part R → Type 0
IsSmallPart (part.Field by) = ⊤
IsSmallPart (part.Data (Some own)) = own < 2 ^ 64
IsSmallPart (part.Data None) = ⊤
IsSmallPart (part.Group size) = ⊤

-- the tags of a row have 64 bits
pub record IsSmall {R : Type 0} (r : PlanRow R) : Type 0 where
  pub tag : r.lead < 2 ^ 64
  pub length : IsSmallPart r.part

-- the same for each row
abbrev pub AreSmall : {R : Type 0} → List (PlanRow R) → Type 0
AreSmall {R} rows = AllByRecursion (λ (r : PlanRow R). IsSmall r) rows

-- each row's tag has one to nine digits
abbrev pub AreTagged : {R : Type 0} → List (PlanRow R) → Type 0
AreTagged {R} rows = AllByRecursion (λ (r : PlanRow R). IsTag r.lead) rows
