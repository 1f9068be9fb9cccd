-- A message and a tag-value text that stand for each other, by the structure of a mapping. Own profile.
use Rattle.std.specs.Prelude.{◌≡◌, ℕ, true, List, ◌++◌, Ok}
use Rattle.sbe_types.specs.declared.message.Block.{Block}
use Rattle.sbe_types.specs.declared.message.Value.{Value}
use Rattle.sbe_types.specs.declared.schema.Level.{Level}
use Rattle.tagvalue_codec.specs.Fields.{Field}
use Rattle.reference_graph.specs.Expansion.{Structure}
use Rattle.bridge_rules.specs.Sound.{IsShown, IsReadable}
use Rattle.bridge_terms.specs.Plans.{Tree, Each, AreGood, is_in}
use Rattle.bridge_terms.specs.PlanFacts.{EachValue, AreCounted}
use Rattle.bridge_terms.specs.Parts.{application_fields}
use Rattle.bridge_terms.specs.MessageFields.{fields_of, with_lengths}
use Rattle.bridge_terms.specs.Blocks.{values_of, HasLengths, HasEntries, IsBackBlock}
use Rattle.bridge_plan.specs.Mappings.{Mapping}
use Rattle.bridge_plan.specs.Covers.{plan_of}
use Rattle.bridge_plan.specs.CheckedLevels.{IsCovered}

-- the values of a message in the order of the structure
abbrev pub Values : Mapping → Structure → Level → Type 0
Values m s level = Tree Value (plan_of m s level)

-- a text to be written: its head, and the application fields after it
pub record Draft : Type 0 where
  pub head : List Field
  pub fields : List Field

-- the fields of a draft, with the length field of each data field
abbrev pub whole_text : Mapping → Draft → List Field
whole_text m draft = draft.head ++ with_lengths m.lists draft.fields

-- the message that a text is translated to
abbrev pub IsMessageOf : Mapping → Structure → Level → List Field → Block → Type 0
IsMessageOf m s level text block = IsBackBlock level (plan_of m s level) (application_fields m.lists text) block

-- the head's tags are those of the header
abbrev pub IsHead : Mapping → List Field → Type 0
IsHead m head = Each (λ f. is_in f.tag m.lists.header ≡ true) head

-- The premises of a translation to a text: the template is covered, the head consists of header fields, the values have
-- these fields, the field of each value has the value's item, and each number of entries is admitted.
pub record IsTranslated (m : Mapping) (s : Structure) (level : Level) (values : Values m s level) (draft : Draft) : Type 0 where
  pub covered : IsCovered m s level
  pub headed : IsHead m draft.head
  pub written : fields_of (plan_of m s level) values ≡ Ok draft.fields
  pub shown : EachValue IsShown (plan_of m s level) values
  pub counted : AreCounted (plan_of m s level) values

-- The premises of the translation there and back: in addition, what is written of each value can be read, and no value
-- without a field is one that a message must have.
pub record ComesBack (m : Mapping) (s : Structure) (level : Level) (values : Values m s level) (draft : Draft) : Type 0 where
  pub there : IsTranslated m s level values draft
  pub readable : EachValue IsReadable (plan_of m s level) values

-- The premises of getting the same message back: each value fits and is in the form that is written for its item, and
-- the block has as many values as its level has parts.
pub record IsCanonicalBlock (m : Mapping) (s : Structure) (level : Level) (block : Block) (draft : Draft) : Type 0 where
  pub covered : IsCovered m s level
  pub headed : IsHead m draft.head
  pub written : fields_of (plan_of m s level) (values_of (plan_of m s level) block) ≡ Ok draft.fields
  pub good : AreGood (plan_of m s level) (values_of (plan_of m s level) block)
  pub lengths : HasLengths level block
  pub entries : HasEntries (plan_of m s level) block
