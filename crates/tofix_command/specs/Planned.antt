-- Schemas with the plans of their templates. Own profile.
use Rattle.std.specs.Prelude.{◌≡◌, ◌≤◌, ℕ, List, [], ◌∷◌, ◌++◌, map, find, Option, Some, Result, Ok, Err, slice_get}
use Rattle.sbe_types.specs.declared.schema.WireSchema.{WireSchema}
use Rattle.map_types.specs.declared.tree.Repository.{Repository}
use Rattle.map_types.specs.Trees.{members_of}
use Rattle.bridge_plan.specs.Mappings.{Mapping}
use Rattle.bridge_mapping.specs.Mapped.{mapping_of}
use Rattle.message_plans.specs.Plans.{ArePlans}
use Rattle.value_texts.specs.Rows.{Spells}
use Rattle.fix_messages.specs.Heads.{Head, IsHeadReady}
use Rattle.dump_lines.specs.Chosen.{has_id}
use Rattle.dump_lines.specs.Dumped.{AreInOrder}
use Rattle.dump_lines.specs.declared.schemas.Schemas.{Schemas}
use Rattle.schema_files.specs.declared.files.LoadStop.{LoadStop}
use Rattle.schema_files.specs.declared.files.JobStop.{JobStop}
use Rattle.flyweight_view.specs.TypedBlocks.{TypedMessage}
use Rattle.command_steps.specs.declared.kept.Kept.{Kept}
use Rattle.fix_translation.specs.Translations.{HasKinds}
use Rattle.tofix_replies.specs.ToFix.{head_after, text_limit, Bridge}
use Rattle.tofix_command.specs.declared.translations.Translation.{Translation}
use Rattle.tofix_command.specs.declared.translations.Translations.{Translations}

-- the schemas of translations
abbrev pub layouts_of : List Translation → List WireSchema
layouts_of translations = map (λ (t : Translation). t.layout) translations

-- the schemas of a run
abbrev pub schemas_of : Translations → Schemas
schemas_of all = record { first = all.first.layout; also = layouts_of all.also }

-- the same and one more
abbrev pub with_more : Translations → Translation → Translations
with_more all t = record { first = all.first; also = all.also ++ t ∷ [] }

-- the plans are those of the schema's templates, by the mapping
abbrev pub IsPlannedBy : Mapping → Translation → Type 0
IsPlannedBy m t = ArePlans Spells m t.layout.messages t.plan

-- the same of each
pub record ArePlannedBy (m : Mapping) (all : Translations) : Type 0 where
  pub first : IsPlannedBy m all.first
  pub also : (i : ℕ) (t : Translation) → slice_get all.also i ≡ Some t → IsPlannedBy m t

-- the first with this id
pub record IsFoundIn (id : ℕ) (translations : List Translation) (t : Translation) : Type 0 where
  pub place : ℕ
  pub there : slice_get translations place ≡ Some t
  pub first : find (has_id id) (layouts_of translations) ≡ Some t.layout

-- ---- what answers are made with

-- the schemas have their plans by a mapping whose MsgTypes may be values of fields
pub record IsSetUp (all : Translations) : Type 0 where
  pub mapping : Mapping
  pub kinds : HasKinds mapping
  pub planned : ArePlannedBy mapping all

-- the same by the mapping of this bridge, whose schemas they are
pub record IsSetUpFor (b : Bridge) (all : Translations) : Type 0 where
  pub schemas : b.schemas ≡ schemas_of all
  pub planned : ArePlannedBy b.mapping all

-- the head is that of the next text, and the room that of the bridge's frames
pub record IsWith (b : Bridge) (kept : Kept) (head : Head) (limit : ℕ) : Type 0 where
  pub head_is : head ≡ head_after kept.translated b.head
  pub limit_is : limit ≡ text_limit b.frame

-- a message of the schema, whose plans are by a mapping with such MsgTypes
pub record IsMessageOf (t : Translation) (seen : TypedMessage) : Type 0 where
  pub mapping : Mapping
  pub kinds : HasKinds mapping
  pub planned : IsPlannedBy mapping t
  pub there : slice_get t.layout.messages seen.message.template ≡ Some seen.level

-- ---- a translator

-- What holds of a translator at every moment.
pub record IsTranslator (all : Translations) (repository : Repository) (head : Head) (frame limit : ℕ) : Type 0 where
  pub order : AreInOrder (schemas_of all)
  pub kinds : HasKinds (mapping_of (members_of repository))
  pub planned : ArePlannedBy (mapping_of (members_of repository)) all
  pub ready : IsHeadReady head
  pub limit_is : limit ≡ text_limit frame
  pub most : frame ≤ 16_777_216

-- ---- what was loaded

-- the schema that was loaded with its plans
abbrev pub laid_out : Result Translation LoadStop → Result WireSchema LoadStop
laid_out (Ok t) = Ok t.layout
laid_out (Err stop) = Err stop

-- the schemas that were loaded with their plans
abbrev pub all_laid_out : Result Translations JobStop → Result Schemas JobStop
all_laid_out (Ok all) = Ok (schemas_of all)
all_laid_out (Err stop) = Err stop
