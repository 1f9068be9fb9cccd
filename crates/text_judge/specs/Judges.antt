-- What the bodies of texts are judged by, and the body of the message that a text is translated to. Own profile.
use Rattle.std.specs.Prelude.{◌≡◌, ℕ, Bool, true, List, map, slice_get, Some, None}
use Rattle.std.specs.List.{AllByRecursion}
use Rattle.sbe_types.specs.declared.schema.Level.{Level, out-Level}
use Rattle.sbe_types.specs.declared.schema.WireSchema.{WireSchema}
use Rattle.tagvalue_codec.specs.declared.data_tags.Pair.{Pair}
use Rattle.reference_graph.specs.Expansion.{Structure}
use Rattle.bridge_plan.specs.CheckedLevels.{IsCovered}
use Rattle.bridge_plan.specs.Covers.{cover_of, covered_by, plan_of, uncovered}
use Rattle.bridge_plan.specs.Mappings.{Mapping, structure_for}
use Rattle.message_plans.specs.Plans.{ArePlans, IsOnly}
use Rattle.value_texts.specs.Rows.{Spells}
use Rattle.bridge_terms.specs.Parts.{TagLists}
use Rattle.bridge_terms.specs.Plans.{Each}
use Rattle.tagvalue_codec.specs.Drafts.{IsValue}
use Rattle.fix_messages.specs.Heads.{IsHeadReady, given_fields, head_of}
use Rattle.same_texts.specs.Follow.{IsAlone, IsFramed, IsOwnPair}
use Rattle.same_texts.specs.Same.{ArePairsOf}
use Rattle.exact_plans.specs.Exact.{is_exact}
use Rattle.back_texts.specs.Backs.{IsHeader}
use Rattle.text_heads.specs.Heads.{AreHeadTags}
use Rattle.text_heads.specs.declared.own.HeadTags.{HeadTags}
use Rattle.text_heads.specs.declared.heads.TextFront.{TextFront}
use Rattle.text_bodies.specs.Bodies.{IsBodyOfText, Reading}
use Rattle.text_judge.specs.declared.judge.TextJudge.{TextJudge}

-- a marked template is the only one with its MsgType
abbrev pub MarkOnly : List Level → List Bool → Type 0
MarkOnly levels marks =
    (i : ℕ) (level : Level) → slice_get marks i ≡ Some true → slice_get levels i ≡ Some level → IsOnly (out-Level level).semantic levels i

-- What the judge has is of the templates with these levels, by this mapping and these pairs of tags.
pub record IsJudge (m : Mapping) (levels : List Level) (tags : List Pair) (judge : TextJudge) : Type 0 where
  pub plans : ArePlans Spells m levels judge.plan
  pub exact : judge.exact ≡ map is_exact levels
  pub only : MarkOnly levels judge.only
  pub head : AreHeadTags tags m.lists judge.head
  pub own_pairs : judge.own_pairs ≡ true → AllByRecursion (IsOwnPair tags) tags

-- what the laws of messages ask, of each template with these levels that the mapping covers
abbrev pub CoversEach : Mapping → List Level → Type 0
CoversEach m levels =
    (i : ℕ) (level : Level) (s : Structure) → slice_get levels i ≡ Some level → structure_for m (out-Level level).semantic ≡ Some s
    → uncovered m s level ≡ None → IsCovered m s level

-- The judge is that of the schema's templates by a mapping whose pairs of tags these are, and which keeps what the laws of messages ask.
pub record IsJudgeFor (m : Mapping) (schema : WireSchema) (tags : List Pair) (judge : TextJudge) : Type 0 where
  pub own : IsJudge m schema.messages tags judge
  pub framed : IsFramed m.lists
  pub pairs : ArePairsOf tags m.lists
  pub covers : CoversEach m schema.messages

-- The MsgType and the head that are taken from bytes: values that fields may have, and given fields that stand alone if they
-- belong to the header.
pub record IsFront (own : HeadTags) (front : TextFront) : Type 0 where
  pub ready : IsHeadReady (head_of front.head)
  pub kind : IsValue front.kind.now
  pub header : (tags : List Pair) (lists : TagLists) → ArePairsOf tags lists → AreHeadTags tags lists own → Each (IsHeader tags lists) (given_fields (head_of front.head))
  pub alone : (tags : List Pair) (lists : TagLists) → ArePairsOf tags lists → AreHeadTags tags lists own → Each (IsAlone tags) (given_fields (head_of front.head))

-- bytes that are read as a text with these pairs of tags, and a body
pub record TextBody : Type 0 where
  pub tags : List Pair
  pub text : List ℕ
  pub body : List ℕ

-- what the texts of a template are read by
abbrev pub reading_of : Mapping → Structure → Level → List Pair → Reading
reading_of m s level tags = record { m = m; s = s; level = level; tags = tags }

-- The mapping covers the template, the bytes are a text, and the body is the canonical one of the message that the text is translated to,
-- which fits.
pub record HasBodyOf (m : Mapping) (schema : WireSchema) (template : ℕ) (level : Level) (of : TextBody) : Type 0 where
  pub structure : Structure
  pub mapped : structure_for m (out-Level level).semantic ≡ Some structure
  pub covered : IsCovered m structure level
  pub cover : cover_of m level ≡ covered_by (plan_of m structure level)
  pub own : IsBodyOfText schema template (reading_of m structure level of.tags) of.text of.body
