-- The body of a text of the only template that has its MsgType.
use Rattle.std.proofs.Common.{◌≡◌, ℕ, zero, suc, Bool, true, List, [], ◌∷◌, Some, map, length, ◌<◌, refl, sym, ap, ◌∙◌, subst, arith}
use Rattle.std.specs.Prelude.{bytes_eq, slice_get}
use Rattle.std.specs.List.{All}
use Rattle.std.proofs.lemmas.List.Elements.{All-head, filter_passes}
use Rattle.std.proofs.lemmas.Slice.Eq.{bytes_eq-Decides}
use Rattle.sbe_types.specs.declared.schema.Level.{Level, out-Level}
use Rattle.sbe_types.specs.declared.schema.WireSchema.{WireSchema}
use Rattle.tagvalue_codec.specs.Drafts.{IsValue}
use Rattle.tagvalue_codec.specs.Fields.{IsTag}
use Rattle.reference_graph.specs.Expansion.{Structure}
use Rattle.bridge_rules.proofs.OptionLemmas.{none_some, some_is}
use Rattle.bridge_terms.specs.PlanFacts.{EachRule}
use Rattle.bridge_terms.specs.Plans.{all_tags, is_in}
use Rattle.bridge_plan.specs.CheckedLevels.{IsCovered}
use Rattle.bridge_plan.specs.Covers.{plan_of, templates_of}
use Rattle.bridge_plan.specs.Mappings.{Mapping}
use Rattle.message_plans.specs.Plans.{IsMapped, IsOnly}
use Rattle.message_walk.specs.declared.plan.PlanRow.{PlanRow}
use Rattle.message_walk.specs.Rows.{AreRows}
use Rattle.value_texts.specs.declared.row.ValueText.{ValueText}
use Rattle.value_texts.specs.Rows.{Spells}
use Rattle.fix_messages.specs.declared.text.MessageRows.{MessageRows}
use Rattle.fix_messages.specs.Heads.{Head, head_of}
use Rattle.same_texts.specs.Same.{IsClear}
use Rattle.back_texts.specs.Backs.{IsExact}
use Rattle.back_texts.proofs.Forms.{plan_exact}
use Rattle.exact_plans.specs.Exact.{is_exact}
use Rattle.exact_plans.proofs.Exact.{of_one_form}
use Rattle.text_heads.specs.declared.heads.TextFront.{TextFront}
use Rattle.text_bodies.specs.Bodies.{IsBodyOfText, IsHeadFor, IsPlannedBy, Reading}
use Rattle.text_judge.specs.declared.judge.TextJudge.{TextJudge}
use Rattle.text_judge.specs.Judges.{HasBodyOf, IsFront, IsJudgeFor, TextBody, reading_of}

-- ---- the template

-- the template that alone has a MsgType has it
pub kind_of_only : (kind : List ℕ) (levels : List Level) (level : Level) → templates_of kind levels ≡ level ∷ [] → (out-Level level).semantic ≡ kind
kind_of_only kind levels level only =
    (bytes_eq-Decides (out-Level level).semantic kind).0
    (All-head (λ (l : Level). bytes_eq (out-Level l).semantic kind ≡ true) level []
    (subst (All (λ (l : Level). bytes_eq (out-Level l).semantic kind ≡ true)) only (filter_passes (λ (l : Level). bytes_eq (out-Level l).semantic kind) levels)))

-- the item at a place of a list
pub item_at : {X : Type 0} (xs : List X) (i : ℕ) → i < length xs → (x : X) × (slice_get xs i ≡ Some x)
item_at [] i h = absurd (omega (arith, h))
item_at (y ∷ ys) zero h = (y, refl)
item_at (y ∷ ys) (suc i) h = item_at ys i (omega (arith, h))

-- what is made of the items of a list
got_map : {X Y : Type 0} (f : X → Y) (xs : List X) (i : ℕ) (x : X) → slice_get xs i ≡ Some x → slice_get (map f xs) i ≡ Some (f x)
got_map f [] i x h = none_some h
got_map f (y ∷ ys) zero x h = ap (λ z. Some (f z)) (some_is h)
got_map f (y ∷ ys) (suc i) x h = got_map f ys i x h

-- the plans of a template that is marked write each value in one form
pub marked_exact : (levels : List Level) (marks : List Bool) (i : ℕ) (level : Level) → marks ≡ map is_exact levels → slice_get levels i ≡ Some level → slice_get marks i ≡ Some true
    → (m : Mapping) (s : Structure) → EachRule IsExact (plan_of m s level)
marked_exact levels marks i level are there marked m s =
    let form = of_one_form level (some_is (sym (got_map is_exact levels i level there) ∙ ap (λ ms. slice_get ms i) (sym are) ∙ marked)) in
    plan_exact m s level form.0 (form.1 s)

-- ---- the body

-- what the code finds for a text: the rows of its template
pub record IsFoundFor (m : Mapping) (template : ℕ) (level : Level) (judge : TextJudge) (rows : List (PlanRow ValueText)) : Type 0 where
  pub mapped : IsMapped Spells m level rows
  pub clear : IsClear m.lists (plan_of m mapped.structure level)
  pub tagged : (tag : ℕ) → is_in tag (all_tags (plan_of m mapped.structure level)) ≡ true → IsTag tag
  pub paired : judge.own_pairs ≡ true
  pub marked : slice_get judge.exact template ≡ Some true

module _ (m : Mapping) (schema : WireSchema) (template : ℕ) (judge : TextJudge) (of : TextBody) (kind : List ℕ) (rows : List (PlanRow ValueText))
    (is : IsJudgeFor m schema of.tags judge) (only : IsOnly kind schema.messages template) (found : IsFoundFor m template only.level judge rows) where
  abbrev s : Structure
  s = found.mapped.structure

  abbrev r : Reading
  r = reading_of m s only.level of.tags

  covered : IsCovered m s only.level
  covered = is.covers template only.level s only.there found.mapped.mapped found.mapped.covered

  same_kind : (out-Level only.level).semantic ≡ kind
  same_kind = kind_of_only kind schema.messages only.level only.only

  pub head_good : (front : TextFront) → front.kind.now ≡ kind → IsFront judge.head front → IsHeadFor (head_of front.head) r
  head_good front its own = record {
    framed = is.framed;
    begin = own.ready.begin;
    typed = subst IsValue (its ∙ sym same_kind) own.kind;
    given = own.header of.tags m.lists is.pairs is.own.head;
    alone = own.alone of.tags m.lists is.pairs is.own.head;
  }

  -- rows by which a text of the template is written
  module _ (own : MessageRows ValueText) (typed : own.msg_type.now ≡ kind) (placed : own.rows.now ≡ rows) where
    planned : IsPlannedBy Spells schema template own r
    planned = record {
      there = only.there;
      kind = typed ∙ sym same_kind;
      rows = subst (AreRows Spells m.lists (plan_of m s only.level)) (sym placed) found.mapped.rows;
      fits = found.mapped.fits;
      plan = record {
        pairs = is.pairs;
        tagged = record { pairs = is.own.own_pairs found.paired; each = found.tagged };
        plan = record {
          covered = covered;
          clear = found.clear;
          exact = marked_exact schema.messages judge.exact template only.level is.own.exact only.there found.marked m s;
        };
      };
    }

    pub has_body : (head : Head) → IsHeadFor head r → ((its : Reading) → IsPlannedBy Spells schema template own its → IsHeadFor head its → IsBodyOfText schema template its of.text of.body)
        → HasBodyOf m schema template only.level of
    has_body head good judged = record { structure = s; mapped = found.mapped.mapped; covered = covered; cover = found.mapped.cover; own = judged r planned good }
