-- The translation that a body is read by.
use Rattle.std.proofs.Common.{◌≡◌, ◌≤◌, ◌<◌, ◌+◌, ℕ, zero, suc, Bool, true, false, cond, List, [], ◌∷◌, ◌++◌, length, drop, get_or, Option, Some, None, refl, sym, ap, ◌∙◌, subst, arith}
use Rattle.std.specs.Prelude.{find, map, slice_get}
use Rattle.std.specs.List.{AllByRecursion}
use Rattle.std.specs.Option.{option_map}
use Rattle.std.proofs.lemmas.Option.{slice_get_read}
use Rattle.bridge_plan.specs.Mappings.{Mapping}
use Rattle.layout_tables.proofs.Items.{drop_is}
use Rattle.sbe_types.specs.declared.schema.WireSchema.{WireSchema}
use Rattle.dump_lines.specs.Chosen.{has_id}
use Rattle.dump_lines.specs.declared.schemas.Schemas.{Schemas}
use Rattle.dump_lines.specs.Dumped.{AreInOrder}
use Rattle.schema_facts.specs.IsChecked.{IsChecked}
use Rattle.schema_files.specs.FileChecks.{alone, with_one}
use Rattle.dump_lines.proofs.Finding.{id_same, id_differs}
use Rattle.tofix_command.specs.declared.translations.Translation.{Translation}
use Rattle.tofix_command.specs.declared.translations.Translations.{Translations}
use Rattle.tofix_command.specs.Planned.{layouts_of, schemas_of, with_more, ArePlannedBy, IsFoundIn, IsPlannedBy}

-- the layouts after so many, from the translation there on
front_is : (ts : List Translation) (i : ℕ) (t : Translation) → i < length ts → t ≡ get_or ts i t → layouts_of (drop i ts) ≡ t.layout ∷ layouts_of (drop (i + 1) ts)
front_is ts i t within is = ap (λ us. layouts_of us) (drop_is ts i t within is)

pub found_there : (ts : List Translation) (i id n : ℕ) (t : Translation) → i < length ts → t ≡ get_or ts i t → n ≡ t.layout.id → n ≡ id
    → find (has_id id) (layouts_of (drop i ts)) ≡ find (has_id id) (layouts_of ts) → IsFoundIn id ts t
found_there ts i id n t within is its same so_far = record {
  place = i;
  there = slice_get_read ts (length ts) i t refl within is;
  first = sym so_far ∙ ap (find (has_id id)) (front_is ts i t within is) ∙ ap (λ b. cond b (Some t.layout) (find (has_id id) (layouts_of (drop (i + 1) ts)))) (id_same t.layout n id its same);
}

pub passed_there : (ts : List Translation) (i id n : ℕ) (t : Translation) → i < length ts → t ≡ get_or ts i t → n ≡ t.layout.id → (n ≡ id → ⊥)
    → find (has_id id) (layouts_of (drop i ts)) ≡ find (has_id id) (layouts_of ts) → find (has_id id) (layouts_of (drop (i + 1) ts)) ≡ find (has_id id) (layouts_of ts)
passed_there ts i id n t within is its differs so_far =
    sym (ap (find (has_id id)) (front_is ts i t within is) ∙ ap (λ b. cond b (Some t.layout) (find (has_id id) (layouts_of (drop (i + 1) ts)))) (id_differs t.layout n id its differs)) ∙ so_far

pub none_there : (ts : List Translation) (i id : ℕ) → length ts ≤ i → find (has_id id) (layouts_of (drop i ts)) ≡ find (has_id id) (layouts_of ts) → find (has_id id) (layouts_of ts) ≡ None
none_there ts i id past so_far = sym so_far ∙ ap (λ us. find (has_id id) (layouts_of us)) (all_gone ts i past)
  where
    all_gone : (ts : List Translation) (i : ℕ) → length ts ≤ i → drop i ts ≡ []
    all_gone [] zero past = refl
    all_gone [] (suc i) past = refl
    all_gone (t ∷ ts) zero past = absurd (omega (arith, past))
    all_gone (t ∷ ts) (suc i) past = all_gone ts i (omega (arith, past))

-- a translation that was found has its plans
pub found_planned : (m : Mapping) (all : Translations) (id : ℕ) (t : Translation) → IsFoundIn id all.also t → ArePlannedBy m all → IsPlannedBy m t
found_planned m all id t found planned = planned.also found.place t found.there

-- ---- translations are gathered

slice_append : (ts : List Translation) (t u : Translation) (i : ℕ) → slice_get (ts ++ t ∷ []) i ≡ Some u → (P : Translation → Type 0) → ((j : ℕ) (v : Translation) → slice_get ts j ≡ Some v → P v) → P t → P u
slice_append [] t u zero is P each last = subst P (some_is is) last
  where
    some_is : {x y : Translation} → ◌≡◌ {A = Option Translation} (Some x) (Some y) → x ≡ y
    some_is h = cc
slice_append [] t u (suc i) is P each last = absurd (gone is)
  where
    gone : ◌≡◌ {A = Option Translation} None (Some u) → ⊥
    gone h = cc
slice_append (v ∷ vs) t u zero is P each last = each 0 u is
slice_append (v ∷ vs) t u (suc i) is P each last = slice_append vs t u i is P (λ j w there. each (suc j) w there) last

pub more_planned : (m : Mapping) (all : Translations) (t : Translation) → ArePlannedBy m all → IsPlannedBy m t → ArePlannedBy m (with_more all t)
more_planned m all t planned its = record { first = planned.first; also = λ i u is. slice_append all.also t u i is (IsPlannedBy m) (λ j v there. planned.also j v there) its }

layouts_more : (ts : List Translation) (t : Translation) → layouts_of (ts ++ t ∷ []) ≡ layouts_of ts ++ t.layout ∷ []
layouts_more [] t = refl
layouts_more (u ∷ us) t = ap (λ ls. u.layout ∷ ls) (layouts_more us t)

abbrev the_schemas : WireSchema → List WireSchema → Schemas
the_schemas first also = record { first = first; also = also }

-- one more schema, with its plans and without
pub schemas_more : (all : Translations) (t : Translation) → schemas_of (with_more all t) ≡ with_one (schemas_of all) t.layout
schemas_more all t = ap (λ ls. the_schemas all.first.layout ls) (layouts_more all.also t)

-- ---- one translation alone

module _ (t : Translation) (also : List Translation) (none : also ≡ []) where
  abbrev only : Translations
  only = record { first = t; also = also }

  pub alone_is : (first : WireSchema) → t.layout ≡ first → schemas_of only ≡ alone first
  alone_is first is = ap (λ ts. the_schemas t.layout (layouts_of ts)) none ∙ ap (λ s. the_schemas s []) is

  pub alone_in_order : IsChecked t.layout → AreInOrder (schemas_of only)
  alone_in_order checked = (checked, subst (λ ts. AllByRecursion IsChecked (layouts_of ts)) (sym none) tt)

  pub alone_planned : (m : Mapping) → IsPlannedBy m t → ArePlannedBy m only
  alone_planned m planned = record { first = planned; also = λ i u is. absurd (nothing_there i u (subst (λ ts. slice_get ts i ≡ Some u) none is)) }
    where
      nothing_there : (i : ℕ) (u : Translation) → slice_get [] i ≡ Some u → ⊥
      nothing_there i u h = cc
