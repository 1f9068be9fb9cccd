-- The walk over two lists of fields.
use Rattle.std.proofs.Common.{◌≡◌, ◌≤◌, ◌<◌, ◌+◌, ℕ, Bool, cond, List, [], ◌∷◌, length, drop, Option, Some, None, sym, ap, ◌∙◌, subst}
use Rattle.std.proofs.lemmas.List.{drop_all}
use Rattle.std.specs.Prelude.{slice_get}
use Rattle.sbe_types.specs.declared.schema.Field.{Field}
use Rattle.sbe_types.specs.Places.{end_past}
use Rattle.schema_facts.specs.Measured.{IsNarrow, EndsWithin, AreNarrowFields}
use Rattle.version_laws.specs.declared.difference.Difference.{Difference}
use Rattle.version_laws.specs.declared.difference.Reason.{Reason}
use Rattle.version_laws.specs.declared.difference.Reason.TheVariants as reason
use Rattle.version_laws.specs.Differ.{differs, unless_for, field_reason, fields_differ}
use Rattle.version_project.specs.Pairwise.{ends_at}
use Rattle.version_project.proofs.Items.{drop_at}
use Rattle.version_project.proofs.OldParts.{old_has, old_lacks}

module _ (version : ℕ) (more : Bool) (olds news : List Field) (whole : Option Difference) where
  abbrev left : ℕ → ℕ → ℕ → ℕ → Option Difference
  left e i d j = fields_differ version more (ends_at e d) (drop i olds) (drop j news)

  both_walk : (e i d j : ℕ) (f g : Field) → slice_get olds i ≡ Some f → slice_get news j ≡ Some g → g.since ≤ version →
      left e i d j ≡ unless_for f.name (field_reason more (ends_at e d) f g) (left (end_past e f.offset f.kind) (i + 1) (end_past d g.offset g.kind) (j + 1))
  both_walk e i d j f g a b old =
      ap (λ l. fields_differ version more (ends_at e d) l (drop j news)) (drop_at olds i f a)
      ∙ ap (fields_differ version more (ends_at e d) (f ∷ drop (i + 1) olds)) (drop_at news j g b)
      ∙ ap (λ t. cond t (unless_for f.name (field_reason more (ends_at e d) f g) (left (end_past e f.offset f.kind) (i + 1) (end_past d g.offset g.kind) (j + 1)))
      (fields_differ version more (ends_at e (end_past d g.offset g.kind)) (f ∷ drop (i + 1) olds) (drop (j + 1) news))) (old_has version g.since old)

  skip : (e d : ℕ) (xs : List Field) (g : Field) (gs : List Field) → version < g.since →
      fields_differ version more (ends_at e d) xs (g ∷ gs) ≡ fields_differ version more (ends_at e (end_past d g.offset g.kind)) xs gs
  skip e d [] g gs h = ap (λ t. cond t (differs g.name reason.Part) (fields_differ version more (ends_at e (end_past d g.offset g.kind)) [] gs)) (old_lacks version g.since h)
  skip e d (f ∷ fs) g gs h =
      ap (λ t. cond t (unless_for f.name (field_reason more (ends_at e d) f g) (fields_differ version more (ends_at (end_past e f.offset f.kind) (end_past d g.offset g.kind)) fs gs))
      (fields_differ version more (ends_at e (end_past d g.offset g.kind)) (f ∷ fs) gs)) (old_lacks version g.since h)

  pub field_kept : (e i d j e' i' d' : ℕ) (f g : Field) (r : Option Reason) → slice_get olds i ≡ Some f → slice_get news j ≡ Some g → g.since ≤ version →
      r ≡ field_reason more (ends_at e d) f g → r ≡ None → e' ≡ end_past e f.offset f.kind → i' ≡ i + 1 → d' ≡ end_past d g.offset g.kind → left e i d j ≡ whole → left e' i' d' (j + 1) ≡ whole
  field_kept e i d j e' i' d' f g r a b old is none end next other so_far =
      ap (λ n. left e' n d' (j + 1)) next ∙ ap (λ n. left n (i + 1) d' (j + 1)) end ∙ ap (λ n. left (end_past e f.offset f.kind) (i + 1) n (j + 1)) other
      ∙ sym (both_walk e i d j f g a b old ∙ ap (λ r. unless_for f.name r (left (end_past e f.offset f.kind) (i + 1) (end_past d g.offset g.kind) (j + 1))) (sym is ∙ none)) ∙ so_far

  pub field_stops : (e i d j : ℕ) (f g : Field) (r : Option Reason) (why : Reason) → slice_get olds i ≡ Some f → slice_get news j ≡ Some g → g.since ≤ version →
      r ≡ field_reason more (ends_at e d) f g → r ≡ Some why → left e i d j ≡ whole → differs f.name why ≡ whole
  field_stops e i d j f g r why a b old is some so_far =
      sym (both_walk e i d j f g a b old ∙ ap (λ r. unless_for f.name r (left (end_past e f.offset f.kind) (i + 1) (end_past d g.offset g.kind) (j + 1))) (sym is ∙ some)) ∙ so_far

  pub field_added : (e i d j e' i' d' : ℕ) (g : Field) → slice_get news j ≡ Some g → version < g.since → e' ≡ e → i' ≡ i → d' ≡ end_past d g.offset g.kind → left e i d j ≡ whole → left e' i' d' (j + 1) ≡ whole
  field_added e i d j e' i' d' g b new end next other so_far =
      ap (λ n. left n i' d' (j + 1)) end ∙ ap (λ n. left e n d' (j + 1)) next ∙ ap (λ n. left e i n (j + 1)) other
      ∙ sym (ap (fields_differ version more (ends_at e d) (drop i olds)) (drop_at news j g b) ∙ skip e d (drop i olds) g (drop (j + 1) news) new) ∙ so_far

  pub field_extra : (e i d j : ℕ) (g : Field) → length olds ≤ i → slice_get news j ≡ Some g → g.since ≤ version → left e i d j ≡ whole → differs g.name reason.Part ≡ whole
  field_extra e i d j g end b old so_far =
      sym (ap (λ l. fields_differ version more (ends_at e d) l (drop j news)) (drop_all i olds end) ∙ ap (fields_differ version more (ends_at e d) []) (drop_at news j g b)
      ∙ ap (λ t. cond t (differs g.name reason.Part) (fields_differ version more (ends_at e (end_past d g.offset g.kind)) [] (drop (j + 1) news))) (old_has version g.since old)) ∙ so_far

  pub field_missing : (e i d j : ℕ) (f : Field) → slice_get olds i ≡ Some f → length news ≤ j → left e i d j ≡ whole → differs f.name reason.Part ≡ whole
  field_missing e i d j f a end so_far =
      sym (ap (λ l. fields_differ version more (ends_at e d) l (drop j news)) (drop_at olds i f a) ∙ ap (fields_differ version more (ends_at e d) (f ∷ drop (i + 1) olds)) (drop_all j news end)) ∙ so_far

  pub fields_end_alike : (e i d j : ℕ) → length olds ≤ i → length news ≤ j → left e i d j ≡ whole → None ≡ whole
  fields_end_alike e i d j a b so_far =
      sym (ap (λ l. fields_differ version more (ends_at e d) l (drop j news)) (drop_all i olds a) ∙ ap (fields_differ version more (ends_at e d) []) (drop_all j news b)) ∙ so_far

-- ---- the ends of fields that are read so

pub field_next : (e : ℕ) (fs : List Field) (i : ℕ) (f : Field) → slice_get fs i ≡ Some f → AreNarrowFields e (drop i fs) →
    IsNarrow f.kind × EndsWithin e f.offset f.kind × AreNarrowFields (end_past e f.offset f.kind) (drop (i + 1) fs)
field_next e fs i f at all = subst (AreNarrowFields e) (drop_at fs i f at) all

pub field_goes : (e next : ℕ) (fs : List Field) (i i' : ℕ) (f : Field) → slice_get fs i ≡ Some f → next ≡ end_past e f.offset f.kind → i' ≡ i + 1 → AreNarrowFields e (drop i fs) → AreNarrowFields next (drop i' fs)
field_goes e next fs i i' f at is step all = subst (λ n. AreNarrowFields next (drop n fs)) (sym step) (subst (λ n. AreNarrowFields n (drop (i + 1) fs)) (sym is) (field_next e fs i f at all).2)

pub field_stands : (e next : ℕ) (fs : List Field) (i i' : ℕ) → next ≡ e → i' ≡ i → AreNarrowFields e (drop i fs) → AreNarrowFields next (drop i' fs)
field_stands e next fs i i' is step all = subst (λ n. AreNarrowFields next (drop n fs)) (sym step) (subst (λ n. AreNarrowFields n (drop i fs)) (sym is) all)
