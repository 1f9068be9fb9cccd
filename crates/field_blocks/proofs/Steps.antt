-- One value more of a level's fields, data and groups.
use Rattle.std.proofs.Common.{◌≡◌, ◌<◌, inl, inr, ℕ, List, [], ◌∷◌, ◌++◌, length, slice_get, Some, sym, ap, ◌∙◌, subst, arith}
use Rattle.sbe_types.specs.declared.message.DataVal.{DataVal}
use Rattle.sbe_types.specs.declared.message.DataVal.TheVariants as dataval
use Rattle.sbe_types.specs.declared.message.GroupVal.{GroupVal}
use Rattle.sbe_types.specs.declared.message.Value.{Value}
use Rattle.sbe_types.specs.declared.message.Value as value
use Rattle.sbe_types.specs.declared.schema.DataField.{DataField}
use Rattle.sbe_types.specs.declared.schema.Field.{Field}
use Rattle.sbe_types.specs.declared.schema.Group.{Group}
use Rattle.bridge_rules.proofs.OptionLemmas.{some_is}
use Rattle.bridge_terms.specs.Blocks.{AreHeld}
use Rattle.bridge_terms.specs.Gathering.{text_at, value_found}
use Rattle.bridge_terms.specs.Parts.{Part}
use Rattle.bridge_terms.specs.Plans.{Each, Plan, Repeat, Slot, Tree}
use Rattle.field_judge.specs.Heads.{group_head, heads, slot_head}
use Rattle.field_blocks.specs.Blocks.{HasEntriesOf}
use Rattle.field_blocks.specs.Found.{entries_found, HoldsData, HoldsFields, HoldsGroups, IsGroupOf}
use Rattle.field_blocks.proofs.Lists.{pushed}

pub field_next : (p : Plan) (parts : List Part) (own : List Field) (values : List Value) (v : Value) (i : ℕ) (f : Field) → length values ≡ i → slice_get own i ≡ Some f
    → ((k : ℕ) (s : Slot) (found : Value) → slice_get (heads p) k ≡ Some (slot_head s) → f.id ≡ s.tag → value_found s.rule (text_at s.tag parts) ≡ Some found → v ≡ found)
    → HoldsFields p parts own values → HoldsFields p parts own (values ++ v ∷ [])
field_next p parts own values v i f many here new held = λ k j s g found less at there same is. elim (pushed values v i j many less) [
  | inl a ↦ a.1 ∙ held k j s g found a.0 at there same is
  | inr b ↦ b.1 ∙ ap Some (new k s found at (ap (λ (x : Field). x.id) (some_is (sym here ∙ ap (slice_get own) (sym b.0) ∙ there)) ∙ same) is)
]

pub data_next : (p : Plan) (parts : List Part) (own : List DataField) (values : List DataVal) (v : DataVal) (i : ℕ) (d : DataField) → length values ≡ i → slice_get own i ≡ Some d
    → ((k : ℕ) (s : Slot) (bytes : List ℕ) → slice_get (heads p) k ≡ Some (slot_head s) → d.id ≡ s.tag → value_found s.rule (text_at s.tag parts) ≡ Some (value.Text bytes) → v ≡ dataval.Bytes bytes)
    → HoldsData p parts own values → HoldsData p parts own (values ++ v ∷ [])
data_next p parts own values v i d many here new held = λ k j s e bytes less at there same is. elim (pushed values v i j many less) [
  | inl a ↦ a.1 ∙ held k j s e bytes a.0 at there same is
  | inr b ↦ b.1 ∙ ap Some (new k s bytes at (ap (λ (x : DataField). x.id) (some_is (sym here ∙ ap (slice_get own) (sym b.0) ∙ there)) ∙ same) is)
]

pub group_next : (p : Plan) (parts : List Part) (own : List Group) (values : List GroupVal) (v : GroupVal) (i : ℕ) (found : Group) → length values ≡ i → slice_get own i ≡ Some found
    → ((k : ℕ) (g : Repeat) (inner : Plan) (es : List (Tree Value inner)) → slice_get (heads p) k ≡ Some (group_head g inner) → IsGroupOf g inner found
    → Each (λ e. AreHeld inner e) es → entries_found g inner parts ≡ Some es → HasEntriesOf g inner es v)
    → HoldsGroups p parts own values → HoldsGroups p parts own (values ++ v ∷ [])
group_next p parts own values v i found many here new held = λ k j g inner other es less at there is all entries. elim (pushed values v i j many less) [
  | inl a ↦
      let was = held k j g inner other es a.0 at there is all entries in
      (was.0, a.1 ∙ was.1, was.2)
  | inr b ↦ (v, b.1, new k g inner es at (subst (IsGroupOf g inner) (some_is (sym there ∙ ap (slice_get own) b.0 ∙ here)) is) all entries)
]

-- ---- none yet

none_below : {Z : Type 0} (i : ℕ) → i < 0 → Z
none_below i less = absurd (never less)
  where
    never : i < 0 → ⊥
    never h = omega (arith, h)

pub no_field : (p : Plan) (parts : List Part) (own : List Field) → HoldsFields p parts own []
no_field p parts own = λ k i s f found less at there same is. none_below i less

pub no_data : (p : Plan) (parts : List Part) (own : List DataField) → HoldsData p parts own []
no_data p parts own = λ k i s d bytes less at there same is. none_below i less

pub no_group : (p : Plan) (parts : List Part) (own : List Group) → HoldsGroups p parts own []
no_group p parts own = λ k i g inner found es less at there is all entries. none_below i less
