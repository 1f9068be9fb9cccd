-- Fields are translated to one block, exactly where they aren't refused.
use Rattle.std.proofs.Common.{◌≡◌, ℕ, zero, suc, List, [], ◌∷◌, length, map, None, refl, sym, ap, ◌∙◌, subst}
use Rattle.std.specs.Prelude.{◌==◌}
use Rattle.sbe_types.specs.declared.schema.Level.{Level, out-Level}
use Rattle.sbe_types.specs.declared.message.Value.{Value}
use Rattle.sbe_types.specs.declared.message.Value as value
use Rattle.sbe_types.specs.declared.message.DataVal.TheVariants as dataval
use Rattle.sbe_types.specs.declared.message.Block.{Block}
use Rattle.sbe_types.specs.declared.message.GroupVal as groupval
use Rattle.bridge_terms.specs.Plans.{Plan, Tree, Each, done, single, group, AreGood}
use Rattle.tagvalue_codec.specs.Fields.{Field}
use Rattle.bridge_terms.specs.WayBack.{IsBack, back_refused}
use Rattle.bridge_rules.specs.Sound.{IsSound}
use Rattle.bridge_terms.specs.PlanFacts.{EachRule, IsPlaced}
use Rattle.bridge_terms.specs.Blocks.{values_of, in_numbers, block_with, placed_values, block_of, group_places, HasLengths, HasEntries, AreSeparate, AreHeld, HoldsData, IsPlanOf, IsBackBlock}
use Rattle.bridge_rules.proofs.BoolLemmas.{or_left, or_right, same_self}
use Rattle.bridge_terms.proofs.Turning.{back_from, back_so, one_back}
use Rattle.bridge_terms.proofs.Refusing.{unrefused_read, read_unrefused}
use Rattle.bridge_terms.proofs.Arranging.{one_block}
use Rattle.bridge_terms.proofs.Filling.{Has, Apart, slot_has, block_has, at_first, at_behind, values_again}

long_numbers : {X : Type 0} (none : X) (n i : ℕ) (a : List (ℕ × X)) → length (in_numbers none n i a) ≡ n
long_numbers none zero i a = refl
long_numbers none (suc n) i a = ap suc (long_numbers none n (suc i) a)

has_lengths : (level : Level) (p : Plan) (t : Tree Value p) → HasLengths level (block_of level p t)
has_lengths level p t = record {
  fields = long_numbers value.Absent (length (out-Level level).fields) 0 (placed_values p t).fields;
  groups = long_numbers groupval.Absent (length (out-Level level).groups) 0 (placed_values p t).groups;
  parts = long_numbers dataval.Absent (length (out-Level level).parts) 0 (placed_values p t).parts;
}

each_turn : {X : Type 0} (P Q : X → Type 0) → ((x : X) → P x → Q x) → (xs : List X) → Each P xs → Each Q xs
each_turn P Q turn [] all = tt
each_turn P Q turn (x ∷ xs) all = (turn x all.0, each_turn P Q turn xs all.1)

each_mapped : {X Y : Type 0} (f : X → Y) (P : X → Type 0) (Q : Y → Type 0) → ((x : X) → P x → Q (f x)) → (xs : List X) → Each P xs → Each Q (map f xs)
each_mapped f P Q turn [] all = tt
each_mapped f P Q turn (x ∷ xs) all = (turn x all.0, each_mapped f P Q turn xs all.1)

pub held_all : (p : Plan) → HoldsData p → (t : Tree Value p) → AreGood p t → AreHeld p t
held_all done holds t good = tt
held_all (single s rest) holds t good = (holds.0 t.0 good.0, held_all rest holds.1 t.1 good.1)
held_all (group g inner rest) holds t good = (each_turn (λ e. AreGood inner e) (λ e. AreHeld inner e) (λ e h. held_all inner holds.0 e h) t.0 good.1, held_all rest holds.1 t.1 good.2)

has_entries : (p : Plan) (t : Tree Value p) (b : Block) → Apart p → AreSeparate p → AreHeld p t → Has p t b → HasEntries p b
has_entries done t b apart deep held has = tt
has_entries (single s rest) t b apart deep held has =
    let is = slot_has s rest t b s.place refl apart held.0 has in
    has_entries rest t.1 b is.1 deep held.1 is.2
has_entries (group g inner rest) t b apart deep held has =
    let made = λ (e : Tree Value inner). block_with g.level (placed_values inner e) in
    let entry = groupval.Entries (map made t.0) in
    let filled = placed_values rest t.1 in (
      (
        map made t.0,
        has.groups g.place (or_left (g.place == g.place) _ (same_self g.place)) ∙ at_first groupval.Absent g.place entry filled.groups,
        each_mapped made (λ e. AreHeld inner e) (λ e. HasLengths g.level e × HasEntries inner e)
            (λ e h. (has_lengths g.level inner e, has_entries inner e (made e) (deep.0.fields.0, deep.0.groups.0, deep.0.parts.0) deep.1 h (block_has g.level inner e deep.0))) t.0 held.0,
      ),
      has_entries rest t.1 b (apart.0, apart.1.1, apart.2) deep.2 held.1 (record {
        fields = has.fields;
        groups = λ i k. has.groups i (or_right (g.place == i) _ k) ∙ at_behind groupval.Absent g.place entry (group_places rest) filled.groups apart.1.0 i k;
        parts = has.parts;
      }),
    )

-- the block of values to which fields are translated
pub back_block : (level : Level) (p : Plan) → IsPlanOf level p → (fields : List Field) (t : Tree Value p) → IsBack p fields t → IsBackBlock level p fields (block_of level p t)
back_block level p plan fields t back =
    let held = held_all p plan.holds t back.good in
    let s = plan.separate in
    record {
      lengths = has_lengths level p t;
      entries = has_entries p t (block_of level p t) (s.fields.0, s.groups.0, s.parts.0) plan.all_separate held (block_has level p t s);
      back = subst (IsBack p fields) (sym (values_again level p t s plan.all_separate held)) back;
    }

pub some_block : (level : Level) (p : Plan) → IsPlanOf level p → IsPlaced p → EachRule IsSound p → (fields : List Field) → back_refused p fields ≡ None →
    (b : Block) × IsBackBlock level p fields b
some_block level p plan placed sound fields h =
    let is = unrefused_read p placed fields h in
    (block_of level p is.0, back_block level p plan fields is.0 (back_from p sound fields is.0 is.1))

pub block_unrefused : (level : Level) (p : Plan) → EachRule IsSound p → (fields : List Field) (b : Block) → IsBackBlock level p fields b → back_refused p fields ≡ None
block_unrefused level p sound fields b h = read_unrefused p fields (values_of p b) (back_so p sound fields (values_of p b) h.back)

pub one_back_block : (level : Level) (p : Plan) → IsPlanOf level p → EachRule IsSound p → (fields : List Field) (b c : Block) → IsBackBlock level p fields b → IsBackBlock level p fields c → b ≡ c
one_back_block level p plan sound fields b c h k =
    one_block level p b c plan.complete plan.all_complete h.lengths h.entries k.lengths k.entries (one_back p sound fields (values_of p b) (values_of p c) h.back k.back)
