-- The first misfit of a message, step by step.
use Rattle.std.proofs.Common.{◌≡◌, ◌≤◌, ◌+◌, ℕ, zero, suc, Bool, true, false, List, [], ◌∷◌, ◌++◌, length, Option, Some, None, Ok, Err, refl, sym, ap, ◌∙◌, subst, arith}
use Rattle.std.specs.Prelude.{◌==◌, slice_get}
use Rattle.std.specs.List.{AllByRecursion}
use Rattle.std.proofs.lemmas.Bool.Decides.{Decides-eqb}
use Rattle.sbe_types.specs.declared.kind.Member.{Member}
use Rattle.sbe_types.specs.declared.message.Block.{Block, out-Block}
use Rattle.sbe_types.specs.declared.message.Msg.{Msg}
use Rattle.sbe_types.specs.declared.schema.Group.{Group, Group'}
use Rattle.sbe_types.specs.declared.schema.Level.{Level, Level', out-Level, Row_of-Group, end_of-Group, more_of-Group}
use Rattle.sbe_types.specs.declared.schema.WireSchema.{WireSchema}
use Rattle.sbe_types.specs.Places.{members_end}
use Rattle.sbe_wire.specs.Misfit.{Misfit, Taken, ◌then◌, or_else, unless, bad_shape, block_shape, block_taken, tail_taken, root_taken, root_misfit, misfit, refusal_of}
use Rattle.schema_rules.specs.PartRules.{most_groups}
use Rattle.schema_facts.specs.CheckedLevels.{groups_deep, HasFewParts}
use Rattle.schema_facts.specs.Levels.{Node, nodes, nodes_below, nodes_of, nodes_from}
use Rattle.var_data.proofs.DataRows.{at_each}
use Rattle.body_walk.specs.inner.Ready.{IsReadySchema}
use Rattle.tree_codec.specs.Shapes.{Throughout, ThroughoutRow, ThroughoutGroup}

-- ---- the whole message

pub unknown : (schema : WireSchema) (m : Msg) (limit : ℕ) → length schema.messages ≤ m.template → misfit schema m limit ≡ bad_shape
unfolding misfit
unknown schema m limit h = ap (root_misfit schema m limit) (none_at schema.messages m.template h)
  where
    none_at : (ls : List Level) (i : ℕ) → length ls ≤ i → slice_get ls i ≡ None
    none_at [] i h = refl
    none_at (l ∷ ls) zero h = absurd (omega (arith, h))
    none_at (l ∷ ls) (suc i) h = none_at ls i (omega (arith, h))

module _ (schema : WireSchema) (m : Msg) (limit : ℕ) (level : Level) (there : slice_get schema.messages m.template ≡ Some level) where
  pub misfit_is : misfit schema m limit ≡ or_else (unless (m.version == schema.version) bad_shape) (or_else (block_shape level m.block) (refusal_of (root_taken schema limit level m.block)))
  unfolding misfit
  misfit_is = ap (root_misfit schema m limit) there

  other_version : (t : Bool) → (m.version == schema.version) ≡ t → (m.version ≡ schema.version → ⊥) → t ≡ false
  other_version true e h = absurd (h ((Decides-eqb m.version schema.version).0 e))
  other_version false e h = refl

  pub of_other_version : (m.version ≡ schema.version → ⊥) → misfit schema m limit ≡ bad_shape
  of_other_version h =
      misfit_is ∙ ap (λ t. or_else (unless t bad_shape) (or_else (block_shape level m.block) (refusal_of (root_taken schema limit level m.block)))) (other_version (m.version == schema.version) refl h)

  own_version : m.version ≡ schema.version → misfit schema m limit ≡ or_else (block_shape level m.block) (refusal_of (root_taken schema limit level m.block))
  own_version h =
      misfit_is ∙ ap (λ t. or_else (unless t bad_shape) (or_else (block_shape level m.block) (refusal_of (root_taken schema limit level m.block)))) ((Decides-eqb m.version schema.version).1 h)

  pub of_other_shape : (x : Misfit) → m.version ≡ schema.version → Some x ≡ block_shape level m.block → misfit schema m limit ≡ Some x
  of_other_shape x h is = own_version h ∙ ap (λ o. or_else o (refusal_of (root_taken schema limit level m.block))) (sym is)

  pub of_parts : (t : Taken) → m.version ≡ schema.version → None ≡ block_shape level m.block → t ≡ root_taken schema limit level m.block → misfit schema m limit ≡ refusal_of t
  of_parts t h is taken = own_version h ∙ ap (λ o. or_else o (refusal_of (root_taken schema limit level m.block))) (sym is) ∙ ap refusal_of (sym taken)

-- ---- the root

pub root_went : (schema : WireSchema) (limit size after : ℕ) (level : Level) (block : Block) → size ≡ members_end 0 schema.header.members + (out-Level level).block_length
    → Ok after ≡ block_taken limit 0 size (out-Level level).fields (out-Block block).fields → tail_taken limit after level block ≡ root_taken schema limit level block
root_went schema limit size after level block wide h =
    ap (λ (t : Taken). t then (λ n. tail_taken limit n level block)) (h ∙ ap (λ n. block_taken limit 0 n (out-Level level).fields (out-Block block).fields) wide)

pub root_stopped : (schema : WireSchema) (limit size : ℕ) (level : Level) (block : Block) (x : Misfit) → size ≡ members_end 0 schema.header.members + (out-Level level).block_length
    → Err x ≡ block_taken limit 0 size (out-Level level).fields (out-Block block).fields → ◌≡◌ {A = Taken} (Err x) (root_taken schema limit level block)
root_stopped schema limit size level block x wide h =
    ap (λ (t : Taken). t then (λ n. tail_taken limit n level block)) (h ∙ ap (λ n. block_taken limit 0 n (out-Level level).fields (out-Block block).fields) wide)

-- ---- facts of a root

front : {X : Type 0} (P : X → Type 0) (a b : List X) → AllByRecursion P (a ++ b) → AllByRecursion P a
front P [] b h = tt
front P (x ∷ a) b h = (h.0, front P a b h.1)

back : {X : Type 0} (P : X → Type 0) (a b : List X) → AllByRecursion P (a ++ b) → AllByRecursion P b
back P [] b h = h
back P (x ∷ a) b h = back P a b h.1

abbrev AtNode : (Level → Type 0) → Node → Type 0
AtNode P node = P node.level

module _ (P : Level → Type 0) where
  mutual
    unfolding nodes nodes_below nodes_of

    of_nodes : (t : ℕ) (dim : Option (List Member)) (level : Level) → AllByRecursion (AtNode P) (nodes t dim level) → Throughout P level
    of_nodes t dim (Level' name id semantic since block_length fields n groups parts) h = (h.0, of_below t groups h.1)

    of_below : (t : ℕ) {n : _} (row : Row_of-Group n) → AllByRecursion (AtNode P) (nodes_below t row) → ThroughoutRow P row
    of_below t end_of-Group h = tt
    of_below t (more_of-Group g rest) h = (of_group t g (front (AtNode P) (nodes_of t g) (nodes_below t rest) h), of_below t rest (back (AtNode P) (nodes_of t g) (nodes_below t rest) h))

    of_group : (t : ℕ) (g : Group) → AllByRecursion (AtNode P) (nodes_of t g) → ThroughoutGroup P g
    of_group t (Group' dim level) h = of_nodes t (Some dim) level h

  of_roots : (t : ℕ) (roots : List Level) (i : ℕ) (level : Level) → AllByRecursion (AtNode P) (nodes_from t roots) → slice_get roots i ≡ Some level → Throughout P level
  of_roots t [] i level h is = absurd cc
  of_roots t (root ∷ roots) zero level h is = subst (Throughout P) (some_is is) (of_nodes t None root (front (AtNode P) (nodes t None root) (nodes_from (suc t) roots) h))
    where
      some_is : {A : Type 0} {x y : A} → ◌≡◌ {A = Option A} (Some x) (Some y) → x ≡ y
      some_is h = cc
  of_roots t (root ∷ roots) (suc i) level h is = of_roots (suc t) roots i level (back (AtNode P) (nodes t None root) (nodes_from (suc t) roots) h) is

pub root_few : (schema : WireSchema) (i : ℕ) (level : Level) → IsReadySchema schema → slice_get schema.messages i ≡ Some level → Throughout HasFewParts level
root_few schema i level h is = of_roots HasFewParts 0 schema.messages i level h.checked.counts is

pub root_shallow : (schema : WireSchema) (i : ℕ) (level : Level) → IsReadySchema schema → slice_get schema.messages i ≡ Some level → groups_deep level ≤ most_groups
root_shallow schema i level h is = at_each (λ (l : Level). groups_deep l ≤ most_groups) schema.messages i level h.checked.nesting is
