-- The entries of a run, one after another.
use Rattle.std.proofs.Common.{◌≡◌, ◌≤◌, ℕ, suc, List, [], ◌∷◌, ◌++◌, length, map, Option, Some, None, refl, sym, ap, ◌∙◌, subst, arith}
use Rattle.sbe_types.specs.declared.message.Block.{Block}
use Rattle.sbe_types.specs.declared.message.Value.{Value}
use Rattle.sbe_types.specs.declared.schema.Level.{Level}
use Rattle.tagvalue_codec.specs.Fields.{Field}
use Rattle.bridge_rules.proofs.OptionLemmas.{some_is}
use Rattle.bridge_terms.specs.Blocks.{values_of, AreHeld, HasEntries, HasLengths}
use Rattle.bridge_terms.specs.Gathering.{each, values_of_fields}
use Rattle.bridge_terms.specs.Parts.{pieces_of}
use Rattle.bridge_terms.specs.Plans.{Each, Plan, Tree}
use Rattle.bridge_terms.proofs.AnswerLemmas.{in_front_is}
use Rattle.field_judge.specs.declared.field.AppField.{AppField}
use Rattle.field_judge.specs.Fields.{fields_of}
use Rattle.field_blocks.specs.Blocks.{AreEntries, IsBlockOf}

-- the entries so far are the first of these, and the pieces that are left are the others
pub record AreSoFar (level : Level) (inner : Plan) (es : List (Tree Value inner)) (entries : List Block) (pieces : List (List Field)) : Type 0 where
  pub gone : List (Tree Value inner)
  pub left : List (Tree Value inner)
  pub joined : gone ++ left ≡ es
  pub are : AreEntries level inner gone entries
  pub rest : each (values_of_fields inner) pieces ≡ Some left
  pub held : Each (λ e. AreHeld inner e) left

pub none_yet : (level : Level) (inner : Plan) (es : List (Tree Value inner)) (pieces : List (List Field)) → Each (λ e. AreHeld inner e) es
    → each (values_of_fields inner) pieces ≡ Some es → AreSoFar level inner es [] pieces
none_yet level inner es pieces held is = record { gone = []; left = es; joined = refl; are = record { fit = tt; values = refl }; rest = is; held = held }

each_more : {X : Type 0} (P : X → Type 0) (xs : List X) (x : X) → Each P xs → P x → Each P (xs ++ x ∷ [])
each_more P [] x all one = (one, tt)
each_more P (y ∷ ys) x all one = (all.0, each_more P ys x all.1 one)

mapped_more : {X Y : Type 0} (f : X → Y) (xs : List X) (x : X) → map f (xs ++ x ∷ []) ≡ map f xs ++ f x ∷ []
mapped_more f [] x = refl
mapped_more f (y ∷ ys) x = ap (λ zs. f y ∷ zs) (mapped_more f ys x)

joined : {X : Type 0} (xs : List X) (x : X) (ys : List X) → (xs ++ x ∷ []) ++ ys ≡ xs ++ x ∷ ys
joined [] x ys = refl
joined (z ∷ zs) x ys = ap (λ ws. z ∷ ws) (joined zs x ys)

-- one entry more
pub one_more : (level : Level) (inner : Plan) (es : List (Tree Value inner)) (entries : List Block) (piece : List Field) (pieces : List (List Field)) (block : Block)
    → AreSoFar level inner es entries (piece ∷ pieces) → ((t : Tree Value inner) → AreHeld inner t → values_of_fields inner piece ≡ Some t → IsBlockOf level inner t block)
    → AreSoFar level inner es (entries ++ block ∷ []) pieces
one_more level inner es entries piece pieces block so_far built =
    let first = in_front_is (values_of_fields inner piece) (each (values_of_fields inner) pieces) so_far.left so_far.rest in
    let held = subst (Each (λ e. AreHeld inner e)) first.4 so_far.held in
    let own = built first.0 held.0 first.2 in
    record {
      gone = so_far.gone ++ first.0 ∷ [];
      left = first.1;
      joined = joined so_far.gone first.0 first.1 ∙ ap (λ xs. so_far.gone ++ xs) (sym first.4) ∙ so_far.joined;
      are = record {
        fit = each_more (λ e. HasLengths level e × HasEntries inner e) entries block so_far.are.fit (own.lengths, own.entries);
        values = mapped_more (λ e. values_of inner e) entries block ∙ ap (λ v. map (λ e. values_of inner e) entries ++ v ∷ []) own.values ∙ ap (λ vs. vs ++ first.0 ∷ []) so_far.are.values;
      };
      rest = first.3;
      held = held.1;
    }

-- all entries
pub none_left : (level : Level) (inner : Plan) (es : List (Tree Value inner)) (entries : List Block) (pieces : List (List Field)) → pieces ≡ [] → AreSoFar level inner es entries pieces
    → AreEntries level inner es entries
none_left level inner es entries pieces none so_far =
    let empty : so_far.left ≡ [] = sym (some_is (sym (ap (each (values_of_fields inner)) none) ∙ so_far.rest)) in
    subst (λ ts. AreEntries level inner ts entries) (sym (nothing_added so_far.gone) ∙ ap (λ ts. so_far.gone ++ ts) (sym empty) ∙ so_far.joined) so_far.are
  where
    nothing_added : {X : Type 0} (xs : List X) → xs ++ [] ≡ xs
    nothing_added [] = refl
    nothing_added (x ∷ xs) = ap (λ ys. x ∷ ys) (nothing_added xs)

-- no fields have no pieces
pub none_cut : (d : ℕ) (left : List AppField) → length left ≤ 0 → (pieces_of d (fields_of left)).pieces ≡ []
none_cut d [] none = refl
none_cut d (x ∷ xs) none = absurd (some none)
  where
    some : suc (length xs) ≤ 0 → ⊥
    some k = omega (arith, k)
