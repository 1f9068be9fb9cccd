-- A declared type that a name stands for has passed the rules and is in form; a plain one is one of the words for primitives.
use Rattle.std.proofs.Common.{◌≡◌, ℕ, zero, suc, Bool, true, false, List, [], ◌∷◌, ◌++◌, map, Option, Some, None, refl, subst}
use Rattle.std.specs.Prelude.{codes, Ok, find, slice_get, option_and_then, if◌then◌else◌}
use Rattle.std.specs.Option.{option_or}
use Rattle.std.specs.List.{AllByRecursion}
use Rattle.std.specs.Str.{bytes_eq}
use Rattle.sbe_types.specs.InForm.{IsDeclaredInForm}
use Rattle.sbe_types.specs.declared.tree.PrimitiveType.{PrimitiveType}
use Rattle.sbe_types.specs.declared.tree.TypesItem.{TypesItem}
use Rattle.sbe_types.specs.declared.tree.TypesItem.TheVariants as item
use Rattle.schema_rules.specs.declared.codes.CCode.TheVariants as rule
use Rattle.schema_rules.specs.Judging.{first_of, at_element}
use Rattle.schema_rules.specs.Names.{name_of, is_among, place_of, declared_as, plain_type, plain_named, type_named, primitive_words}
use Rattle.schema_rules.specs.CompositeRules.{item_check, declared_check, types_check}
use Rattle.schema_facts.specs.InOrder.{AreAccepted}
use Rattle.schema_facts.proofs.KindPassed.{then_ok, behind_ok}

-- a type that has passed them
pub record Good (types : List TypesItem) (t : TypesItem) : Type 0 where
  pub judged : item_check types t ≡ Ok tt
  pub form : IsDeclaredInForm t

-- ---- the type at a place

pub all_at : {X : Type 0} (P : X → Type 0) (xs : List X) (i : ℕ) (x : X) → AllByRecursion P xs → slice_get xs i ≡ Some x → P x
all_at P [] i x h found = cc
all_at P (y ∷ xs) zero x h found = let same : y ≡ x = cc in subst P same h.0
all_at P (y ∷ xs) (suc i) x h found = all_at P xs i x h.1 found

each_judged : (types : List TypesItem) (earlier : List (List ℕ)) (ts : List TypesItem) → types_check types earlier ts ≡ Ok tt →
    AllByRecursion (λ (t : TypesItem). item_check types t ≡ Ok tt) ts
each_judged types earlier [] h = tt
each_judged types earlier (t ∷ ts) h =
    let first = then_ok (at_element (codes "types/") (name_of t) (declared_check types earlier t)) _ tt h in
    let judged = behind_ok (codes "types/") (name_of t) (declared_check types earlier t) tt first.1 in
    let own = then_ok (first_of ((rule.DuplicateType, is_among earlier (name_of t)) ∷ [])) _ tt judged in
    (own.2, each_judged types (earlier ++ name_of t ∷ []) ts first.2)

pub then_some : {A B : Type 0} (f : A → Option B) (o : Option A) (y : B) → option_and_then f o ≡ Some y → (x : A) × (o ≡ Some x) × (f x ≡ Some y)
then_some f None y h = cc
then_some f (Some x) y h = (x, refl, h)

-- the place of the type that a name stands for
pub declared_place : (types : List TypesItem) (name : List ℕ) (t : TypesItem) → declared_as types name ≡ Some t → (i : ℕ) × (slice_get types i ≡ Some t)
declared_place types name t h = let found = then_some (slice_get types) (place_of name types) t h in (found.0, found.2)

pub good_at : (types : List TypesItem) → AreAccepted types → (i : ℕ) (t : TypesItem) → slice_get types i ≡ Some t → Good types t
good_at types accepted i t found =
    record {
      judged = all_at (λ (t : TypesItem). item_check types t ≡ Ok tt) types i t (each_judged types [] types accepted.judged) found;
      form = all_at IsDeclaredInForm types i t accepted.form found;
    }

pub declared_good : (types : List TypesItem) → AreAccepted types → (name : List ℕ) (t : TypesItem) → declared_as types name ≡ Some t → Good types t
declared_good types accepted name t h = let place = declared_place types name t h in good_at types accepted place.0 t place.1

-- ---- what a name stands for, by cases: nothing, the type of a word for a primitive, or a declared type

abbrev plain_item : List ℕ × PrimitiveType → TypesItem
plain_item w = item.Type (plain_type w.0 w.1)

plain_or : (P : Option TypesItem → Type 0) (b : Bool) (w : List ℕ × PrimitiveType) (o : Option TypesItem) → P (Some (plain_item w)) → P o → P (if b then Some (plain_item w) else o)
plain_or P true w o here later = here
plain_or P false w o here later = later

module _ (P : Option TypesItem → Type 0) (none : P None) (plain : (word : List ℕ) (primitive : PrimitiveType) → P (Some (item.Type (plain_type word primitive)))) where
  plain_among : (ws : List (List ℕ × PrimitiveType)) (name : List ℕ) → P (find (λ t. bytes_eq name (name_of t)) (map plain_item ws))
  plain_among [] name = none
  plain_among (w ∷ ws) name = plain_or P (bytes_eq name w.0) w (find (λ t. bytes_eq name (name_of t)) (map plain_item ws)) (plain w.0 w.1) (plain_among ws name)

  pub plain_by : (name : List ℕ) → P (plain_named name)
  plain_by name = plain_among primitive_words name

  named_or : (types : List TypesItem) (name : List ℕ) (o : Option TypesItem) → declared_as types name ≡ o →
      ((t : TypesItem) → declared_as types name ≡ Some t → P (Some t)) → P (option_or o (plain_named name))
  named_or types name None found declared = plain_by name
  named_or types name (Some t) found declared = declared t found

  pub named_by : (types : List TypesItem) (name : List ℕ) → ((t : TypesItem) → declared_as types name ≡ Some t → P (Some t)) → P (type_named types name)
  named_by types name declared = named_or types name (declared_as types name) refl declared
