-- Ways by their first step.
use Rattle.std.proofs.Common.{◌≡◌, ℕ, List, [], ◌∷◌, ◌++◌, drop, Option, Some, None, refl, ap}
use Rattle.std.specs.Prelude.{codes}
use Rattle.sbe_types.specs.declared.schema.Level.{Level}
use Rattle.layout_tables.specs.Paths.{bracketed}
use Rattle.bridge_terms.specs.Places.{Way, to_part, to_entry}
use Rattle.bridge_terms.specs.Plans.{Plan}
use Rattle.way_texts.specs.WayTexts.{entry_text, first_entry, first_part, inside_text, part_text, way_text}

some_is : {A : Type 0} {x y : A} → ◌≡◌ {A = Option A} (Some x) (Some y) → x ≡ y
some_is h = cc

pub in_part : (more : ℕ → List Way → List ℕ) (way : List Way) (tag : ℕ) → first_part way ≡ Some tag → inside_text more way ≡ codes "." ++ more tag (drop 1 way)
in_part more [] tag is = absurd cc
in_part more (to_part t ∷ way) tag is = ap (λ u. codes "." ++ more u way) (some_is is)
in_part more (to_entry i ∷ way) tag is = absurd cc

pub in_no_part : (more : ℕ → List Way → List ℕ) (way : List Way) → first_part way ≡ None → inside_text more way ≡ []
in_no_part more [] is = refl
in_no_part more (to_part t ∷ way) is = absurd cc
in_no_part more (to_entry i ∷ way) is = refl

pub in_entry : (more : List Way → List ℕ) (way : List Way) (i : ℕ) → first_entry way ≡ Some i → entry_text more way ≡ bracketed i ++ more (drop 1 way)
in_entry more [] i is = absurd cc
in_entry more (to_part t ∷ way) i is = absurd cc
in_entry more (to_entry j ∷ way) i is = ap (λ k. bracketed k ++ more way) (some_is is)

pub in_no_entry : (more : List Way → List ℕ) (way : List Way) → first_entry way ≡ None → entry_text more way ≡ []
in_no_entry more [] is = refl
in_no_entry more (to_part t ∷ way) is = refl
in_no_entry more (to_entry j ∷ way) is = absurd cc

pub to_root : (p : Plan) (level : Level) (way : List Way) (tag : ℕ) → first_part way ≡ Some tag → way_text p level way ≡ part_text p level tag (drop 1 way)
to_root p level [] tag is = absurd cc
to_root p level (to_part t ∷ way) tag is = ap (λ u. part_text p level u way) (some_is is)
to_root p level (to_entry i ∷ way) tag is = absurd cc

pub to_none : (p : Plan) (level : Level) (way : List Way) → first_part way ≡ None → way_text p level way ≡ []
to_none p level [] is = refl
to_none p level (to_part t ∷ way) is = absurd cc
to_none p level (to_entry i ∷ way) is = refl
