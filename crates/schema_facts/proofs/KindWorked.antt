-- The definitions of order, computed on worked kinds.
use Rattle.std.proofs.Common.{◌≡◌, subst, ◌*◌, ◌≤◌, [], ◌∷◌, refl, arith}
use Rattle.schema_facts.specs.InOrder.{AreAccepted, IsLeafInOrder, IsKindInOrder}
use Rattle.std.specs.Prelude.{codes, pos, negsuc, Ok, None}
use Rattle.sbe_types.specs.Numbers.{prim_width}
use Rattle.sbe_types.specs.declared.limits.TheConstants.{PLACE_LIMIT}
use Rattle.sbe_types.specs.declared.kind.Primitive.TheVariants.{I8}
use Rattle.sbe_types.specs.declared.kind.Presence.TheVariants.{Optional}
use Rattle.sbe_types.specs.declared.kind.Leaf.{Leaf as LeafOf}
use Rattle.sbe_types.specs.declared.kind.Kind.{Leaf, Comp}
use Rattle.schema_rules.specs.Rows.Schemas.{leaf, uint16, int32}
use Rattle.schema_facts.specs.KindRows.{types, order_field, order_parts, number_twice, bit_above, name_twice}
use Rattle.schema_facts.proofs.KindLists.{made_members}
use Rattle.schema_facts.proofs.KindOrder.{field_in_order}
use Rattle.sbe_types.specs.InForm.{IsEnumInForm}
use Rattle.schema_rules.specs.Judging.{first_of}
use Rattle.schema_rules.specs.Facts.{fact_named}
use Rattle.schema_rules.specs.Kinds.{kind_named, field_kind}
use Rattle.schema_rules.specs.CompositeRules.{types_check}
use Rattle.schema_rules.specs.PartRules.{field_rules}
use Rattle.schema_rules.specs.Rows.Trees.{valid}

-- ---- one leaf

pub leaf_kind : (l : LeafOf) → IsLeafInOrder l → prim_width l.prim * l.length ≤ PLACE_LIMIT → IsKindInOrder (Leaf l)
leaf_kind l h small = record { parts = h; within = record { leaves = omega arith; height = omega arith; placed = tt; narrow = small; width = small } }

pub int8_is : IsKindInOrder (Leaf (leaf I8 Optional (pos 127) (negsuc 126) (pos 127)))
int8_is =
    leaf_kind (leaf I8 Optional (pos 127) (negsuc 126) (pos 127))
    (record { null = refl; low = refl; high = refl; range = refl; least = omega arith; most = omega arith; shape = refl; presence = refl }) (omega arith)

pub uint16_is : IsKindInOrder (Leaf uint16)
uint16_is = leaf_kind uint16 (record { null = refl; low = refl; high = refl; range = refl; least = omega arith; most = omega arith; shape = refl; presence = refl }) (omega arith)

pub int32_is : IsKindInOrder (Leaf int32)
int32_is = leaf_kind int32 (record { null = refl; low = refl; high = refl; range = refl; least = omega arith; most = omega arith; shape = refl; presence = refl }) (omega arith)

-- ---- types and the composite that they stand for

types_judge : types_check types [] types ≡ Ok tt
unfolding fact_named
types_judge = refl

pub field_passes : first_of (field_rules types 0 order_field) ≡ Ok tt
unfolding fact_named
field_passes = refl

pub kind_is : field_kind types order_field ≡ Comp order_parts
unfolding kind_named
kind_is = refl

side_form : IsEnumInForm (record { name = codes "Side"; encoding_type = codes "char"; offset = None; since_version = 0; children = valid (codes "Buy") (codes "1") ∷ (valid (codes "Sell") (codes "2") ∷ []) })
side_form =
    record {
      name = record { form = refl; short = omega arith };
      count = omega arith;
      values = (record { form = refl; short = omega arith }, (record { form = refl; short = omega arith }, tt));
      place = tt;
    }

pub types_are_accepted : AreAccepted types
types_are_accepted =
    record {
      judged = types_judge;
      form = (
        side_form,
        (
          record { name = record { form = refl; short = omega arith }; choices = (record { form = refl; short = omega arith }, (record { form = refl; short = omega arith }, tt)); place = tt },
          (
            record {
              name = record { form = refl; short = omega arith };
              count = omega arith;
              members = (
                record { name = record { form = refl; short = omega arith }; primitives = omega arith; place = tt },
                (record { name = record { form = refl; short = omega arith }; primitives = omega arith; place = tt }, tt),
              );
            },
            (
              record {
                name = record { form = refl; short = omega arith };
                count = omega arith;
                members = (
                  record { name = record { form = refl; short = omega arith }; place = tt },
                  (record { name = record { form = refl; short = omega arith }; place = tt }, (record { name = record { form = refl; short = omega arith }; place = omega arith }, tt)),
                );
              },
              tt,
            ),
          ),
        ),
      );
    }

pub order_is : IsKindInOrder (Comp order_parts)
order_is = subst IsKindInOrder kind_is (field_in_order types types_are_accepted 0 order_field field_passes)

-- ---- changes of it

pub number_twice_is_not : IsKindInOrder (Comp number_twice) → ⊥
number_twice_is_not h = (made_members 1 number_twice h.parts).kinds.0.listed.numbers_differ 0 1 (pos 0) (omega arith) (omega arith) refl

pub bit_above_is_not : IsKindInOrder (Comp bit_above) → ⊥
bit_above_is_not h = let bit = (made_members 1 bit_above h.parts).kinds.1.0.listed.numbers.1.0 in absurd (omega (arith, bit))

pub name_twice_is_not : IsKindInOrder (Comp name_twice) → ⊥
name_twice_is_not h = (made_members 1 name_twice h.parts).differ 0 2 [] (omega arith) (omega arith) refl
