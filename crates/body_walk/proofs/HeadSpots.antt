-- The numbers of a header, by its row.
use Rattle.std.proofs.Common.{◌≡◌, ◌≤◌, ℕ, List, take, drop, sym, ap, ◌∙◌, arith}
use Rattle.std.specs.Option.{option_map_or}
use Rattle.sbe_types.specs.declared.kind.Member.{Member}
use Rattle.sbe_types.specs.declared.kind.Order.{Order}
use Rattle.sbe_types.specs.declared.kind.Primitive.{Primitive}
use Rattle.sbe_types.specs.declared.schema.WireSchema.{WireSchema}
use Rattle.sbe_types.specs.Numbers.{number_of, natural, prim_width}
use Rattle.sbe_types.specs.Places.{members_end}
use Rattle.sbe_wire.specs.Named.{Spot, number_named}
use Rattle.layout_tables.specs.declared.rows.HeaderRow.{HeaderRow}
use Rattle.layout_tables.specs.declared.rows.SpotRow.{SpotRow}
use Rattle.layout_tables.specs.Heads.{number_at}
use Rattle.layout_tables.specs.Rowed.{as_spot, HeaderIs, IsTwoBytes, IsUsual, SpotIs}
use Rattle.body_walk.specs.declared.head_numbers.HeadNumbers.{HeadNumbers}
use Rattle.body_walk.specs.inner.HeadNumbers.{two_bytes, AreNumbersIn, AreTwoBytes}

-- a number that was read at the spot of its row
pub at_spot : (order : Order) (members : List Member) (name head : List ℕ) (row : SpotRow) (k : ℕ) → SpotIs members name row → k ≡ number_at order (as_spot row) head → k ≡ number_named order members name head
at_spot order members name head row k is h = h ∙ sym (ap (λ o. option_map_or (λ (s : Spot). number_at order s head) o 0) is.named)

two_at : (order : Order) (members : List Member) (name head : List ℕ) (row : SpotRow) (place k : ℕ) → SpotIs members name row → IsTwoBytes place row → k ≡ two_bytes order place head →
    k ≡ number_named order members name head
two_at order members name head row place k is two h =
    let spot : k ≡ number_at order (as_spot row) head =
    h ∙ sym (ap (λ n. two_bytes order n head) two.place_is) ∙ sym (ap (λ (p : Primitive). natural (number_of order p (take (prim_width p) (drop row.place head)))) two.prim_is) in
    at_spot order members name head row k is spot

-- the header has room for four numbers of two bytes
pub usual_wide : (members : List Member) (row : HeaderRow) → HeaderIs row members → IsUsual row → 8 ≤ members_end 0 members
usual_wide members row is usual = omega (arith, is.version.counts.inside, usual.version.place_is, ap prim_width usual.version.prim_is)

pub usual_are : (schema : WireSchema) (row : HeaderRow) (head : List ℕ) (n : HeadNumbers) → HeaderIs row schema.header.members → IsUsual row → AreTwoBytes schema.order head n → AreNumbersIn schema head n
usual_are schema row head n is usual two =
    let members = schema.header.members in
    record {
      block_is = two_at schema.order members _ head row.block 0 n.block is.block usual.block two.block_is;
      template_is = two_at schema.order members _ head row.template 2 n.template is.template usual.template two.template_is;
      schema_is = two_at schema.order members _ head row.schema 4 n.schema is.schema usual.schema two.schema_is;
      version_is = two_at schema.order members _ head row.version 6 n.version is.version usual.version two.version_is;
    }
