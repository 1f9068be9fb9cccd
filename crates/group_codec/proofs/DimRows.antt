-- Dimensions by their rows.
use Rattle.std.proofs.Common.{◌≡◌, ◌≤◌, ◌<◌, ◌+◌, ◌-◌, ℕ, Bool, true, false, cond, List, length, take, drop, Option, Some, None, Result, Ok, Err, refl, sym, ap, ◌∙◌, subst, arith}
use Rattle.std.specs.Prelude.{nat_le, pos, codes}
use Rattle.std.specs.Option.{option_map, option_map_or, option_and_then, IsSome}
use Rattle.std.proofs.lemmas.Bool.{le-leb}
use Rattle.std.proofs.lemmas.Bool.Decides.{nat_tests}
use Rattle.sbe_types.specs.declared.kind.Order.{Order}
use Rattle.sbe_types.specs.declared.kind.Member.{Member}
use Rattle.sbe_types.specs.declared.schema.WireSchema.{WireSchema}
use Rattle.sbe_types.specs.Numbers.{number_of, natural, prim_width}
use Rattle.sbe_types.specs.Places.{members_end}
use Rattle.sbe_types.specs.Shown.{admits}
use Rattle.sbe_wire.specs.Named.{Spot, number_named, is_admitted}
use Rattle.schema_facts.specs.Levels.{Node}
use Rattle.schema_facts.specs.Measured.{IsCounter}
use Rattle.layout_tables.specs.declared.rows.DimRow.{DimRow}
use Rattle.layout_tables.specs.declared.rows.SpotRow.{SpotRow}
use Rattle.layout_tables.specs.declared.rows.LevelRow.{LevelRow}
use Rattle.layout_tables.specs.Heads.{number_at}
use Rattle.layout_tables.specs.Parts.{dim_at}
use Rattle.layout_tables.specs.Rowed.{as_spot, DimIs, DimOf, RowFor, SpotIs}
use Rattle.group_codec.specs.declared.dim.Dim.{Dim}
use Rattle.group_codec.specs.declared.dim.DimErr.{DimErr}
use Rattle.group_codec.specs.declared.dim.DimErr.TheVariants.{Truncated, Count}
use Rattle.group_codec.specs.Dims.{counted, dim_read, IsDimRow}

-- ---- numbers by their rows

pub named_is : (order : Order) (members : List Member) (name head : List ℕ) (row : SpotRow) → SpotIs members name row → number_named order members name head ≡ number_at order (as_spot row) head
named_is order members name head row h =
    ap (λ s. option_map_or (λ (s : Spot). natural (number_of order s.leaf.prim (take (prim_width s.leaf.prim) (drop s.place head)))) s 0) h.named

pub admitted_is : (members : List Member) (name : List ℕ) (n : ℕ) (row : SpotRow) → SpotIs members name row → is_admitted members name n ≡ admits row.leaf (pos n)
admitted_is members name n row h = ap (λ s. option_map_or (λ (s : Spot). admits s.leaf (pos n)) s false) h.named

-- ---- a dimension by its row

module _ (order : Order) (row : DimRow) (dim : List Member) (is : DimIs row dim) (bytes : List ℕ) (at : ℕ) where
  abbrev head : List ℕ
  head = take row.width (drop at bytes)

  pub too_short : length bytes - at < row.width → Err Truncated ≡ dim_read order dim bytes at
  too_short short =
      let wide = members_end 0 dim in
      let below : nat_le wide (length bytes - at) ≡ false = grind (arith, nat_tests, is.width) in
      sym (ap (λ t. cond t (counted order dim (take wide (drop at bytes)) (at + wide)) (Err Truncated)) below)

  fits : row.width ≤ length bytes - at → dim_read order dim bytes at ≡ counted order dim head (at + row.width)
  fits room =
      ap (λ wide. cond (nat_le wide (length bytes - at)) (counted order dim (take wide (drop at bytes)) (at + wide)) (Err Truncated)) (sym is.width)
      ∙ ap (λ t. cond t (counted order dim head (at + row.width)) (Err Truncated)) (le-leb row.width (length bytes - at) room)

  by_row : (count : ℕ) → count ≡ number_at order (as_spot row.count) head → (a : Bool) → a ≡ admits row.count.leaf (pos count) →
      counted order dim head (at + row.width) ≡ cond a (Ok (record { block = number_at order (as_spot row.block) head; count = count; after = at + row.width })) (Err (Count count))
  by_row count counts a admitted =
      let number = number_named order dim (codes "numInGroup") head in
      let block = number_named order dim (codes "blockLength") head in
      let same : number ≡ count = named_is order dim (codes "numInGroup") head row.count is.count ∙ sym counts in
      let judged : is_admitted dim (codes "numInGroup") count ≡ a = admitted_is dim (codes "numInGroup") count row.count is.count ∙ sym admitted in
      ap (λ n. cond (is_admitted dim (codes "numInGroup") n) (Ok (record { block = block; count = n; after = at + row.width })) (Err (Count n))) same
      ∙ ap (λ t. cond t (Ok (record { block = block; count = count; after = at + row.width })) (Err (Count count))) judged
      ∙ ap (λ k. cond a (Ok (record { block = k; count = count; after = at + row.width })) (Err (Count count))) (named_is order dim (codes "blockLength") head row.block is.block)

  pub refused : (count : ℕ) → row.width ≤ length bytes - at → count ≡ number_at order (as_spot row.count) head → false ≡ admits row.count.leaf (pos count) → Err (Count count) ≡ dim_read order dim bytes at
  refused count room counts out = sym (fits room ∙ by_row count counts false out)

  pub admitted : (block count : ℕ) → row.width ≤ length bytes - at → block ≡ number_at order (as_spot row.block) head → count ≡ number_at order (as_spot row.count) head → true ≡ admits row.count.leaf (pos count) →
      Ok (record { block = block; count = count; after = at + row.width }) ≡ dim_read order dim bytes at
  admitted block count room blocks counts yes_it_is =
      ap (λ k. Ok (record { block = k; count = count; after = at + row.width })) blocks ∙ sym (fits room ∙ by_row count counts true yes_it_is)

-- ---- the row of a level

pub row_in : (row : DimRow) (dim : List Member) → DimIs row dim → IsDimRow row
row_in row dim h = record {
  block = subst (λ n. IsCounter n (as_spot row.block)) (sym h.width) h.block.counts;
  count = subst (λ n. IsCounter n (as_spot row.count)) (sym h.width) h.count.counts;
}

dim_of : (r : Option DimRow) (o : Option (List Member)) (row : DimRow) → DimOf r o → r ≡ Some row → (dim : List Member) × (o ≡ Some dim) × DimIs row dim
dim_of None None row h e = cc
dim_of None (Some dim) row h e = absurd h
dim_of (Some r) None row h e = absurd h
dim_of (Some r) (Some dim) row h e = let same : r ≡ row = cc in (dim, refl, subst (λ r. DimIs r dim) same h)

pub row_dim : (schema : WireSchema) (n : ℕ) (level : LevelRow) (row : DimRow) → RowFor schema n level → level.dim ≡ Some row → (dim : List Member) × (dim_at schema n ≡ Some dim) × DimIs row dim
row_dim schema n level row for is =
    let found = dim_of level.dim for.0.dim row for.2.dim is in
    (found.0, ap (λ (o : Option Node). option_and_then (λ (x : Node). x.dim) o) for.1 ∙ found.1, found.2)

pub row_there : (schema : WireSchema) (n : ℕ) (level : LevelRow) (row : DimRow) → RowFor schema n level → level.dim ≡ Some row → IsDimRow row
row_there schema n level row for is = let found = row_dim schema n level row for is in row_in row found.0 found.2

pub level_told : (schema : WireSchema) (n : ℕ) (level : LevelRow) (row : DimRow) (bytes : List ℕ) (at : ℕ) (result : Result Dim DimErr) → RowFor schema n level → level.dim ≡ Some row →
    ((dim : List Member) → DimIs row dim → result ≡ dim_read schema.order dim bytes at) → option_map (λ dim. dim_read schema.order dim bytes at) (dim_at schema n) ≡ Some result
level_told schema n level row bytes at result for is told =
    let found = row_dim schema n level row for is in
    ap (option_map (λ dim. dim_read schema.order dim bytes at)) found.1 ∙ ap Some (sym (told found.0 found.2))

none_of : (r : Option DimRow) (o : Option (List Member)) → DimOf r o → r ≡ None → o ≡ None
none_of None None h e = refl
none_of None (Some dim) h e = absurd h
none_of (Some r) o h e = cc

-- a group has a dimension
pub never_none : (schema : WireSchema) (n : ℕ) (level : LevelRow) → RowFor schema n level → level.dim ≡ None → IsSome (dim_at schema n) → ⊥
never_none schema n level for is some =
    empty (subst (λ (o : Option (List Member)). IsSome o) (ap (λ (o : Option Node). option_and_then (λ (x : Node). x.dim) o) for.1 ∙ none_of level.dim for.0.dim for.2.dim is) some)
  where
    empty : IsSome {T = List Member} None → ⊥
    empty h = cc
