-- The canonical body of a message, under the header of a template that is the same in another version.
use Rattle.std.proofs.Common.{◌≡◌, ◌<◌, ◌-◌, ℕ, List, ◌++◌, length, take, drop, get_or, Option, Some, None, Result, Ok, Err, refl, sym, ap, ◌∙◌, subst, arith}
use Rattle.std.specs.Prelude.{nat_le, slice_get}
use Rattle.std.specs.Prelude.{IfOk, IfSome}
use Rattle.std.specs.List.{All}
use Rattle.std.specs.Option.{option_and_then, option_map}
use Rattle.std.proofs.lemmas.List.{take_rest}
use Rattle.std.proofs.lemmas.List.Elements.{All-get_or}
use Rattle.std.proofs.Math.Seq.{take-append_seam, drop-append_seam}
use Rattle.byte_digits.specs.Digits.{IsBytes}
use Rattle.lists.specs.declared.list.NoMem.{NoMem}
use Rattle.sbe_types.specs.declared.schema.Level.{Level, out-Level}
use Rattle.sbe_types.specs.declared.schema.WireSchema.{WireSchema}
use Rattle.sbe_types.specs.declared.message.Block.{Block, out-Block}
use Rattle.sbe_types.specs.declared.message.Msg.{Msg}
use Rattle.sbe_types.specs.Places.{members_end}
use Rattle.sbe_types.specs.Wire.{both}
use Rattle.sbe_wire.specs.Canonical.{named_bytes, header_numbers, block_bytes, tail_bytes, canonical}
use Rattle.sbe_wire.specs.Faults.{message_named}
use Rattle.sbe_wire.specs.Fits.{BlockFits, Fits}
use Rattle.sbe_wire.specs.Lays.{Lays}
use Rattle.sbe_wire.proofs.Messages.{named_is}
use Rattle.schema_facts.specs.IsChecked.{IsChecked}
use Rattle.writing_laws.proofs.MessageBack.{lies_fits}
use Rattle.writing_laws.proofs.MessageWritten.{canonical_is}
use Rattle.writing_laws.proofs.NamesWritten.{names_written}
use Rattle.writing_laws.proofs.Numerals.{some_is}
use Rattle.writing_laws.proofs.Refusals.{both_some}
use Rattle.writable_schemas.proofs.CheckedSchemas.{schema_writable}
use Rattle.typed_writer.specs.Steps.{header_in}
use Rattle.version_laws.specs.Projected.{projected, projected_from, lifted, lifted_from, with_block, projected_block, lifted_block}
use Rattle.version_laws.proofs.BlockMoves.{by_bool}
use Rattle.regrade_laws.specs.Filled.{filled_block}
use Rattle.regrade_laws.specs.Regraded.{in_version, filled_by, filled_in, moved, regraded}
use Rattle.regrade_laws.specs.Counts.{dropped, dropped_at, filled, filled_of, filled_at}
use Rattle.regrade_laws.proofs.Back.{back_block}
use Rattle.regrade_laws.proofs.Effective.{IsEffective}
use Rattle.regrade_laws.proofs.Filling.{choice_yes, choice_not}
use Rattle.regrade_laws.proofs.Same.{own_block, same_block, whole_block}
use Rattle.regrade_laws.proofs.Wholly.{checked_wholly}
use Rattle.clean_bodies.specs.Bodies.{IsCanonicalOf}
use Rattle.version_copies.specs.declared.twins.Twin.{Twin}
use Rattle.version_copies.specs.Copies.{IsSame, HasHeader, IsTwin, IsCopied}
use Rattle.version_copies.proofs.Untouched.{none_filled, none_dropped}

-- what follows the front of some bytes
left_over : (a b whole : List ℕ) (n : ℕ) → length a ≡ n → a ++ b ≡ whole → b ≡ drop n whole
left_over a b whole n long is = sym (ap (λ k. drop k (a ++ b)) (sym long) ∙ drop-append_seam a b) ∙ ap (drop n) is

module _ (from to : WireSchema) (checked : IsChecked from) (good : IsChecked to) (template place : ℕ) (same : IsSame from to template place)
    (m : Msg) (here : m.template ≡ template) (own : m.version ≡ from.version) (body : List ℕ) (bytes : IsBytes body) (lies : Lays from m body) where
  abbrev level : Level
  level = same.level

  at : slice_get from.messages m.template ≡ Some level
  at = ap (slice_get from.messages) here ∙ same.at

  there : slice_get to.messages place ≡ Some level
  there = named_is to (out-Level level).id (place, level) same.named

  block_fits : BlockFits from.order level m.block
  block_fits =
      let fits = lies_fits from checked.placed (schema_writable from checked) m body bytes own lies in
      subst (λ l. BlockFits from.order l m.block) (some_is (sym fits.1 ∙ at)) fits.3

  -- the message in the other version
  abbrev n : Msg
  n = record { template = place; version = to.version; block = m.block }

  fits_there : Fits to n
  fits_there = (level, there, refl, subst (λ o. BlockFits o level m.block) same.order block_fits)

  -- ---- no part is lifted, projected or filled in

  whole_in : (version : ℕ) → IsEffective version level → filled_block level m.block ≡ Ok m.block
  whole_in version all = whole_block version level m.block all (own_block from.order version level m.block all block_fits)

  lifted_in : (version : ℕ) → IsEffective version level → lifted_block version level m.block ≡ m.block
  lifted_in version all = same_block version level m.block all (own_block from.order version level m.block all block_fits)

  projected_in : (version : ℕ) → IsEffective version level → projected_block version level m.block ≡ m.block
  projected_in version all =
      back_block version level m.block m.block (own_block from.order version level m.block all block_fits) (ap (filled_block level) (lifted_in version all) ∙ whole_in version all)

  from_all : IsEffective from.version level
  from_all = checked_wholly from checked m.template level at

  to_all : IsEffective to.version level
  to_all = checked_wholly to good place level there

  -- with this block, still in its own version
  abbrev with : Block → Msg
  with block = record { template = place; version = m.version; block = block }

  moves : moved from to m ≡ Some (with m.block)
  moves =
      by_bool (moved from to m ≡ Some (with m.block)) (nat_le from.version to.version)
      (λ up. choice_yes (nat_le from.version to.version) (lifted from to m) (projected to from m) up ∙ ap (lifted_from from to m) at
      ∙ ap (λ o. with_block m o (λ other. lifted_block from.version other m.block)) same.named ∙ ap (λ b. Some (with b)) (lifted_in from.version from_all))
      (λ down. choice_not (nat_le from.version to.version) (lifted from to m) (projected to from m) down ∙ ap (projected_from to m) at
      ∙ ap (λ o. with_block m o (λ other. projected_block to.version level m.block)) same.named ∙ ap (λ b. Some (with b)) (projected_in to.version to_all))

  told : regraded from to m ≡ Ok n
  told = ap (filled_in to) moves ∙ ap (filled_by to.version (with m.block)) there ∙ ap (in_version to.version (with m.block)) (whole_in to.version to_all)

  drops : dropped from to m ≡ 0
  drops =
      by_bool (dropped from to m ≡ 0) (nat_le from.version to.version)
      (λ up. choice_yes (nat_le from.version to.version) 0 (dropped_at to.version m (slice_get from.messages m.template)) up)
      (λ down. choice_not (nat_le from.version to.version) 0 (dropped_at to.version m (slice_get from.messages m.template)) down
      ∙ ap (dropped_at to.version m) at ∙ none_dropped to.version level m.block to_all)

  fills : filled from to m ≡ 0
  fills = ap (filled_of to) moves ∙ ap (filled_at m.block) there ∙ none_filled from.order level m.block block_fits

  -- ---- what is written

  module _ (header : List ℕ) (written : header_in to place ≡ Some header) (clean : canonical from m ≡ Some body) where
    abbrev wide : ℕ
    wide = members_end 0 from.header.members

    abbrev head_of : WireSchema → Option (List ℕ)
    head_of schema = named_bytes schema.order (header_numbers schema level) 0 schema.header.members

    abbrev rest_of : WireSchema → Option (List ℕ)
    rest_of schema =
        both (block_bytes schema.order (out-Level level).block_length (out-Level level).fields (out-Block m.block).fields) (tail_bytes schema.order level m.block)

    head_there : head_of to ≡ Some header
    head_there =
        sym (ap (option_and_then (λ (root : Level). named_bytes to.order (header_numbers to root) 0 to.header.members)) there) ∙ written

    rest_there : rest_of from ≡ Some (drop wide body)
    rest_there =
        let two = both_some (head_of from) (rest_of from) body (sym (canonical_is from m level at) ∙ clean) in
        let head = names_written from.order (header_numbers from level) 0 from.header.members ((schema_writable from checked).header m.template level at) in
        let long : length two.0 ≡ wide = omega (arith, ap length (some_is (sym two.2 ∙ head.1)), head.2) in
        two.3 ∙ ap Some (left_over two.0 two.1 body wide long two.4)

    copied_is : canonical to n ≡ Some (header ++ drop wide body)
    copied_is =
        canonical_is to n level there ∙ ap (λ h. both h (rest_of to)) head_there
        ∙ ap (λ o. both (Some header) (both (block_bytes o (out-Level level).block_length (out-Level level).fields (out-Block m.block).fields) (tail_bytes o level m.block))) (sym same.order)
        ∙ ap (both (Some header)) rest_there

    pub copied : IsCopied from to body (header ++ drop wide body)
    copied = record { m = m; n = n; lies = lies; told = told; none_dropped = drops; none_filled = fills; fits = fits_there; written = copied_is }

-- the front of a body that was begun is its header
pub header_is : (to : WireSchema) (good : IsChecked to) (place : ℕ) (level : Level) → slice_get to.messages place ≡ Some level →
    (block : Option (List ℕ)) (begun : List ℕ) (wide : ℕ) → wide ≡ members_end 0 to.header.members →
    both (header_in to place) block ≡ Some begun → header_in to place ≡ Some (take wide begun)
header_is to good place level at block begun wide is whole =
    let two = both_some (header_in to place) block begun whole in
    let head = names_written to.order (header_numbers to level) 0 to.header.members ((schema_writable to good).header place level at) in
    let root : header_in to place ≡ Some head.0 =
    ap (option_and_then (λ (root : Level). named_bytes to.order (header_numbers to root) 0 to.header.members)) at ∙ head.1
    in
    let long : length two.0 ≡ wide = omega (arith, ap length (some_is (sym two.2 ∙ root)), head.2, is) in
    two.2 ∙ ap Some (sym (ap (λ k. take k (two.0 ++ two.1)) (sym long) ∙ take-append_seam two.0 two.1) ∙ ap (take wide) two.4)

-- the same of what is held beside it
pub front_is : (r : Result (Option (List ℕ)) NoMem) (found : Option (List ℕ)) (whole : List ℕ) → found ≡ Some whole → IfOk r (λ o. IfSome o (λ b. b ≡ whole)) →
    IfOk r (λ o. IfSome o (λ b. found ≡ Some b))
front_is (Ok (Some b)) found whole is same = is ∙ ap Some (sym same)
front_is (Ok None) found whole is same = tt
front_is (Err e) found whole is same = tt

-- a template that has an id
pub named_there : (to : WireSchema) (id place : ℕ) → Some place ≡ option_map (λ m. m.0) (message_named 0 id to.messages) →
    (level : Level) × (message_named 0 id to.messages ≡ Some (place, level)) × (slice_get to.messages place ≡ Some level)
named_there to id place h = by (message_named 0 id to.messages) refl h
  where
    by : (o : Option (ℕ × Level)) → message_named 0 id to.messages ≡ o → Some place ≡ option_map (λ m. m.0) o →
        (level : Level) × (message_named 0 id to.messages ≡ Some (place, level)) × (slice_get to.messages place ≡ Some level)
    by None e k = cc
    by (Some m) e k =
        let same : place ≡ m.0 = some_is k in
        (m.1, e ∙ ap (λ p. Some (p, m.1)) (sym same), ap (slice_get to.messages) same ∙ named_is to id m e)

-- the same level in both
pub same_there : (from to : WireSchema) (template place : ℕ) (level other : Level) → slice_get from.messages template ≡ Some level →
    Some place ≡ option_map (λ m. m.0) (message_named 0 (out-Level level).id to.messages) → slice_get to.messages place ≡ Some other →
    level ≡ other → from.order ≡ to.order → IsSame from to template place
same_there from to template place level other at named there same order =
    let found = named_there to (out-Level level).id place named in
    let is : found.0 ≡ level = some_is (sym found.2 ∙ there) ∙ sym same in
    record { level = level; at = at; named = found.1 ∙ ap (λ l. Some (place, l)) is; order = order }

-- a copy by a row of the table
pub copy_is : (from to : WireSchema) → IsChecked from → IsChecked to → (template : ℕ) (twins : List Twin) (twin : Twin) → All (IsTwin from to) twins →
    template < length twins → twin ≡ get_or twins template twin → (header : List ℕ) → (twin.template ≡ template) × (twin.header ≡ Some header) →
    (m : Msg) (body : List ℕ) → m.template ≡ template → m.version ≡ from.version → IsBytes body → Lays from m body → IsCanonicalOf from template body →
    (wide : ℕ) → wide ≡ members_end 0 from.header.members → IsCopied from to body (header ++ take (length body - wide) (drop wide body))
copy_is from to checked good template twins twin all within is header found m body here own bytes lies clean wide width =
    let row : IsTwin from to twin = subst (IsTwin from to) (sym is) (All-get_or (IsTwin from to) twins template twin within all) in
    let has : HasHeader from to twin.template header = subst (λ o. IfSome o (λ h. HasHeader from to twin.template h)) found.1 row in
    let same : IsSame from to template has.0 = subst (λ t. IsSame from to t has.0) found.0 has.1 in
    let copy = copied from to checked good template has.0 same m here own body bytes lies header has.2 (clean m here own lies) in
    subst (λ rest. IsCopied from to body (header ++ rest)) (sym (take_rest body wide ∙ ap (λ k. drop k body) width)) copy
