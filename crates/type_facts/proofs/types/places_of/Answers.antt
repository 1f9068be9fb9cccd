use Rattle.std.proofs.Common.{◌≡◌, ◌≤◌, ◌<◌, ℕ, suc, ◌-◌, length, drop, Some, List, Option, sym, ap, ◌∙◌, arith, Vec, Global, refl}
use Rattle.std.specs.Prelude.{if◌then◌else◌, slice_get}
use Rattle.std.specs.Str.{bytes_eq}
use Rattle.std.specs.HashMap.{get_by}
use Rattle.std.specs.Map.{lookup}
use Rattle.std.proofs.lemmas.Option.{slice_get_read}
use Rattle.std.proofs.lemmas.Bool.Decides.{nat_tests}
use Rattle.schema_rules.specs.Names.{name_of, place_from}
use Rattle.type_facts.proofs.TypePlaces.{found_put, placed}
use Rattle.type_facts.proofs.types.places_of.Goals as goal

pub names-preserved : goal.names-preserved
names-preserved c =
    let i : ℕ = c.names.i - 1 in
    let positive : 0 < c.names.i = grind (arith, nat_tests, c.names-test.true) in
    let above : suc i ≡ c.names.i = omega (arith, positive) in
    let at : slice_get c.args.declared.now i ≡ Some c.index-declared-i.result = slice_get_read c.args.declared.now (length c.args.declared.now) i c.index-declared-i.result refl (omega (arith, above, c.names.invariant.0)) c.index-declared-i.is in
    let within : c.names.i ≤ length c.args.declared.now = c.names.invariant.0 in
    let text : c.in_ok-from_slice.field-0.items ≡ name_of c.index-declared-i.result = c.in_ok-from_slice.ensures.items ∙ c.type_name.ensures in (
      omega (arith, within, above),
      λ name.
          ap (lookup (λ (k : Vec ℕ Global). bytes_eq name k.items)) c.in_ok-insert.ensures.entries
          ∙ found_put (λ (k : Vec ℕ Global). k.items) name c.in_ok-from_slice.field-0 i c.names.places.entries
          ∙ ap (λ (o : Option ℕ). if bytes_eq name c.in_ok-from_slice.field-0.items then Some i else o)
          (c.names.invariant.1 name ∙ ap (λ (n : ℕ). place_from n name (drop n c.args.declared.now)) (sym above))
          ∙ ap (λ (key : List ℕ). if bytes_eq name key then Some i else place_from (suc i) name (drop (suc i) c.args.declared.now)) text
          ∙ placed c.args.declared.now i c.index-declared-i.result name at,
    )
