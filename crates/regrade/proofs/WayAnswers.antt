-- The way, by the answer for two schemas.
use Rattle.std.proofs.Common.{◌≡◌, ◌≤◌, ◌<◌, ℕ, true, false, cond, List, Option, Some, None, Result, Ok, Err, refl, sym, ap, ◌∙◌, subst, arith}
use Rattle.std.specs.Prelude.{IfOk, nat_le}
use Rattle.std.proofs.lemmas.Bool.Decides.{nat_tests}
use Rattle.lists.specs.declared.list.NoMem.{NoMem}
use Rattle.sbe_types.specs.declared.schema.WireSchema.{WireSchema}
use Rattle.version_laws.specs.Answer.{compat, compat_of}
use Rattle.version_laws.specs.Differ.{differ}
use Rattle.version_laws.specs.Forward.{NamePath, first_added}
use Rattle.version_laws.specs.declared.difference.Compat.{Compat}
use Rattle.version_laws.specs.declared.difference.Difference.{Difference}
use Rattle.regrade_laws.specs.declared.way.Way.{Way}
use Rattle.regrade_laws.specs.declared.way.Way.TheVariants.{Up, Down}
use Rattle.regrade_laws.specs.Regraded.{way_by, way_of}
use Rattle.regrade.specs.declared.ways.WayErr.{WayErr}
use Rattle.regrade.specs.declared.ways.WayErr.TheVariants.{Memory}
use Rattle.regrade.specs.Ways.{GivesWay, GivesUnless, way_unless}

same_way : (way : Way) (d : Option Difference) (added : Option NamePath) → way_unless way (compat_of d added) ≡ way_by way d
same_way way None None = refl
same_way way None (Some names) = refl
same_way way (Some d) added = refl

gives : (result : Result Way WayErr) (way : Way) (old new : WireSchema) (answer : Result Compat NoMem) → IfOk answer (λ a. a ≡ compat old new) → GivesUnless result way answer → GivesWay result (way_by way (differ old new))
gives result way old new (Ok a) same h = subst (GivesWay result) (ap (way_unless way) same ∙ same_way way (differ old new) (first_added old new)) h
gives result way old new (Err e) same h = subst (λ (r : Result Way WayErr). GivesWay r (way_by way (differ old new))) (sym h) tt

module _ (from to : WireSchema) (result : Result Way WayErr) (answer : Result Compat NoMem) where
  pub up_given : from.version ≤ to.version → IfOk answer (λ a. a ≡ compat from to) → GivesUnless result Up answer → GivesWay result (way_of from to)
  up_given up same h =
      let is : nat_le from.version to.version ≡ true = grind (arith, nat_tests, up) in
      subst (GivesWay result) (sym (ap (λ t. cond t (way_by Up (differ from to)) (way_by Down (differ to from))) is)) (gives result Up from to answer same h)

  pub down_given : to.version < from.version → IfOk answer (λ a. a ≡ compat to from) → GivesUnless result Down answer → GivesWay result (way_of from to)
  down_given down same h =
      let is : nat_le from.version to.version ≡ false = grind (arith, nat_tests, down) in
      subst (GivesWay result) (sym (ap (λ t. cond t (way_by Up (differ from to)) (way_by Down (differ to from))) is)) (gives result Down to from answer same h)
