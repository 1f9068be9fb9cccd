-- Answers that are there, taken apart.
use Rattle.std.proofs.Common.{◌≡◌, Bool, true, false, cond, Option, Some, None, Result, Ok, refl, ap}
use Rattle.std.specs.Prelude.{◌&&◌}
use Rattle.bridge_rules.specs.Members.{and_then}

pub some_is : {X : Type 0} {x y : X} → ◌≡◌ {A = Option X} (Some x) (Some y) → x ≡ y
some_is h = cc

pub none_some : {X Z : Type 0} {x : X} → ◌≡◌ {A = Option X} None (Some x) → Z
none_some h = cc

pub some_none : {X Z : Type 0} {x : X} → ◌≡◌ {A = Option X} (Some x) None → Z
some_none h = cc

pub ok_is : {A E : Type 0} {x y : A} → ◌≡◌ {A = Result A E} (Ok x) (Ok y) → x ≡ y
ok_is h = cc

pub and_then_is : {X Y : Type 0} (o : Option X) (f : X → Option Y) (y : Y) → and_then o f ≡ Some y → (x : X) × (o ≡ Some x) × (f x ≡ Some y)
and_then_is None f y h = none_some h
and_then_is (Some x) f y h = (x, refl, h)

pub and_then_some : {X Y : Type 0} (o : Option X) (f : X → Option Y) (x : X) → o ≡ Some x → and_then o f ≡ f x
and_then_some o f x h = ap (λ o. and_then o f) h

-- a test that let an answer through
pub if_some : {X : Type 0} (t : Bool) (o : Option X) (x : X) → cond t o None ≡ Some x → (t ≡ true) × (o ≡ Some x)
if_some true o x h = (refl, h)
if_some false o x h = none_some h

pub and_first : (a b : Bool) → a && b ≡ true → a ≡ true
and_first true b h = refl
and_first false b h = h

pub and_second : (a b : Bool) → a && b ≡ true → b ≡ true
and_second true b h = h
and_second false b h = absurd (untrue h)
  where
    untrue : false ≡ true → ⊥
    untrue k = cc
