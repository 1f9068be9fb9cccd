-- What it says that there is no misfit.
use Rattle.std.proofs.Common.{◌≡◌, ℕ, Bool, true, false, cond, List, [], ◌∷◌, ◌++◌, Option, Some, None, ℤ, refl, ap, ◌∙◌}
use Rattle.std.specs.Prelude.{not, ◌&&◌, find}
use Rattle.std.specs.List.{list_all}
use Rattle.sbe_types.specs.declared.path.Step.{Step}
use Rattle.sbe_types.specs.Wire.{both}
use Rattle.sbe_wire.specs.declared.codes.NCode.{NCode}
use Rattle.sbe_wire.specs.Misfit.{Misfit, misfit_here, misfit_in, or_else, unless, byte_misfit}
use Rattle.writing_laws.proofs.Numerals.{untrue, none_some, some_is}

pub some_none : {A : Type 0} {x : A} → ◌≡◌ {A = Option A} (Some x) None → ⊥
some_none k = cc

pub unless_true : (t : Bool) (c : NCode) (n : ℤ) → unless t (misfit_here c n) ≡ None → t ≡ true
unless_true true c n h = refl
unless_true false c n h = absurd (some_none h)

pub or_none : (a b : Option Misfit) → or_else a b ≡ None → (a ≡ None) × (b ≡ None)
or_none None b h = (refl, h)
or_none (Some m) b h = absurd (some_none h)

pub none_or : (a b : Option Misfit) → a ≡ None → b ≡ None → or_else a b ≡ None
none_or a b h k = ap (λ o. or_else o b) h ∙ k

pub in_none : (step : Step) (m : Option Misfit) → misfit_in step m ≡ None → m ≡ None
in_none step None h = refl
in_none step (Some m) h = absurd (some_none h)

pub byte_none : (o : Option ℕ) → byte_misfit o ≡ None → o ≡ None
byte_none None h = refl
byte_none (Some b) h = absurd (some_none h)

-- a test that holds of each byte fails of none
pub none_found : (p : ℕ → Bool) (text : List ℕ) → list_all p text ≡ true → find (λ b. not (p b)) text ≡ None
none_found p [] h = refl
none_found p (x ∷ xs) h = pick (p x) refl (none_found p xs) h
  where
    pick : (t : Bool) → p x ≡ t → (list_all p xs ≡ true → find (λ b. not (p b)) xs ≡ None) → (t && list_all p xs) ≡ true → find (λ b. not (p b)) (x ∷ xs) ≡ None
    pick true e more k = ap (λ t. cond (not t) (Some x) (find (λ b. not (p b)) xs)) e ∙ more k
    pick false e more k = absurd (untrue k)

pub found_none : (p : ℕ → Bool) (text : List ℕ) → find (λ b. not (p b)) text ≡ None → list_all p text ≡ true
found_none p [] h = refl
found_none p (x ∷ xs) h = pick (p x) refl (found_none p xs) h
  where
    pick : (t : Bool) → p x ≡ t → (find (λ b. not (p b)) xs ≡ None → list_all p xs ≡ true) → cond (not t) (Some x) (find (λ b. not (p b)) xs) ≡ None → list_all p (x ∷ xs) ≡ true
    pick true e more k = ap (λ t. t && list_all p xs) e ∙ more k
    pick false e more k = absurd (some_none k)

-- two pieces that are there
pub both_some : (x y : Option (List ℕ)) (z : List ℕ) → both x y ≡ Some z → (a : List ℕ) × (b : List ℕ) × (x ≡ Some a) × (y ≡ Some b) × (a ++ b ≡ z)
both_some None y z h = absurd (none_some h)
both_some (Some a) None z h = absurd (none_some h)
both_some (Some a) (Some b) z h = (a, b, refl, refl, some_is h)
