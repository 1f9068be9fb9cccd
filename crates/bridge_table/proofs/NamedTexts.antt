-- What the tables of a code set's names and texts tell is what the definitions find in the codes.
use Rattle.std.proofs.Common.{◌≡◌, ℕ, suc, Bool, true, false, List, [], ◌∷◌, Option, Some, None, map, is_some, refl, sym, ap, ◌∙◌, arith, ◌+◌, ◌-◌, ◌≤◌}
use Rattle.std.specs.Prelude.{slice_get, if◌then◌else◌, ◌||◌, bytes_eq}
use Rattle.std.specs.List.{list_any}
use Rattle.std.proofs.lemmas.Slice.Eq.{bytes_eq-Decides}
use Rattle.std.proofs.lemmas.Option.{same_Some}
use Rattle.id_tables.specs.Places.{place_by}
use Rattle.map_types.specs.declared.tree.CodeEl.{CodeEl}
use Rattle.sbe_types.specs.declared.kind.Named.{Named}
use Rattle.sbe_types.specs.declared.kind.Primitive.{Primitive}
use Rattle.bridge_rules.specs.Datatypes.{NamedCode}
use Rattle.bridge_rules.specs.Table.{named_text, number_text, code_with, code_of}
use Rattle.bridge_table.specs.Codes.{named_codes}

same_bool : (p q : Bool) → (p ≡ true → q ≡ true) → (q ≡ true → p ≡ true) → p ≡ q
same_bool true true f g = refl
same_bool true false f g = sym (f refl)
same_bool false true f g = g refl
same_bool false false f g = refl

-- two texts are equal the other way round
turned : (a b : List ℕ) → bytes_eq a b ≡ bytes_eq b a
turned a b =
    same_bool (bytes_eq a b) (bytes_eq b a) (λ h. (bytes_eq-Decides b a).1 (sym ((bytes_eq-Decides a b).0 h)))
    (λ h. (bytes_eq-Decides a b).1 (sym ((bytes_eq-Decides b a).0 h)))

abbrev names : List CodeEl → List (List ℕ)
names cs = map (λ (c : CodeEl). c.name) cs

abbrev texts : List CodeEl → List (List ℕ)
texts cs = map (λ (c : CodeEl). c.value) cs

-- ---- a name that no code has

none_step : (p q : Bool) → q ≡ p → (k : ℕ) (more : Option ℕ) (text : List ℕ) (rest : Option (List ℕ)) → (if p then Some k else more) ≡ None → (more ≡ None → rest ≡ None) →
    (if q then Some text else rest) ≡ None
none_step true true e k more text rest h f = cc
none_step true false e k more text rest h f = cc
none_step false true e k more text rest h f = cc
none_step false false e k more text rest h f = f h

pub none_named : (name : List ℕ) (k : ℕ) (cs : List CodeEl) → place_by (bytes_eq name) k (names cs) ≡ None → named_text (named_codes cs) name ≡ None
none_named name k [] h = refl
none_named name k (c ∷ cs) h =
    none_step (bytes_eq name c.name) (bytes_eq c.name name) (turned c.name name) k (place_by (bytes_eq name) (k + 1) (names cs)) c.value (named_text (named_codes cs) name) h
    (none_named name (k + 1) cs)

-- ---- the code of a name

from_step : (p : Bool) (k i : ℕ) (more : Option ℕ) → (if p then Some k else more) ≡ Some i → (more ≡ Some i → k + 1 ≤ i) → k ≤ i
from_step true k i more h f = let e : k ≡ i = same_Some k i h in omega arith
from_step false k i more h f = let le : k + 1 ≤ i = f h in omega arith

from_there : (name : List ℕ) (k i : ℕ) (ns : List (List ℕ)) → place_by (bytes_eq name) k ns ≡ Some i → k ≤ i
from_there name k i [] h = cc
from_there name k i (n ∷ ns) h = from_step (bytes_eq name n) k i (place_by (bytes_eq name) (k + 1) ns) h (from_there name (k + 1) i ns)

found_step : (p q : Bool) → q ≡ p → (k i : ℕ) (more : Option ℕ) (c own : CodeEl) (cs : List CodeEl) (rest : Option (List ℕ)) →
    (if p then Some k else more) ≡ Some i → slice_get (c ∷ cs) (i - k) ≡ Some own →
    (more ≡ Some i → k + 1 ≤ i) → (more ≡ Some i → slice_get cs (i - (k + 1)) ≡ Some own → rest ≡ Some own.value) →
    (if q then Some c.value else rest) ≡ Some own.value
found_step true false e k i more c own cs rest h at le f = cc
found_step false true e k i more c own cs rest h at le f = cc
found_step true true e k i more c own cs rest h at le f =
    let same : k ≡ i = same_Some k i h in
    let first : i - k ≡ 0 = omega arith in
    ap (λ (x : CodeEl). Some x.value) (same_Some c own (ap (slice_get (c ∷ cs)) (sym first) ∙ at))
found_step false false e k i more c own cs rest h at le f =
    let above : k + 1 ≤ i = le h in
    let next : i - k ≡ suc (i - (k + 1)) = omega arith in
    f h (ap (slice_get (c ∷ cs)) (sym next) ∙ at)

pub found_named : (name : List ℕ) (k i : ℕ) (cs : List CodeEl) → place_by (bytes_eq name) k (names cs) ≡ Some i → (own : CodeEl) → slice_get cs (i - k) ≡ Some own →
    named_text (named_codes cs) name ≡ Some own.value
found_named name k i [] h own at = cc
found_named name k i (c ∷ cs) h own at =
    found_step (bytes_eq name c.name) (bytes_eq c.name name) (turned c.name name) k i (place_by (bytes_eq name) (k + 1) (names cs)) c own cs (named_text (named_codes cs) name) h at
    (from_there name (k + 1) i (names cs)) (λ g there. found_named name (k + 1) i cs g own there)

-- the same, from the first place on
pub text_found : (name : List ℕ) (i : ℕ) (cs : List CodeEl) → place_by (bytes_eq name) 0 (names cs) ≡ Some i → (own : CodeEl) → slice_get cs i ≡ Some own →
    named_text (named_codes cs) name ≡ Some own.value
text_found name i cs h own at = let e : i - 0 ≡ i = omega arith in found_named name 0 i cs h own (ap (slice_get cs) e ∙ at)

-- ---- whether a code has a text

any_step : (p q : Bool) → q ≡ p → (k : ℕ) (more : Option ℕ) (rest : Bool) → rest ≡ is_some more → (q || rest) ≡ is_some (if p then Some k else more)
any_step true true e k more rest h = refl
any_step true false e k more rest h = cc
any_step false true e k more rest h = cc
any_step false false e k more rest h = h

pub some_text : (text : List ℕ) (k : ℕ) (cs : List CodeEl) → list_any (λ c. bytes_eq c.text text) (named_codes cs) ≡ is_some (place_by (bytes_eq text) k (texts cs))
some_text text k [] = refl
some_text text k (c ∷ cs) =
    any_step (bytes_eq text c.value) (bytes_eq c.value text) (turned c.value text) k (place_by (bytes_eq text) (k + 1) (texts cs))
    (list_any (λ c. bytes_eq c.text text) (named_codes cs)) (some_text text (k + 1) cs)

-- ---- a valid value that has no code

pub uncoded : (prim : Primitive) (codes : List NamedCode) (name : Named) (found : Option (List ℕ)) (text : List ℕ) → found ≡ None → text ≡ number_text prim name.number →
    list_any (λ c. bytes_eq c.text text) codes ≡ false → [] ≡ code_of prim codes name found
uncoded prim codes name found text none is lacks =
    sym (ap (code_of prim codes name) none
    ∙ ap (λ (b : Bool). if b then code_with name (number_text prim name.number) ∷ [] else []) (ap (λ (t : List ℕ). list_any (λ c. bytes_eq c.text t) codes) (sym is) ∙ lacks))
