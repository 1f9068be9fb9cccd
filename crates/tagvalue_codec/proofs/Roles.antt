-- The roles of tags by the map that the code keeps.
use Rattle.std.proofs.Common.{◌≡◌, ℕ, Bool, true, false, cond, List, [], ◌∷◌, ◌++◌, Option, Some, None, refl}
use Rattle.std.specs.Prelude.{◌==◌}
use Rattle.tagvalue_codec.specs.declared.data_tags.Pair.{Pair}
use Rattle.tagvalue_codec.specs.declared.data_tags.Role.{Role}
use Rattle.tagvalue_codec.specs.declared.data_tags.Role.TheVariants as role
use Rattle.tagvalue_codec.specs.Pairs.{role_of, role_found, with_role}

-- the role of a tag that was looked for
abbrev pub role_by : Option Role → Role
role_by None = role.Plain
role_by (Some is) = is

either : (a b : Bool) (x y rest : Role) (found : Option Role) → rest ≡ role_by found →
    cond {A = Role} a x (cond {A = Role} b y rest) ≡ role_by (cond {A = Option Role} a (Some x) (cond {A = Option Role} b (Some y) found))
either true b x y rest found h = refl
either false true x y rest found h = refl
either false false x y rest found h = h

pub role_is : (pairs : List Pair) (tag : ℕ) → role_of pairs tag ≡ role_by (role_found pairs tag)
role_is [] tag = refl
role_is (p ∷ ps) tag = either (p.length_tag == tag) (p.tag == tag) (role.Length p.tag) role.Data (role_of ps tag) (role_found ps tag) (role_is ps tag)

last : (a : Bool) (x : Role) (tag t : ℕ) (y : Role) → cond {A = Option Role} a (Some x) (cond {A = Option Role} (tag == t) (Some y) None) ≡ with_role tag y t (cond {A = Option Role} a (Some x) None)
last true x tag t y = refl
last false x tag t y = refl

-- the roles that a pair gives
abbrev pub with_pair : Pair → ℕ → Option Role → Option Role
with_pair p t found = with_role p.tag role.Data t (with_role p.length_tag (role.Length p.tag) t found)

further : (p : Pair) (t : ℕ) (a b : Bool) (x y : Role) (rest found : Option Role) → rest ≡ with_pair p t found →
    cond {A = Option Role} a (Some x) (cond {A = Option Role} b (Some y) rest) ≡ with_pair p t (cond {A = Option Role} a (Some x) (cond {A = Option Role} b (Some y) found))
further p t true b x y rest found h = refl
further p t false true x y rest found h = refl
further p t false false x y rest found h = h

-- the roles of one more pair
pub role_more : (pairs : List Pair) (p : Pair) (t : ℕ) → role_found (pairs ++ (p ∷ [])) t ≡ with_pair p t (role_found pairs t)
role_more [] p t = last (p.length_tag == t) (role.Length p.tag) p.tag t role.Data
role_more (q ∷ qs) p t = further p t (q.length_tag == t) (q.tag == t) (role.Length q.tag) role.Data (role_found (qs ++ (p ∷ [])) t) (role_found qs t) (role_more qs p t)
