-- The marks of the tags of pairs.
use Rattle.std.proofs.Common.{◌≡◌, ℕ, zero, suc, ◌%◌, ◌<◌, Bool, true, false, eqb, List, [], ◌∷◌, ◌++◌, length, get_or, set, refl, sym, ap, ◌∙◌, subst, arith, length-set}
use Rattle.std.specs.List.{AllByRecursion}
use Rattle.std.proofs.lemmas.List.{get_or-set_same, get_or-set_other}
use Rattle.std.proofs.lemmas.Bool.{eqb-true, eq-eqb, ne_eqb, false≢true}
use Rattle.tagvalue_codec.specs.declared.data_tags.Pair.{Pair}
use Rattle.tagvalue_codec.specs.declared.data_tags.Role.TheVariants as role
use Rattle.tagvalue_codec.specs.declared.data_tags.TheConstants.{MARKS}
use Rattle.tagvalue_codec.specs.Pairs.{role_of, IsMarked, AreMarked}

apart : (marks : List Bool) (a b : ℕ) → IsMarked marks a → get_or marks (b % MARKS) false ≡ false → eqb a b ≡ false
apart marks a b is not_b = ne_eqb a b (λ e. false≢true (sym not_b ∙ ap (λ k. get_or marks (k % MARKS) false) (sym e) ∙ is))

plain_by : (marks : List Bool) (pairs : List Pair) (tag : ℕ) → AllByRecursion (λ p. IsMarked marks p.length_tag × IsMarked marks p.tag) pairs → get_or marks (tag % MARKS) false ≡ false → role_of pairs tag ≡ role.Plain
plain_by marks [] tag each unset = refl
plain_by marks (p ∷ ps) tag each unset = rw (apart marks p.length_tag tag each.0.0 unset, apart marks p.tag tag each.0.1 unset) (plain_by marks ps tag each.1 unset)

-- a tag whose mark isn't set is in no pair
pub unmarked : (marks : List Bool) (pairs : List Pair) (tag : ℕ) → AreMarked marks pairs → get_or marks (tag % MARKS) false ≡ false → role_of pairs tag ≡ role.Plain
unmarked marks pairs tag h unset = plain_by marks pairs tag h.each unset

-- a mark that is set is there
there : (marks : List Bool) (place : ℕ) → get_or marks place false ≡ true → place < length marks
there [] zero h = absurd (false≢true h)
there [] (suc place) h = absurd (false≢true h)
there (m ∷ ms) zero h = omega arith
there (m ∷ ms) (suc place) h = omega (arith, there ms place h)

still : (marks : List Bool) (place tag : ℕ) → IsMarked marks tag → IsMarked (set marks place true) tag
still marks place tag h = by_place (eqb (tag % MARKS) place) refl where
  by_place : (same : Bool) → eqb (tag % MARKS) place ≡ same → IsMarked (set marks place true) tag
  by_place true is = ap (λ k. get_or (set marks k true) (tag % MARKS) false) (sym (eqb-true (tag % MARKS) place is)) ∙ get_or-set_same marks (tag % MARKS) true false (there marks (tag % MARKS) h)
  by_place false is = get_or-set_other marks place (tag % MARKS) true false (λ e. false≢true (sym is ∙ eq-eqb (tag % MARKS) place e)) ∙ h

marked : (marks : List Bool) (tag : ℕ) → length marks ≡ MARKS → IsMarked (set marks (tag % MARKS) true) tag
marked marks tag long = get_or-set_same marks (tag % MARKS) true false (omega (arith, long))

all_still : (marks : List Bool) (place : ℕ) (pairs : List Pair) → AllByRecursion (λ p. IsMarked marks p.length_tag × IsMarked marks p.tag) pairs → AllByRecursion (λ p. IsMarked (set marks place true) p.length_tag × IsMarked (set marks place true) p.tag) pairs
all_still marks place [] h = tt
all_still marks place (p ∷ ps) h = ((still marks place p.length_tag h.0.0, still marks place p.tag h.0.1), all_still marks place ps h.1)

one_more : (P : Pair → Type 0) (pairs : List Pair) (p : Pair) → AllByRecursion P pairs → P p → AllByRecursion P (pairs ++ (p ∷ []))
one_more P [] p h is = (is, tt)
one_more P (q ∷ qs) p h is = (h.0, one_more P qs p h.1 is)

-- the marks of one more pair
pub marked_more : (marks : List Bool) (pairs new : List Pair) (a b : ℕ) → AreMarked marks pairs → new ≡ pairs ++ (record { length_tag = a; tag = b } ∷ []) → AreMarked (set (set marks (a % MARKS) true) (b % MARKS) true) new
marked_more marks pairs new a b h is =
    let one = set marks (a % MARKS) true in
    let two = set one (b % MARKS) true in
    let long : length one ≡ MARKS = length-set marks (a % MARKS) true ∙ h.long in
    record {
      long = length-set one (b % MARKS) true ∙ long;
      each = subst (AllByRecursion (λ p. IsMarked two p.length_tag × IsMarked two p.tag)) (sym is)
          (one_more (λ p. IsMarked two p.length_tag × IsMarked two p.tag) pairs (record { length_tag = a; tag = b }) (all_still one (b % MARKS) pairs (all_still marks (a % MARKS) pairs h.each))
          (still one (b % MARKS) a (marked marks a h.long), marked one b long));
    }
