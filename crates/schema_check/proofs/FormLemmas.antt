-- The same members, a member at a time and as a whole.
use Rattle.std.proofs.Common.{◌≡◌, ℕ, zero, suc, ◌+◌, Bool, true, false, if◌then◌else◌, List, [], ◌∷◌, map, length, drop, get_or, ◌<◌, ◌≤◌, Option, Some, None, refl, ap, sym, subst, ◌∙◌}
use Rattle.std.proofs.lemmas.List.{at_drop_more, at_drop_all}
use Rattle.sbe_types.specs.declared.kind.Kind.{Kind}
use Rattle.sbe_types.specs.declared.kind.Member.{Member}
use Rattle.sbe_types.specs.Places.{width, is_const, begin_of, place_of, end_past, member_place}
use Rattle.schema_rules.specs.Facts.{counted}
use Rattle.schema_check.specs.Forms.{SameMembers, IsLike, AreLike}

-- after members that end at e
record SameFrom (e : ℕ) (ms ns : List Member) : Type 0 where
  names : map (λ m. m.name) ms ≡ map (λ m. m.name) ns
  kinds : map (λ m. m.kind) ms ≡ map (λ m. m.kind) ns
  places : (i : ℕ) → member_place e ms i ≡ member_place e ns i

end_by : (b : Bool) (x y e w : ℕ) → (if b then None else Some x) ≡ (if b then None else Some y) → (if b then e else x + w) ≡ (if b then e else y + w)
end_by true x y e w h = refl
end_by false x y e w h = cc

-- members of one kind at one place end alike
end_like : (e : ℕ) (o p : Option ℕ) (k l : Kind) → k ≡ l → place_of e o k ≡ place_of e p l → end_past e o k ≡ end_past e p l
end_like e o p k l same h =
    end_by (is_const k) (begin_of e o) (begin_of e p) e (width k) (h ∙ ap (place_of e p) (sym same)) ∙ ap (end_past e p) same

more_places : (e : ℕ) (m n : Member) (ms ns : List Member) → IsLike e m n
    → ((i : ℕ) → member_place (end_past e m.offset m.kind) ms i ≡ member_place (end_past e m.offset m.kind) ns i)
    → (i : ℕ) → member_place e (m ∷ ms) i ≡ member_place e (n ∷ ns) i
more_places e m n ms ns like h zero = like.place
more_places e m n ms ns like h (suc i) =
    h i ∙ ap (λ (d : ℕ). member_place d ns i) (end_like e m.offset n.offset m.kind n.kind like.kind like.place)

to_whole : (ms ns : List Member) (e : ℕ) → AreLike e ms ns → SameFrom e ms ns
to_whole [] [] e h = record { names = refl; kinds = refl; places = λ i. refl }
to_whole [] (n ∷ ns) e h = absurd h
to_whole (m ∷ ms) [] e h = absurd h
to_whole (m ∷ ms) (n ∷ ns) e h =
    let rest = to_whole ms ns (end_past e m.offset m.kind) h.1 in
    record { names = cc (h.0.name, rest.names); kinds = cc (h.0.kind, rest.kinds); places = more_places e m n ms ns h.0 rest.places }

from_whole : (ms ns : List Member) (e : ℕ) → SameFrom e ms ns → AreLike e ms ns
from_whole [] [] e h = tt
from_whole [] (n ∷ ns) e h = let names = h.names in cc
from_whole (m ∷ ms) [] e h = let names = h.names in cc
from_whole (m ∷ ms) (n ∷ ns) e h =
    let names = h.names in
    let kinds = h.kinds in
    let like : IsLike e m n = record { name = cc; kind = cc; place = h.places 0 } in (
      like,
      from_whole ms ns (end_past e m.offset m.kind) (record {
        names = cc;
        kinds = cc;
        places = λ i. h.places (suc i) ∙ ap (λ (d : ℕ). member_place d ns i) (sym (end_like e m.offset n.offset m.kind n.kind like.kind like.place));
      }),
    )

like_members : (ms ns : List Member) → AreLike 0 ms ns → SameMembers ms ns
like_members ms ns h = let whole = to_whole ms ns 0 h in record { names = whole.names; kinds = whole.kinds; places = whole.places }

members_like : (ms ns : List Member) → SameMembers ms ns → AreLike 0 ms ns
members_like ms ns h = from_whole ms ns 0 (record { names = h.names; kinds = h.kinds; places = h.places })

-- ---- one step

like_length : (ms ns : List Member) (e : ℕ) → AreLike e ms ns → length ms ≡ length ns
like_length [] [] e h = refl
like_length [] (n ∷ ns) e h = absurd h
like_length (m ∷ ms) [] e h = absurd h
like_length (m ∷ ms) (n ∷ ns) e h = ap suc (like_length ms ns (end_past e m.offset m.kind) h.1)

pub same_length : (ms ns : List Member) → SameMembers ms ns → length ms ≡ length ns
same_length ms ns h = like_length ms ns 0 (members_like ms ns h)

-- what is left is alike just where all is
pub record StandsFor (e r : ℕ) (i : ℕ) (ms ns : List Member) : Type 0 where
  pub reached : counted r ≡ counted e
  pub rest : AreLike e (drop i ms) (drop i ns) → SameMembers ms ns
  pub all : SameMembers ms ns → AreLike e (drop i ms) (drop i ns)

pub first_stands : (ms ns : List Member) → StandsFor 0 0 0 ms ns
first_stands ms ns = record { reached = refl; rest = like_members ms ns; all = members_like ms ns }

pub here : (ms : List Member) (i : ℕ) (m : Member) → i < length ms → m ≡ get_or ms i m → drop i ms ≡ m ∷ drop (i + 1) ms
here ms i m within m_is = at_drop_more (λ (xs : List Member). xs) ms i m within ∙ ap (λ (x : Member). x ∷ drop (i + 1) ms) (sym m_is)

pub next_stands : (e r next i : ℕ) (ms ns : List Member) (m n : Member) → StandsFor e r i ms ns → IsLike e m n → drop i ms ≡ m ∷ drop (i + 1) ms → drop i ns ≡ n ∷ drop (i + 1) ns →
    counted next ≡ counted (end_past e m.offset m.kind) → StandsFor (end_past e m.offset m.kind) next (i + 1) ms ns
next_stands e r next i ms ns m n s like hm hn reached = record {
  reached = reached;
  rest = λ more. s.rest (subst (λ (xs : List Member). AreLike e xs (drop i ns)) (sym hm) (subst (λ (ys : List Member). AreLike e (m ∷ drop (i + 1) ms) ys) (sym hn) (like, more)));
  all = λ same. (subst (λ (ys : List Member). AreLike e (m ∷ drop (i + 1) ms) ys) hn (subst (λ (xs : List Member). AreLike e xs (drop i ns)) hm (s.all same))).1;
}

pub must_be_like : (e r i : ℕ) (ms ns : List Member) (m n : Member) → StandsFor e r i ms ns → drop i ms ≡ m ∷ drop (i + 1) ms → drop i ns ≡ n ∷ drop (i + 1) ns → SameMembers ms ns → IsLike e m n
must_be_like e r i ms ns m n s hm hn same =
    (subst (λ (ys : List Member). AreLike e (m ∷ drop (i + 1) ms) ys) hn (subst (λ (xs : List Member). AreLike e xs (drop i ns)) hm (s.all same))).0

pub all_stand : (e r i : ℕ) (ms ns : List Member) → StandsFor e r i ms ns → length ms ≤ i → length ns ≤ i → SameMembers ms ns
all_stand e r i ms ns s p q =
    s.rest (subst (λ (xs : List Member). AreLike e xs (drop i ns)) (sym (at_drop_all (λ (xs : List Member). xs) ms i p))
    (subst (λ (ys : List Member). AreLike e [] ys) (sym (at_drop_all (λ (ys : List Member). ys) ns i q)) tt))
