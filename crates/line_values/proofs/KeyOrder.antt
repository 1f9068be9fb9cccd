-- The keys of what is read stand in order, so the first unknown key is the least.
use Rattle.std.proofs.Common.{◌≡◌, ℕ, Bool, true, false, List, Some, None, refl, sym, ap, subst, ◌∙◌, inl, inr}
use Rattle.std.specs.Prelude.{if◌then◌else◌, Option, option_map, option_and_then}
use Rattle.std.specs.Ordering.{nat_cmp, match_ordering, ordering_reverse}
use Rattle.std.specs.declared.cmp.Ordering.{Ordering}
use Rattle.std.specs.declared.cmp.Ordering.TheVariants.{Less, Equal, Greater}
use Rattle.std.specs.Cmp.Lexicographic.{slice_cmp}
use Rattle.std.proofs.lemmas.Cmp.{nat_list_cmp_total}
use Rattle.json.specs.Json as json
use Rattle.json.specs.Lex.{tokens}
use Rattle.serde_json.specs.Data.{Data, number, array, object, Items, item, Members, no_members, member, put}
use Rattle.serde_json.specs.Read.{of_json, of_items, of_members, number_of, max_depth, read}
use Rattle.line_values.specs.Objects.{is_named, first_unknown}
use Rattle.line_values.specs.Ordered.{IsBefore, IsBeforeAll, HasOrder, ItemsHaveOrder, MembersHaveOrder, IsLeast}

pub some_is : {A : Type 0} {x y : A} → Some x ≡ Some y → x ≡ y
some_is h = cc

map_some : {A B : Type 0} (f : A → B) (o : Option A) (y : B) → option_map f o ≡ Some y → (x : A) × (o ≡ Some x) × (f x ≡ y)
map_some f None y h = absurd cc
map_some f (Some x) y h = (x, refl, some_is h)

then_some : {A B : Type 0} (f : A → Option B) (o : Option A) (y : B) → option_and_then f o ≡ Some y → (x : A) × (o ≡ Some x) × (f x ≡ Some y)
then_some f None y h = absurd cc
then_some f (Some x) y h = (x, refl, h)

-- ---- a key that is put among others

pub before_more : (key other : List ℕ) (ms : Members) → IsBefore key other → IsBeforeAll other ms → IsBeforeAll key ms
before_more key other no_members h all = tt
before_more key other (member next d ms) h all = (nat_list_cmp_total.trans key other next h all.0, before_more key other ms h all.1)

above_by : (o : Ordering) (key new other : List ℕ) (d e : Data) (ms rest : Members) → IsBefore key new → IsBeforeAll key (member other e ms) → IsBeforeAll key rest
    → IsBeforeAll key (match_ordering o (member new d (member other e ms)) (member other d ms) (member other e rest))
above_by Less key new other d e ms rest h all more = (h, all)
above_by Equal key new other d e ms rest h all more = all
above_by Greater key new other d e ms rest h all more = (all.0, more)

pub above_put : (key new : List ℕ) (d : Data) (ms : Members) → IsBefore key new → IsBeforeAll key ms → IsBeforeAll key (put new d ms)
above_put key new d no_members h all = (h, tt)
above_put key new d (member other e ms) h all = above_by (slice_cmp nat_cmp new other) key new other d e ms (put new d ms) h all (above_put key new d ms h all.1)

put_by : (o : Ordering) (key other : List ℕ) (d e : Data) (ms : Members) → slice_cmp nat_cmp key other ≡ o → HasOrder d → MembersHaveOrder (member other e ms) → MembersHaveOrder (put key d ms)
    → MembersHaveOrder (match_ordering o (member key d (member other e ms)) (member other d ms) (member other e (put key d ms)))
put_by Less key other d e ms is hd h more = ((is, before_more key other ms is h.0), hd, h)
put_by Equal key other d e ms is hd h more = (h.0, hd, h.2)
put_by Greater key other d e ms is hd h more =
    (above_put other key d ms (nat_list_cmp_total.antisymm other key ∙ ap ordering_reverse is) h.0, h.1, more)

put_order : (key : List ℕ) (d : Data) (ms : Members) → HasOrder d → MembersHaveOrder ms → MembersHaveOrder (put key d ms)
put_order key d no_members hd h = (tt, hd, tt)
put_order key d (member other e ms) hd h = put_by (slice_cmp nat_cmp key other) key other d e ms refl hd h (put_order key d ms hd h.2)

-- ---- what is read

mutual
  data_order : (j : json.Json) (d : Data) → of_json j ≡ Some d → HasOrder d
  data_order json.null d h = subst HasOrder (some_is h) tt
  data_order (json.boolean b) d h = subst HasOrder (some_is h) tt
  data_order (json.number s) d h = let found = map_some number (number_of s) d h in subst HasOrder found.2 tt
  data_order (json.string s) d h = subst HasOrder (some_is h) tt
  data_order (json.array js) d h = let found = map_some array (of_items js) d h in subst HasOrder found.2 (items_order js found.0 found.1)
  data_order (json.object ms) d h = let found = map_some object (of_members ms no_members) d h in subst HasOrder found.2 (members_order ms no_members found.0 tt found.1)

  items_order : (js : json.Items) (ds : Items) → of_items js ≡ Some ds → ItemsHaveOrder ds
  items_order json.no_items ds h = subst ItemsHaveOrder (some_is h) tt
  items_order (json.item j js) ds h =
      let first = then_some (λ d. option_map (item d) (of_items js)) (of_json j) ds h in
      let rest = map_some (item first.0) (of_items js) ds first.2 in
      subst ItemsHaveOrder rest.2 (data_order j first.0 first.1, items_order js rest.0 rest.1)

  members_order : (ms : json.Members) (found out : Members) → MembersHaveOrder found → of_members ms found ≡ Some out → MembersHaveOrder out
  members_order json.no_members found out o h = subst MembersHaveOrder (some_is h) o
  members_order (json.member key j ms) found out o h =
      let first = then_some (λ d. of_members ms (put key d found)) (of_json j) out h in
      members_order ms (put key first.0 found) out (put_order key first.0 found (data_order j first.0 first.1) o) first.2

pub read_order : (text : List ℕ) (d : Data) → read text ≡ Some d → HasOrder d
read_order text d h = let found = then_some of_json (option_and_then (λ p. json.if_last p.0 p.1) (json.value max_depth (tokens text))) d h in data_order found.0 d found.2

-- ---- the least key

all_before : (names : List (List ℕ)) (key : List ℕ) (ms : Members) → IsBeforeAll key ms → IsLeast names key ms
all_before names key no_members h = tt
all_before names key (member other d ms) h = (inr (inr h.0), all_before names key ms h.1)

least_by : (b : Bool) (names : List (List ℕ)) (key other : List ℕ) (d : Data) (ms : Members) → is_named other names ≡ b → (if b then first_unknown names ms else Some other) ≡ Some key → IsBeforeAll other ms
    → (first_unknown names ms ≡ Some key → IsLeast names key ms) → IsLeast names key (member other d ms)
least_by true names key other d ms is h above later = (inl is, later h)
least_by false names key other d ms is h above later =
    (inr (inl (sym (some_is h))), all_before names key ms (subst (λ k. IsBeforeAll k ms) (some_is h) above))

pub least_told : (names : List (List ℕ)) (ms : Members) (key : List ℕ) → MembersHaveOrder ms → first_unknown names ms ≡ Some key → IsLeast names key ms
least_told names no_members key o h = tt
least_told names (member other d ms) key o h = least_by (is_named other names) names key other d ms refl h o.0 (λ later. least_told names ms key o.2 later)
