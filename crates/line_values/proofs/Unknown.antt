-- The least unknown key of members in the order in which they came.
use Rattle.std.proofs.Common.{◌≡◌, ℕ, ◌+◌, ◌<◌, Bool, true, false, cond, List, [], ◌∷◌, length, map, take, get_or, Bor, Some, None, refl, sym, ap, subst, ◌∙◌}
use Rattle.std.specs.Prelude.{if◌then◌else◌, Option, ⊤}
use Rattle.std.specs.Ordering.{is_lt, nat_cmp, match_ordering, ordering_reverse}
use Rattle.std.specs.declared.cmp.Ordering.{Ordering}
use Rattle.std.specs.declared.cmp.Ordering.TheVariants.{Less, Equal, Greater}
use Rattle.std.specs.Cmp.Lexicographic.{slice_cmp}
use Rattle.std.proofs.Common.{is_eq}
use Rattle.std.proofs.lemmas.Cmp.{nat_list_cmp_total}
use Rattle.std.proofs.lemmas.Map.Text.{is_eq-slice_cmp}
use Rattle.std.proofs.lemmas.Slice.Eq.{bytes_eq-Decides}
use Rattle.serde_json.specs.Data.{Data, Members, no_members, member, put}
use Rattle.json_data.specs.Trees.{data_of, members_of, put_each}
use Rattle.json_data.proofs.Growing.{Pair, member_there}
use Rattle.line_values.specs.Objects.{is_named, first_unknown}
use Rattle.line_values.specs.Code.{least_of}
use Rattle.line_values.specs.Ordered.{IsBefore, IsBeforeAll}
use Rattle.line_values.proofs.KeyOrder.{some_is, before_more, above_put}

-- ---- the keys of what was put stand in order

-- the keys stand in order
abbrev InOrder : Members → Type 0
InOrder no_members = ⊤
InOrder (member key d ms) = IsBeforeAll key ms × InOrder ms

order_by : (o : Ordering) (key other : List ℕ) (d e : Data) (ms : Members) → slice_cmp nat_cmp key other ≡ o → InOrder (member other e ms) → InOrder (put key d ms)
    → InOrder (match_ordering o (member key d (member other e ms)) (member other d ms) (member other e (put key d ms)))
order_by Less key other d e ms is h more = ((is, before_more key other ms is h.0), h)
order_by Equal key other d e ms is h more = h
order_by Greater key other d e ms is h more = (above_put other key d ms (nat_list_cmp_total.antisymm other key ∙ ap ordering_reverse is) h.0, more)

order_put : (key : List ℕ) (d : Data) (ms : Members) → InOrder ms → InOrder (put key d ms)
order_put key d no_members h = (tt, tt)
order_put key d (member other e ms) h = order_by (slice_cmp nat_cmp key other) key other d e ms refl h (order_put key d ms h.1)

order_each : (ds : List (Bor (List ℕ) × Data)) (found : Members) → InOrder found → InOrder (put_each ds found)
order_each [] found h = h
order_each (d ∷ ds) found h = order_each ds (put d.0.now d.1 found) (order_put d.0.now d.1 found h)

-- ---- one key more

module _ (names : List (List ℕ)) where
  after_by : (b : Bool) (key other : List ℕ) (ms : Members) (found : List ℕ) → IsBefore key other → (first_unknown names ms ≡ Some found → IsBefore key found)
      → (if b then first_unknown names ms else Some other) ≡ Some found → IsBefore key found
  after_by true key other ms found h later is = later is
  after_by false key other ms found h later is = subst (IsBefore key) (some_is is) h

  unknown_after : (key : List ℕ) (ms : Members) (found : List ℕ) → IsBeforeAll key ms → first_unknown names ms ≡ Some found → IsBefore key found
  unknown_after key no_members found h is = absurd cc
  unknown_after key (member other e ms) found h is = after_by (is_named other names) key other ms found h.0 (unknown_after key ms found h.1) is

  less_case : (named : Bool) (found : Option (List ℕ)) (key : List ℕ) → ((x : List ℕ) → found ≡ Some x → IsBefore key x) → (if named then found else Some key) ≡ (if named then found else Some (least_of found key))
  less_case true found key h = refl
  less_case false None key h = refl
  less_case false (Some x) key h = ap Some (sym (ap (λ o. if is_lt o then x else key) (nat_list_cmp_total.antisymm x key ∙ ap ordering_reverse (h x refl))))

  either : (b : Bool) (key : List ℕ) → key ≡ (if b then key else key)
  either true key = refl
  either false key = refl

  equal_case : (named : Bool) (rest : Option (List ℕ)) (key : List ℕ) → (if named then rest else Some key) ≡ (if named then (if named then rest else Some key) else Some (least_of (if named then rest else Some key) key))
  equal_case true rest key = refl
  equal_case false rest key = ap Some (either (is_lt (slice_cmp nat_cmp key key)) key)

  greater_case : (named known : Bool) (rest : Option (List ℕ)) (key other : List ℕ) → slice_cmp nat_cmp other key ≡ Less
      → (if known then (if named then rest else Some (least_of rest key)) else Some other)
      ≡ (if named then (if known then rest else Some other) else Some (least_of (if known then rest else Some other) key))
  greater_case true true rest key other h = refl
  greater_case false true rest key other h = refl
  greater_case true false rest key other h = refl
  greater_case false false rest key other h = ap Some (sym (ap (λ o. if is_lt o then other else key) h))

  -- the least unknown key, once one key more was put
  abbrev with_key : List ℕ → Option (List ℕ) → Option (List ℕ)
  with_key key found = if is_named key names then found else Some (least_of found key)

  same_key : (key other : List ℕ) (d e : Data) (ms : Members) → key ≡ other → first_unknown names (member other d ms) ≡ with_key key (first_unknown names (member other e ms))
  same_key key other d e ms same =
      subst (λ k. first_unknown names (member other d ms) ≡ with_key k (first_unknown names (member other e ms))) (sym same) (equal_case (is_named other names) (first_unknown names ms) other)

  put_by : (o : Ordering) (key other : List ℕ) (d e : Data) (ms : Members) → slice_cmp nat_cmp key other ≡ o → InOrder (member other e ms) → first_unknown names (put key d ms) ≡ with_key key (first_unknown names ms)
      → first_unknown names (match_ordering o (member key d (member other e ms)) (member other d ms) (member other e (put key d ms))) ≡ with_key key (first_unknown names (member other e ms))
  put_by Less key other d e ms is h later =
      less_case (is_named key names) (first_unknown names (member other e ms)) key (λ x found. unknown_after key (member other e ms) x (is, before_more key other ms is h.0) found)
  put_by Equal key other d e ms is h later = same_key key other d e ms ((bytes_eq-Decides key other).0 (sym (is_eq-slice_cmp key other) ∙ ap is_eq is))
  put_by Greater key other d e ms is h later =
      ap (λ rest. if is_named other names then rest else Some other) later
      ∙ greater_case (is_named key names) (is_named other names) (first_unknown names ms) key other (nat_list_cmp_total.antisymm other key ∙ ap ordering_reverse is)

  unknown_put : (key : List ℕ) (d : Data) (ms : Members) → InOrder ms → first_unknown names (put key d ms) ≡ with_key key (first_unknown names ms)
  unknown_put key d no_members h = refl
  unknown_put key d (member other e ms) h = put_by (slice_cmp nat_cmp key other) key other d e ms refl h (unknown_put key d ms h.1)

pub unknown_there : (names : List (List ℕ)) (ms : List Pair) (i : ℕ) (other : Pair) → i < length ms
    → first_unknown names (members_of (take (i + 1) ms))
    ≡ cond (is_named (get_or ms i other).0.now names) (first_unknown names (members_of (take i ms))) (Some (least_of (first_unknown names (members_of (take i ms))) (get_or ms i other).0.now))
unknown_there names ms i other h =
    ap (first_unknown names) (member_there ms i other h)
    ∙ unknown_put names (get_or ms i other).0.now (data_of (get_or ms i other).1) (members_of (take i ms)) (order_each (map (λ (p : Pair). (p.0, data_of p.1)) (take i ms)) no_members tt)
