-- Fields are refused exactly where no values are gathered of them.
use Rattle.std.proofs.Common.{◌≡◌, inl, inr, ℕ, Bool, true, false, cond, List, [], ◌∷◌, map, Option, Some, None, Result, Ok, Err, refl, sym, ap, ◌∙◌, subst}
use Rattle.std.specs.Prelude.{◌&&◌, ◌||◌, ◌==◌, not, ℤ, pos, negsuc}
use Rattle.std.proofs.lemmas.Bool.{eqb-true, eq-eqb}
use Rattle.sbe_types.specs.declared.kind.Leaf.{Leaf as LeafOf}
use Rattle.sbe_types.specs.declared.message.Value.{Value}
use Rattle.sbe_types.specs.Shown.{admits}
use Rattle.fix_values.specs.declared.rule.V.{V}
use Rattle.fix_values.specs.declared.rule.V.TheVariants as why
use Rattle.fix_values.specs.Numerals.{integer_of}
use Rattle.bridge_rules.specs.Rules.{Rule}
use Rattle.bridge_rules.specs.Values.{Misread, not_read, not_the_constant, value_by, missing_by}
use Rattle.bridge_rules.specs.Members.{and_then}
use Rattle.bridge_terms.specs.Plans.{Plan, Repeat, Tree, done, single, group, tags, owns, Each, is_in}
use Rattle.tagvalue_codec.specs.Fields.{Field}
use Rattle.bridge_terms.specs.Parts.{Part, parts_of, pieces_of, part_at, are_known, are_distinct}
use Rattle.bridge_terms.specs.Gathering.{in_front, each, in_level, gather, group_in, entries_in, is_run, text_at, value_look, value_found, value_read, spelled_count, count_admitted, if_admitted, values_of_fields}
use Rattle.bridge_terms.specs.WayBack.{Refusal, or_else, first, text_wrong, count_read, wrong_in_order, group_wrong, wrong_at, if_unset, slot_missing, group_missing, missing_in, back_refused}
use Rattle.bridge_terms.specs.PlanFacts.{IsPlaced}
use Rattle.bridge_rules.proofs.OptionLemmas.{some_is, none_some, some_none, ok_is, and_then_is, and_then_some, if_some, and_first, and_second}
use Rattle.bridge_terms.proofs.AnswerLemmas.{both_is, both_some, in_front_is}
use Rattle.bridge_rules.proofs.BoolLemmas.{true_false, either, or_left, or_right, none_of, second_of, not_true, same_self, if_true, if_false}
use Rattle.bridge_terms.proofs.TagLemmas.{at_is, at_each, each_at}

-- ---- refusals

or_none : (a b : Option Refusal) → or_else a b ≡ None → (a ≡ None) × (b ≡ None)
or_none None b h = (refl, h)
or_none (Some r) b h = some_none h

neither : (a b : Option Refusal) → a ≡ None → b ≡ None → or_else a b ≡ None
neither a b p q = ap (λ a. or_else a b) p ∙ q

if_none : (t : Bool) (r : Refusal) (o : Option Refusal) → cond t (Some r) o ≡ None → (t ≡ false) × (o ≡ None)
if_none true r o h = some_none h
if_none false r o h = (refl, h)

unless_none : (t : Bool) (r : Refusal) (o : Option Refusal) → cond t o (Some r) ≡ None → (t ≡ true) × (o ≡ None)
unless_none true r o h = (refl, h)
unless_none false r o h = some_none h

unread_is : {X : Type 0} (tag : ℕ) (r : Result X Misread) → text_wrong tag r ≡ None → (x : X) × (r ≡ Ok x)
unread_is tag (Ok x) h = (x, refl)
unread_is tag (Err (not_read v)) h = some_none h
unread_is tag (Err not_the_constant) h = some_none h

unset_is : (tag : ℕ) (o : Option Value) → if_unset tag o ≡ None → (v : Value) × (o ≡ Some v)
unset_is tag None h = some_none h
unset_is tag (Some v) h = (v, refl)

read_is : (r : Result Value Misread) (v : Value) → value_read r ≡ Some v → r ≡ Ok v
read_is (Ok w) v h = ap Ok (some_is h)
read_is (Err w) v h = none_some h

-- ---- parts in the order of the text

wrongs_none : (wrong : Part → Option Refusal) (seen : List ℕ) (parts : List Part) → wrong_in_order wrong seen parts ≡ None → Each (λ x. wrong x ≡ None) parts
wrongs_none wrong seen [] h = tt
wrongs_none wrong seen (x ∷ xs) h =
    let is = or_none _ _ h in
    ((if_none (is_in x.tag seen) _ (wrong x) is.0).1, wrongs_none wrong (x.tag ∷ seen) xs is.1)

apart_seen : (wrong : Part → Option Refusal) (seen : List ℕ) (parts : List Part) → wrong_in_order wrong seen parts ≡ None →
    (n : ℕ) → is_in n seen ≡ true → is_in n (map (λ y. y.tag) parts) ≡ false
apart_seen wrong seen [] h n here = refl
apart_seen wrong seen (x ∷ xs) h n here =
    let is = or_none _ _ h in
    let new = (if_none (is_in x.tag seen) _ (wrong x) is.0).0 in
    let other : (x.tag == n) ≡ false = elim (either (x.tag == n)) [
      | inl t ↦ true_false (ap (λ m. is_in m seen) (eqb-true x.tag n t) ∙ here) new
      | inr f ↦ f
    ] in
    none_of (x.tag == n) _ other (apart_seen wrong (x.tag ∷ seen) xs is.1 n (or_right (x.tag == n) (is_in n seen) here))

distinct_from : (wrong : Part → Option Refusal) (seen : List ℕ) (parts : List Part) → wrong_in_order wrong seen parts ≡ None → are_distinct parts ≡ true
distinct_from wrong seen [] h = refl
distinct_from wrong seen (x ∷ xs) h =
    let is = or_none _ _ h in
    let alone = apart_seen wrong (x.tag ∷ seen) xs is.1 x.tag (or_left (x.tag == x.tag) (is_in x.tag seen) (same_self x.tag)) in
    both_true alone (distinct_from wrong (x.tag ∷ seen) xs is.1)
  where
    both_true : {a b : Bool} → a ≡ false → b ≡ true → not a && b ≡ true
    both_true {b = b} p q = ap (λ a. not a && b) p ∙ q

in_order_so : (wrong : Part → Option Refusal) (seen : List ℕ) (parts : List Part) → are_distinct parts ≡ true →
    ((n : ℕ) → is_in n seen ≡ true → is_in n (map (λ y. y.tag) parts) ≡ false) → Each (λ x. wrong x ≡ None) parts → wrong_in_order wrong seen parts ≡ None
in_order_so wrong seen [] distinct apart all = refl
in_order_so wrong seen (x ∷ xs) distinct apart all =
    let alone : is_in x.tag (map (λ z. z.tag) xs) ≡ false = not_true _ (and_first _ _ distinct) in
    let new : is_in x.tag seen ≡ false = elim (either (is_in x.tag seen)) [
      | inl t ↦ true_false (or_left (x.tag == x.tag) _ (same_self x.tag)) (apart x.tag t)
      | inr f ↦ f
    ] in
    let later : (n : ℕ) → is_in n (x.tag ∷ seen) ≡ true → is_in n (map (λ y. y.tag) xs) ≡ false = λ n here. elim (either (x.tag == n)) [
      | inl t ↦ ap (λ m. is_in m (map (λ y. y.tag) xs)) (sym (eqb-true x.tag n t)) ∙ alone
      | inr f ↦ or_last (x.tag == n) _ (apart n (second_of (x.tag == n) (is_in n seen) here f))
    ] in
    neither _ _ (if_false (is_in x.tag seen) _ (wrong x) new ∙ all.0) (in_order_so wrong (x.tag ∷ seen) xs (and_second _ _ distinct) later all.1)
  where
    or_last : (a b : Bool) → a || b ≡ false → b ≡ false
    or_last true b h = true_false refl h
    or_last false b h = h

known_from : (p : Plan) (x : Part) → wrong_at p x ≡ None → is_in x.tag (tags p) ≡ true
known_from done x h = some_none h
known_from (single s rest) x h = elim (either (s.tag == x.tag)) [
  | inl t ↦ or_left (s.tag == x.tag) _ t
  | inr f ↦ or_right (s.tag == x.tag) _ (known_from rest x (sym (if_false (s.tag == x.tag) _ (wrong_at rest x) f) ∙ h))
]
known_from (group g inner rest) x h = elim (either (g.tag == x.tag)) [
  | inl t ↦ or_left (g.tag == x.tag) _ t
  | inr f ↦ or_right (g.tag == x.tag) _ (known_from rest x (sym (if_false (g.tag == x.tag) _ (wrong_at rest x) f) ∙ h))
]

all_known : (p : Plan) (parts : List Part) → Each (λ x. wrong_at p x ≡ None) parts → are_known (tags p) parts ≡ true
all_known p [] all = refl
all_known p (x ∷ xs) all = ap (λ a. a && are_known (tags p) xs) (known_from p x all.0) ∙ all_known p xs all.1

-- ---- one part

abbrev Unrefused : Plan → List Part → Type 0
Unrefused p parts = (tag : ℕ) (x : Part) → is_in tag (tags p) ≡ true → part_at tag parts ≡ Some x → wrong_at p x ≡ None

slot_set : (tag : ℕ) (rule : Rule) (o : Option Part) → ((x : Part) → o ≡ Some x → text_wrong x.tag (value_by rule x.text) ≡ None) →
    slot_missing tag rule o ≡ None → (v : Value) × (value_found rule (and_then o (λ x. Some x.text)) ≡ Some v)
slot_set tag rule None fine set = unset_is tag (missing_by rule) set
slot_set tag rule (Some x) fine set = let is = unread_is x.tag (value_by rule x.text) (fine x refl) in (is.0, ap value_read is.1)

slot_fine : (tag : ℕ) (rule : Rule) (o : Option Part) (v : Value) → value_found rule (and_then o (λ x. Some x.text)) ≡ Some v →
    ((x : Part) → o ≡ Some x → text_wrong x.tag (value_by rule x.text) ≡ None) × (slot_missing tag rule o ≡ None)
slot_fine tag rule None v h = (λ x k. none_some k, ap (if_unset tag) h)
slot_fine tag rule (Some x) v h =
    (λ y k. subst (λ y. text_wrong y.tag (value_by rule y.text) ≡ None) (some_is k) (ap (text_wrong x.tag) (read_is (value_by rule x.text) v h)), refl)

-- ---- a group

counted_admitted : (leaf : LeafOf) (z : Option ℤ) (n : ℕ) → count_read leaf z ≡ Ok n → and_then (spelled_count z) (if_admitted leaf) ≡ Some n
counted_admitted leaf None n h = absurd (never h)
  where
    never : {v : V} → ◌≡◌ {A = Result ℕ V} (Err v) (Ok n) → ⊥
    never k = cc
counted_admitted leaf (Some (negsuc k)) n h = absurd (never h)
  where
    never : {v : V} → ◌≡◌ {A = Result ℕ V} (Err v) (Ok n) → ⊥
    never k = cc
counted_admitted leaf (Some (pos k)) n h = by_test why.Range (admits leaf (pos k)) h
  where
    by_test : (v : V) (t : Bool) → ◌≡◌ {A = Result ℕ V} (cond t (Ok k) (Err v)) (Ok n) → cond t (Some k) None ≡ Some n
    by_test v true h = ap Some (ok_is h)
    by_test v false h = absurd (never h)
      where
        never : {v : V} → ◌≡◌ {A = Result ℕ V} (Err v) (Ok n) → ⊥
        never k = cc

admitted_counted : (leaf : LeafOf) (z : Option ℤ) (n : ℕ) → and_then (spelled_count z) (if_admitted leaf) ≡ Some n → count_read leaf z ≡ Ok n
admitted_counted leaf None n h = none_some h
admitted_counted leaf (Some (negsuc k)) n h = none_some h
admitted_counted leaf (Some (pos k)) n h = by_test why.Range (admits leaf (pos k)) h
  where
    by_test : (v : V) (t : Bool) → cond t (Some k) None ≡ Some n → ◌≡◌ {A = Result ℕ V} (cond t (Ok k) (Err v)) (Ok n)
    by_test v true h = ap Ok (some_is h)
    by_test v false h = none_some h

first_each : {X : Type 0} (wrong want : List Field → Option Refusal) (read : List Field → Option X) →
    ((piece : List Field) → wrong piece ≡ None → want piece ≡ None → (e : X) × (read piece ≡ Some e)) →
    (ps : List (List Field)) → first wrong ps ≡ None → first want ps ≡ None → (es : List X) × (each read ps ≡ Some es)
first_each wrong want read turn [] a b = ([], refl)
first_each wrong want read turn (p ∷ ps) a b =
    let x = or_none _ _ a in
    let y = or_none _ _ b in
    let one = turn p x.0 y.0 in
    let more = first_each wrong want read turn ps x.1 y.1 in
    (one.0 ∷ more.0, ap (λ o. in_front o (each read ps)) one.1 ∙ ap (in_front (Some one.0)) more.1)

each_first : {X : Type 0} (wrong want : List Field → Option Refusal) (read : List Field → Option X) →
    ((piece : List Field) (e : X) → read piece ≡ Some e → (wrong piece ≡ None) × (want piece ≡ None)) →
    (ps : List (List Field)) (es : List X) → each read ps ≡ Some es → (first wrong ps ≡ None) × (first want ps ≡ None)
each_first wrong want read turn [] es h = (refl, refl)
each_first wrong want read turn (p ∷ ps) es h =
    let is = in_front_is (read p) (each read ps) es h in
    let one = turn p is.0 is.2 in
    let more = each_first wrong want read turn ps is.1 is.3 in
    (neither _ _ one.0 more.0, neither _ _ one.1 more.1)

counted_fine : (g : Repeat) (wrong : List Field → Option Refusal) (x : Part) (r : Result ℕ V) → group_wrong g wrong x r ≡ None →
    (n : ℕ) × (r ≡ Ok n) × (is_run n (pieces_of g.delimiter x.run) ≡ true) × (first wrong (pieces_of g.delimiter x.run).pieces ≡ None)
counted_fine g wrong x (Err v) h = some_none h
counted_fine g wrong x (Ok n) h =
    let is = unless_none (is_run n (pieces_of g.delimiter x.run)) _ (first wrong (pieces_of g.delimiter x.run).pieces) h in
    (n, refl, is.0, is.1)

group_set : {X : Type 0} (g : Repeat) (wrong want : List Field → Option Refusal) (read : List Field → Option X) →
    ((piece : List Field) → wrong piece ≡ None → want piece ≡ None → (e : X) × (read piece ≡ Some e)) →
    (o : Option Part) → ((x : Part) → o ≡ Some x → group_wrong g wrong x (count_read g.count (integer_of x.text)) ≡ None) → group_missing g want o ≡ None →
    (es : List X) × (group_in (count_admitted g.count) g.delimiter read o ≡ Some es)
group_set g wrong want read turn None fine set =
    let is = unless_none (admits g.count (pos 0)) _ None set in
    ([], ap (λ o. and_then o (λ n. Some [])) (if_true (admits g.count (pos 0)) (Some 0) None is.0))
group_set g wrong want read turn (Some x) fine set =
    let cut = pieces_of g.delimiter x.run in
    let is = counted_fine g wrong x (count_read g.count (integer_of x.text)) (fine x refl) in
    let all = first_each wrong want read turn cut.pieces is.3 set in (
      all.0,
      and_then_some (count_admitted g.count (Some x.text)) (λ n. entries_in read n cut) is.0 (counted_admitted g.count (integer_of x.text) is.0 is.1)
          ∙ if_true (is_run is.0 cut) (each read cut.pieces) None is.2 ∙ all.1,
    )

group_fine : {X : Type 0} (g : Repeat) (wrong want : List Field → Option Refusal) (read : List Field → Option X) →
    ((piece : List Field) (e : X) → read piece ≡ Some e → (wrong piece ≡ None) × (want piece ≡ None)) →
    (o : Option Part) (es : List X) → group_in (count_admitted g.count) g.delimiter read o ≡ Some es →
    ((x : Part) → o ≡ Some x → group_wrong g wrong x (count_read g.count (integer_of x.text)) ≡ None) × (group_missing g want o ≡ None)
group_fine g wrong want read turn None es h =
    let is = and_then_is (count_admitted g.count None) (λ n. Some []) es h in
    let test = if_some (admits g.count (pos 0)) (Some 0) is.0 is.1 in
    (λ x k. none_some k, if_true (admits g.count (pos 0)) None _ test.0)
group_fine g wrong want read turn (Some x) es h =
    let cut = pieces_of g.delimiter x.run in
    let is = and_then_is (count_admitted g.count (Some x.text)) (λ n. entries_in read n cut) es h in
    let run = if_some (is_run is.0 cut) (each read cut.pieces) es is.2 in
    let all = each_first wrong want read turn cut.pieces es run.1 in
    let count = admitted_counted g.count (integer_of x.text) is.0 is.1 in (
      λ y k. subst (λ y. group_wrong g wrong y (count_read g.count (integer_of y.text)) ≡ None) (some_is k)
          (ap (group_wrong g wrong x) count ∙ if_true (is_run is.0 cut) _ _ run.0 ∙ all.0),
      all.1,
    )

-- ---- a level

level_set : {X : Type 0} (p : Plan) (read : List Part → Option X) →
    ((parts : List Part) → Unrefused p parts → missing_in p parts ≡ None → (t : X) × (read parts ≡ Some t)) →
    (fields : List Field) → wrong_in_order (wrong_at p) [] (parts_of (owns p) fields) ≡ None → missing_in p (parts_of (owns p) fields) ≡ None →
    (t : X) × (in_level p read fields ≡ Some t)
level_set p read turn fields ordered set =
    let parts = parts_of (owns p) fields in
    let all = wrongs_none (wrong_at p) [] parts ordered in
    let known = all_known p parts all in
    let distinct = distinct_from (wrong_at p) [] parts ordered in
    let is = turn parts (λ tag x here found. at_each (λ x. wrong_at p x ≡ None) tag parts x all found) set in
    (is.0, if_true (are_known (tags p) parts && are_distinct parts) (read parts) None (ap (λ a. a && are_distinct parts) known ∙ distinct) ∙ is.1)

level_fine : {X : Type 0} (p : Plan) (read : List Part → Option X) →
    ((parts : List Part) (t : X) → read parts ≡ Some t → Unrefused p parts × (missing_in p parts ≡ None)) →
    (fields : List Field) (t : X) → in_level p read fields ≡ Some t →
    (wrong_in_order (wrong_at p) [] (parts_of (owns p) fields) ≡ None) × (missing_in p (parts_of (owns p) fields) ≡ None)
level_fine p read turn fields t h =
    let parts = parts_of (owns p) fields in
    let is = if_some (are_known (tags p) parts && are_distinct parts) (read parts) t h in
    let known = and_first _ _ is.0 in
    let distinct = and_second _ _ is.0 in
    let here = turn parts t is.1 in
    (in_order_so (wrong_at p) [] parts distinct (λ n seen. true_false seen refl) (each_at (λ x. wrong_at p x ≡ None) (tags p) parts known distinct here.0), here.1)

-- a place after another: what is wrong there
later_fine : (n : ℕ) (ns : List ℕ) (parts : List Part) (tag : ℕ) (x : Part) (here later : Option Refusal) → is_in n ns ≡ false → is_in tag ns ≡ true → part_at tag parts ≡ Some x →
    cond (n == x.tag) here later ≡ None → later ≡ None
later_fine n ns parts tag x here later new known found h = elim (either (n == x.tag)) [
  | inl t ↦ true_false (ap (λ m. is_in m ns) (eqb-true n x.tag t ∙ at_is tag parts x found) ∙ new_false) known_true
  | inr f ↦ sym (if_false (n == x.tag) here later f) ∙ h
]
  where
    new_false : is_in tag ns ≡ true
    new_false = known

    known_true : is_in n ns ≡ false
    known_true = new

here_fine : (n : ℕ) (parts : List Part) (x : Part) (here later : Option Refusal) → part_at n parts ≡ Some x → cond (n == x.tag) here later ≡ None → here ≡ None
here_fine n parts x here later found h = sym (if_true (n == x.tag) here later (eq-eqb n x.tag (sym (at_is n parts x found)))) ∙ h

-- what is wrong at a place or after it
place_fine : (n : ℕ) (ns : List ℕ) (parts : List Part) (here later : Part → Option Refusal) →
    ((x : Part) → part_at n parts ≡ Some x → here x ≡ None) →
    ((tag : ℕ) (x : Part) → is_in tag ns ≡ true → part_at tag parts ≡ Some x → later x ≡ None) →
    (tag : ℕ) (x : Part) → is_in tag (n ∷ ns) ≡ true → part_at tag parts ≡ Some x → cond (n == x.tag) (here x) (later x) ≡ None
place_fine n ns parts here later first rest tag x known found = elim (either (n == x.tag)) [
  | inl t ↦ if_true (n == x.tag) (here x) (later x) t ∙ first x (ap (λ m. part_at m parts) (eqb-true n x.tag t ∙ at_is tag parts x found) ∙ found)
  | inr f ↦ if_false (n == x.tag) (here x) (later x) f
      ∙ rest tag x (second_of (n == tag) (is_in tag ns) known (ap (λ m. n == m) (sym (at_is tag parts x found)) ∙ f)) found
]

pub all_set : (p : Plan) → IsPlaced p → (parts : List Part) → Unrefused p parts → missing_in p parts ≡ None → (t : Tree Value p) × (gather value_look p parts ≡ Some t)
all_set done placed parts fine set = (tt, refl)
all_set (single s rest) placed parts fine set =
    let wants = or_none _ _ set in
    let here = slot_set s.tag s.rule (part_at s.tag parts)
    (λ x found. here_fine s.tag parts x (text_wrong x.tag (value_by s.rule x.text)) (wrong_at rest x) found (fine s.tag x (or_left (s.tag == s.tag) (is_in s.tag (tags rest)) (same_self s.tag)) found)) wants.0 in
    let more = all_set rest placed.1 parts
    (λ tag x known found. later_fine s.tag (tags rest) parts tag x (text_wrong x.tag (value_by s.rule x.text)) (wrong_at rest x) placed.0 known found (fine tag x (or_right (s.tag == tag) (is_in tag (tags rest)) known) found)) wants.1 in
    ((here.0, more.0), both_some _ _ _ _ here.1 more.1)
all_set (group g inner rest) placed parts fine set =
    let wants = or_none _ _ set in
    let wrong = λ (piece : List Field). wrong_in_order (λ y. wrong_at inner y) [] (parts_of (owns inner) piece) in
    let want = λ (piece : List Field). missing_in inner (parts_of (owns inner) piece) in
    let read = in_level inner (λ piece. gather value_look inner piece) in
    let here = group_set g wrong want read (λ piece a b. level_set inner (λ piece. gather value_look inner piece) (λ ps f s. all_set inner placed.1 ps f s) piece a b) (part_at g.tag parts)
    (λ x found. here_fine g.tag parts x (group_wrong g wrong x (count_read g.count (integer_of x.text))) (wrong_at rest x) found (fine g.tag x (or_left (g.tag == g.tag) (is_in g.tag (tags rest)) (same_self g.tag)) found)) wants.0 in
    let more = all_set rest placed.2 parts
    (λ tag x known found. later_fine g.tag (tags rest) parts tag x (group_wrong g wrong x (count_read g.count (integer_of x.text))) (wrong_at rest x) placed.0 known found (fine tag x (or_right (g.tag == tag) (is_in tag (tags rest)) known) found)) wants.1 in
    ((here.0, more.0), both_some _ _ _ _ here.1 more.1)

pub all_fine : (p : Plan) → (parts : List Part) (t : Tree Value p) → gather value_look p parts ≡ Some t → Unrefused p parts × (missing_in p parts ≡ None)
all_fine done parts t h = (λ tag x known found. true_false known refl, refl)
all_fine (single s rest) parts t h =
    let is = both_is (value_found s.rule (text_at s.tag parts)) (gather value_look rest parts) t h in
    let here = slot_fine s.tag s.rule (part_at s.tag parts) t.0 is.0 in
    let more = all_fine rest parts t.1 is.1 in
    (place_fine s.tag (tags rest) parts (λ x. text_wrong x.tag (value_by s.rule x.text)) (wrong_at rest) here.0 more.0, neither _ _ here.1 more.1)
all_fine (group g inner rest) parts t h =
    let wrong = λ (piece : List Field). wrong_in_order (λ y. wrong_at inner y) [] (parts_of (owns inner) piece) in
    let want = λ (piece : List Field). missing_in inner (parts_of (owns inner) piece) in
    let read = in_level inner (λ piece. gather value_look inner piece) in
    let is = both_is (group_in (count_admitted g.count) g.delimiter read (part_at g.tag parts)) (gather value_look rest parts) t h in
    let here = group_fine g wrong want read (λ piece e k. level_fine inner (λ piece. gather value_look inner piece) (λ ps e k. all_fine inner ps e k) piece e k) (part_at g.tag parts) t.0 is.0 in
    let more = all_fine rest parts t.1 is.1 in
    (place_fine g.tag (tags rest) parts (λ x. group_wrong g wrong x (count_read g.count (integer_of x.text))) (wrong_at rest) here.0 more.0, neither _ _ here.1 more.1)

-- ---- a message

-- fields that aren't refused have values
pub unrefused_read : (p : Plan) → IsPlaced p → (fields : List Field) → back_refused p fields ≡ None → (t : Tree Value p) × (values_of_fields p fields ≡ Some t)
unrefused_read p placed fields h =
    let is = or_none _ _ h in
    level_set p (λ parts. gather value_look p parts) (all_set p placed) fields is.0 is.1

-- and the other way round
pub read_unrefused : (p : Plan) (fields : List Field) (t : Tree Value p) → values_of_fields p fields ≡ Some t → back_refused p fields ≡ None
read_unrefused p fields t h =
    let is = level_fine p (λ parts. gather value_look p parts) (all_fine p) fields t h in
    neither _ _ is.0 is.1
