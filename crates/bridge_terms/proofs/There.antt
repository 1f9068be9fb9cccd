-- What was written of a message has the message's items, and is translated back to a message with them.
use Rattle.std.proofs.Common.{◌≡◌, ℕ, ◌^◌, ◌<◌, true, false, List, [], ◌∷◌, length, Option, Some, None, Result, Ok, Err, refl, sym, ap, ◌∙◌, decimal}
use Rattle.std.specs.Prelude.{pos}
use Rattle.sbe_types.specs.declared.kind.Leaf.{Leaf as LeafOf}
use Rattle.sbe_types.specs.declared.message.Value.{Value}
use Rattle.sbe_types.specs.declared.message.Value as value
use Rattle.sbe_types.specs.Shown.{admits}
use Rattle.fix_values.specs.declared.rule.V.{V}
use Rattle.fix_values.specs.Numerals.{integer_of}
use Rattle.value_laws.proofs.ReadBack.{numeral_of, spelled_back}
use Rattle.bridge_rules.specs.Rules.{Rule}
use Rattle.bridge_rules.specs.Texts.{text_by}
use Rattle.bridge_rules.specs.Items.{item_by, item_in}
use Rattle.bridge_terms.specs.Plans.{Plan, Tree, done, single, group, map_tree, Each, AreGood}
use Rattle.tagvalue_codec.specs.Fields.{Field}
use Rattle.bridge_terms.specs.Gathering.{item_look, value_look, items_of, item_found, value_found, value_read, count_found, count_admitted, if_admitted, spelled_count, items_of_fields, values_of_fields}
use Rattle.bridge_terms.specs.MessageFields.{fields_of}
use Rattle.bridge_terms.specs.WayBack.{IsBack}
use Rattle.bridge_rules.specs.Sound.{IsSound, IsShown, IsReadable, ShowsGood}
use Rattle.bridge_terms.specs.PlanFacts.{EachRule, IsRoot, EachValue, AreCounted}
use Rattle.bridge_rules.proofs.OptionLemmas.{some_is, and_then_some}
use Rattle.bridge_rules.proofs.BoolLemmas.{if_true}
use Rattle.bridge_terms.proofs.Turning.{back_from, back_so}
use Rattle.bridge_terms.proofs.Writing.{Tells, count_text, written_told}

each_kept : {X : Type 0} (P Q R : X → Type 0) → ((x : X) → P x → Q x → R x) → (xs : List X) → Each P xs → Each Q xs → Each R xs
each_kept P Q R turn [] a b = tt
each_kept P Q R turn (x ∷ xs) a b = (turn x a.0 b.0, each_kept P Q R turn xs a.1 b.1)

-- ---- counts

count_spelled : (n : ℕ) → n < 10 ^ 64 → spelled_count (integer_of (decimal n)) ≡ Some n
count_spelled n few =
    let numeral = numeral_of n few in
    ap spelled_count (spelled_back (decimal n) (pos n) (record { negative = false; digits = decimal n; spelled = refl; numeral = numeral.0; number = ap pos (sym numeral.1) }))

count_told : {X : Type 0} (leaf : LeafOf) (es : List X) → length es < 10 ^ 64 → count_found leaf (count_text es) ≡ Some (length es)
count_told leaf [] few = refl
count_told leaf (e ∷ es) few = count_spelled (length (e ∷ es)) few

count_fits : {X : Type 0} (leaf : LeafOf) (es : List X) → length es < 10 ^ 64 → admits leaf (pos (length es)) ≡ true → count_admitted leaf (count_text es) ≡ Some (length es)
count_fits leaf es few fits =
    and_then_some (count_found leaf (count_text es)) (if_admitted leaf) (length es) (count_told leaf es few)
    ∙ if_true (admits leaf (pos (length es))) (Some (length es)) None fits

-- ---- items

item_told : (rule : Rule) (v : Value) → IsShown rule v → (o : Option (List ℕ)) → text_by rule v ≡ Ok o → item_found rule o ≡ Some (item_by rule v)
item_told rule v shown None h = ap Some (sym (shown.unwritten h))
item_told rule v shown (Some t) h =
    let is = shown.written t h in
    and_then_some (item_in rule t) (λ item. Some (Some item)) is.0 is.1 ∙ ap Some (sym is.2)

items_told : (p : Plan) (t : Tree Value p) → EachValue IsShown p t → AreCounted p t → Tells item_look item_by p t
items_told done t shown counts = tt
items_told (single s rest) t shown counts = (item_told s.rule t.0 shown.0, items_told rest t.1 shown.1 counts)
items_told (group g inner rest) t shown counts = (
  count_told g.count t.0 counts.0,
  each_kept (λ e. EachValue IsShown inner e) (λ e. AreCounted inner e) (λ e. Tells item_look item_by inner e) (λ e a b. items_told inner e a b) t.0 shown.0 counts.2,
  items_told rest t.1 shown.1 counts.3,
)

-- the fields of a message have its items
pub same_items : (p : Plan) → IsRoot p → (t : Tree Value p) → EachValue IsShown p t → AreCounted p t → (fields : List Field) → fields_of p t ≡ Ok fields →
    items_of_fields p fields ≡ Some (items_of p t)
same_items p root t shown counts fields h = written_told item_look item_by p root t (items_told p t shown counts) fields h

-- ---- values

value_or : Option Value → Value
value_or None = value.Null
value_or (Some v) = v

again_of : Rule → Result (Option (List ℕ)) V → Value
again_of rule (Ok o) = value_or (value_found rule o)
again_of rule (Err v) = value.Null

-- the value that what was written of a value is read as
again : Rule → Value → Value
again rule v = again_of rule (text_by rule v)

again_is : (o : Option Value) (w : Value) → o ≡ Some w → o ≡ Some (value_or o)
unfolding value_or
again_is o w h = h ∙ ap Some (sym (ap value_or h))

found_again : (rule : Rule) (v : Value) → IsReadable rule v → (o : Option (List ℕ)) → text_by rule v ≡ Ok o → (w : Value) × (value_found rule o ≡ Some w)
found_again rule v good None h = good.missed h
found_again rule v good (Some t) h = let is = good.read t h in (is.0, ap value_read is.1)

value_again : (rule : Rule) (v : Value) → IsReadable rule v → (o : Option (List ℕ)) → text_by rule v ≡ Ok o → value_found rule o ≡ Some (again rule v)
unfolding again again_of
value_again rule v good o h =
    let is = found_again rule v good o h in
    again_is (value_found rule o) is.0 is.1 ∙ ap Some (sym (ap (again_of rule) h))

values_again : (p : Plan) (t : Tree Value p) → EachValue IsReadable p t → AreCounted p t → Tells value_look again p t
values_again done t good counts = tt
values_again (single s rest) t good counts = (value_again s.rule t.0 good.0, values_again rest t.1 good.1 counts)
values_again (group g inner rest) t good counts = (
  count_fits g.count t.0 counts.0 counts.1,
  each_kept (λ e. EachValue IsReadable inner e) (λ e. AreCounted inner e) (λ e. Tells value_look again inner e) (λ e a b. values_again inner e a b) t.0 good.0 counts.2,
  values_again rest t.1 good.1 counts.3,
)

-- the fields of a message are translated back to one with its items
pub there_and_back : (p : Plan) → IsRoot p → EachRule IsSound p → (t : Tree Value p) → EachValue IsShown p t → EachValue IsReadable p t → AreCounted p t →
    (fields : List Field) → fields_of p t ≡ Ok fields → (u : Tree Value p) × IsBack p fields u × (items_of p u ≡ items_of p t)
there_and_back p root sound t shown good counts fields h =
    let u = map_tree again p t in
    let back = back_from p sound fields u (written_told value_look again p root t (values_again p t good counts) fields h) in
    (u, back, some_is (sym back.same ∙ same_items p root t shown counts fields h))

-- ---- good values

good_shown : (p : Plan) → EachRule ShowsGood p → (t : Tree Value p) → AreGood p t → EachValue IsShown p t
good_shown done shows t good = tt
good_shown (single s rest) shows t good = (shows.0 t.0 good.0, good_shown rest shows.1 t.1 good.1)
good_shown (group g inner rest) shows t good =
    (each_kept (λ e. AreGood inner e) (λ e. AreGood inner e) (λ e. EachValue IsShown inner e) (λ e a b. good_shown inner shows.0 e a) t.0 good.1 good.1, good_shown rest shows.1 t.1 good.2)

-- a message of good values comes back as it was
pub good_back : (p : Plan) → IsRoot p → EachRule IsSound p → EachRule ShowsGood p → (t : Tree Value p) → AreGood p t → AreCounted p t → (fields : List Field) → fields_of p t ≡ Ok fields →
    values_of_fields p fields ≡ Some t
good_back p root sound shows t good counts fields h =
    back_so p sound fields t (record { same = same_items p root t (good_shown p shows t good) counts fields h; good = good })
