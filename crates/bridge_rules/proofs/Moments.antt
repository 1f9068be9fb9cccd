-- The rule of moments keeps what the laws of messages ask.
use Rattle.std.proofs.Common.{◌≡◌, ℕ, ◌-◌, Bool, true, false, cond, Option, Some, None, Result, Ok, Err, refl, sym, ap, ◌∙◌, ℤ, pos}
use Rattle.std.specs.Prelude.{◌&&◌, ◌==◌, nat_le}
use Rattle.std.proofs.lemmas.Bool.{eqb-true, eq-eqb}
use Rattle.sbe_types.specs.declared.kind.Leaf.{Leaf as LeafOf}
use Rattle.sbe_types.specs.declared.message.Value.{Value, items_hidden-the_row-Value-0}
use Rattle.sbe_types.specs.declared.message.Value as value
use Rattle.sbe_types.specs.Shown.{is_optional}
use Rattle.fix_values.specs.declared.rule.V.{V}
use Rattle.fix_values.specs.declared.rule.V.TheVariants as why
use Rattle.fix_values.specs.Numerals.{is_value}
use Rattle.fix_values.specs.Decimals.{leaf_number, widened}
use Rattle.date_answers.specs.Answers.{Instant, in_unit, is_unit, least_unit}
use Rattle.bridge_rules.specs.Items.{Item, instant, item_by, item_of_read, instant_item_of, unit_on_wire}
use Rattle.bridge_rules.specs.Rules.{moment, From, UnitBy, always, on_wire}
use Rattle.bridge_rules.specs.Values.{TimeCount, value_from, unit_of_null, instant_read, in_unit_of, unit_admitted, time_count, moment_value}
use Rattle.bridge_rules.specs.Members.{two_members}
use Rattle.bridge_rules.specs.Good.{has_unit}
use Rattle.bridge_rules.specs.Sound.{IsSound}
use Rattle.bridge_rules.proofs.OptionLemmas.{some_is, ok_is, and_first, and_second}
use Rattle.bridge_rules.proofs.BoolLemmas.{if_true}
use Rattle.bridge_rules.proofs.PlainRules.{err_ok, made_is, judged_is, judged_so}
use Rattle.bridge_rules.proofs.Units.{narrowed_is, narrowed_so}
use Rattle.bridge_rules.proofs.SoundRules.{kept_sound, some_never, told_is}

-- what a part with this unit and a time in it has in common with its texts
abbrev pub item_of : UnitBy → TimeCount → Item
item_of unit x = instant (widened x.count (9 - x.unit)) (unit_on_wire unit x.unit)

abbrev pub Fits : LeafOf → UnitBy → TimeCount → Type 0
Fits leaf unit x = is_value leaf x.count && has_unit unit x.unit ≡ true

timed_is : (u : ℕ) (r : Result ℤ V) (x : TimeCount) → time_count u r ≡ Ok x → (r ≡ Ok x.count) × (u ≡ x.unit)
timed_is u (Ok n) x h = (ap (λ y. Ok y.count) (ok_is h), ap (λ y. y.unit) (ok_is h))
timed_is u (Err v) x h = err_ok h

admitted_is : (l : LeafOf) (r : Result TimeCount V) (x : TimeCount) → unit_admitted l r ≡ Ok x → (r ≡ Ok x) × (is_value l (pos x.unit) ≡ true)
admitted_is l (Err v) x h = err_ok h
admitted_is l (Ok y) x h = by_test (is_value l (pos y.unit)) refl h
  where
    by_test : (t : Bool) → is_value l (pos y.unit) ≡ t → ◌≡◌ {A = Result TimeCount V} (cond t (Ok y) (Err why.Range)) (Ok x) → (◌≡◌ {A = Result TimeCount V} (Ok y) (Ok x)) × (is_value l (pos x.unit) ≡ true)
    by_test true is k = (k, ap (λ z. is_value l (pos z.unit)) (sym (ok_is k)) ∙ is)
    by_test false is k = err_ok k

least_is : (digits : ℕ) → is_unit (least_unit digits) ≡ true
least_is digits = by_tests (nat_le digits 0) (nat_le digits 3) (nat_le digits 6)
  where
    by_tests : (a b c : Bool) → is_unit (cond a 0 (cond b 3 (cond c 6 9))) ≡ true
    by_tests true b c = refl
    by_tests false true c = refl
    by_tests false false true = refl
    by_tests false false false = refl

-- what an instant is in the unit of a part
pub in_unit_is : (leaf : LeafOf) (unit : UnitBy) (r : Result Instant V) (x : TimeCount) → in_unit_of leaf unit r ≡ Ok x → (item_of_read (instant_item_of unit) r ≡ Some (item_of unit x)) × Fits leaf unit x
in_unit_is leaf unit (Err v) x h = err_ok h
in_unit_is leaf (always u) (Ok i) x h =
    let is = timed_is u (leaf_number leaf (in_unit i.nanos u)) x h in
    let fits = judged_is leaf (in_unit i.nanos u) x.count is.0 in
    let wide : widened x.count (9 - x.unit) ≡ i.nanos = ap (λ w. widened x.count (9 - w)) (sym is.1) ∙ narrowed_is i.nanos (9 - u) x.count fits.0 in
    (ap (λ n. Some (instant n None)) (sym wide), ap (λ b. b && (u == x.unit)) fits.1 ∙ eq-eqb u x.unit is.1)
in_unit_is leaf (on_wire l) (Ok i) x h =
    let u = least_unit i.digits in
    let there = admitted_is l (time_count u (leaf_number leaf (in_unit i.nanos u))) x h in
    let is = timed_is u (leaf_number leaf (in_unit i.nanos u)) x there.0 in
    let fits = judged_is leaf (in_unit i.nanos u) x.count is.0 in
    let wide : widened x.count (9 - x.unit) ≡ i.nanos = ap (λ w. widened x.count (9 - w)) (sym is.1) ∙ narrowed_is i.nanos (9 - u) x.count fits.0 in (
      ap (λ n. Some (instant n (Some u))) (sym wide) ∙ ap (λ w. Some (instant (widened x.count (9 - x.unit)) (Some w))) is.1,
      ap (λ b. b && (is_value l (pos x.unit) && is_unit x.unit)) fits.1 ∙ ap (λ b. b && is_unit x.unit) there.1 ∙ ap is_unit (sym is.1) ∙ least_is i.digits,
    )

pub instant_is : {m n : ℤ} {a b : Option ℕ} → instant m a ≡ instant n b → (m ≡ n) × (a ≡ b)
instant_is h = (ap nanos_in h, ap unit_of h)
  where
    nanos_in : Item → ℤ
    nanos_in (instant n u) = n
    nanos_in i = pos 0

    unit_of : Item → Option ℕ
    unit_of (instant n u) = u
    unit_of i = None

-- and an instant with the item of a time that fits is that time
pub in_unit_so : (leaf : LeafOf) (unit : UnitBy) (r : Result Instant V) (x : TimeCount) → Fits leaf unit x → item_of_read (instant_item_of unit) r ≡ Some (item_of unit x) → value_from (moment_value unit) (in_unit_of leaf unit r) ≡ Ok (moment_value unit x)
in_unit_so leaf unit r x fits told = by_unit unit fits (told_is (instant_item_of unit) r (item_of unit x) told)
  where
    by_unit : (unit : UnitBy) → Fits leaf unit x → (i : Instant) × (r ≡ Ok i) × (instant_item_of unit i ≡ item_of unit x) → value_from (moment_value unit) (in_unit_of leaf unit r) ≡ Ok (moment_value unit x)
    by_unit (always u) fits (i, is, same) =
        let u_is : u ≡ x.unit = eqb-true u x.unit (and_second (is_value leaf x.count) _ fits) in
        let nanos : i.nanos ≡ widened x.count (9 - u) = (instant_is same).0 ∙ ap (λ w. widened x.count (9 - w)) (sym u_is) in
        ap (λ r. value_from (moment_value (always u)) (in_unit_of leaf (always u) r)) is
        ∙ ap (λ n. value_from (moment_value (always u)) (time_count u (leaf_number leaf (in_unit n u)))) nanos
        ∙ ap (λ r. value_from (moment_value (always u)) (time_count u r)) (judged_so leaf (in_unit (widened x.count (9 - u)) u) x.count (narrowed_so x.count (9 - u)) (and_first (is_value leaf x.count) _ fits))
    by_unit (on_wire l) fits (i, is, same) =
        let both = instant_is same in
        let least : least_unit i.digits ≡ x.unit = some_is both.1 in
        let wired_fits = and_second (is_value leaf x.count) _ fits in
        let here : in_unit_of leaf (on_wire l) (Ok i) ≡ Ok x =
        ap (λ u. unit_admitted l (time_count u (leaf_number leaf (in_unit i.nanos u)))) least
        ∙ ap (λ n. unit_admitted l (time_count x.unit (leaf_number leaf (in_unit n x.unit)))) both.0
        ∙ ap (λ r. unit_admitted l (time_count x.unit r)) (judged_so leaf (in_unit (widened x.count (9 - x.unit)) x.unit) x.count (narrowed_so x.count (9 - x.unit)) (and_first (is_value leaf x.count) _ fits))
        ∙ if_true (is_value l (pos x.unit)) (Ok x) (Err why.Range) (and_first (is_value l (pos x.unit)) _ wired_fits) in
        ap (λ r. value_from (moment_value (on_wire l)) (in_unit_of leaf (on_wire l) r)) is ∙ ap (value_from (moment_value (on_wire l))) here

pub moment_is : (from : From) (leaf : LeafOf) (unit : UnitBy) (x : TimeCount) → Fits leaf unit x → item_by (moment from leaf unit) (moment_value unit x) ≡ Some (item_of unit x)
moment_is from leaf (always u) x fits =
    let u_is : u ≡ x.unit = eqb-true u x.unit (and_second (is_value leaf x.count) _ fits) in
    let here : item_by (moment from leaf (always u)) (moment_value (always u) x) ≡ Some (instant (widened x.count (9 - u)) None) = simp items_hidden-the_row-Value-0 in
    here ∙ ap (λ w. Some (instant (widened x.count (9 - w)) None)) u_is
moment_is from leaf (on_wire l) x fits = simp items_hidden-the_row-Value-0

pub moment_sound : (from : From) (leaf : LeafOf) (unit : UnitBy) → IsSound (moment from leaf unit)
moment_sound from leaf unit = kept_sound {X = TimeCount} {make = moment_value unit} {Fits = Fits leaf unit} {null = two_members value.Null (unit_of_null unit)} {optional = is_optional leaf.presence} (record {
  read = λ t v given h.
      let is = made_is (moment_value unit) (in_unit_of leaf unit (instant_read from t)) v h in
      let told = in_unit_is leaf unit (instant_read from t) is.0 is.1 in
      (is.0, is.2, told.1, (item_of unit is.0, told.0, moment_is from leaf unit is.0 told.1));
  found = λ t x item given fits told same. in_unit_so leaf unit (instant_read from t) x fits (told ∙ sym same ∙ moment_is from leaf unit x fits);
  some = λ x fits none. some_never (sym (moment_is from leaf unit x fits) ∙ none);
  none = simp items_hidden-the_row-Value-0;
  missing = refl;
  parted = λ v good. good;
  joined = λ v good. good;
})
