-- What is written of a value that fits its kind has the item of the value, and can be read, in the form of its item or not.
use Rattle.std.proofs.Common.{◌≡◌, inl, inr, ℕ, true, false, List, [], ◌∷◌, Option, Some, None, Result, Ok, Err, refl, sym, ap, ◌∙◌, subst, ℤ, pos, negsuc}
use Rattle.std.specs.Prelude.{not, int_le}
use Rattle.sbe_types.specs.declared.kind.Order.{Order}
use Rattle.sbe_types.specs.declared.kind.Primitive.{Primitive}
use Rattle.sbe_types.specs.declared.kind.Primitive.TheVariants.{Char, I8, I16, I32, I64, U8, U16, U32, U64}
use Rattle.sbe_types.specs.declared.kind.Leaf.{Leaf as LeafOf}
use Rattle.sbe_types.specs.declared.kind.ConstValue.TheVariants as const
use Rattle.sbe_types.specs.declared.kind.Kind.{Kind, Leaf, Enum, Set, Const, Comp', items-the_row-Member}
use Rattle.sbe_types.specs.declared.message.Value.{Value, items_hidden-the_row-Value-0}
use Rattle.sbe_types.specs.declared.message.Value as value
use Rattle.sbe_types.specs.Numbers.{natural}
use Rattle.sbe_types.specs.Wire.{FitsKind}
use Rattle.sbe_wire.specs.Misfit.{value_misfit}
use Rattle.schema_rules.specs.Ranges.{is_number_of}
use Rattle.schema_facts.specs.InOrder.{IsKindFrom}
use Rattle.writing_laws.proofs.KindGood.{fits_good}
use Rattle.fix_values.specs.declared.rule.V.{V}
use Rattle.fix_values.specs.declared.rule.V.TheVariants as why
use Rattle.fix_values.specs.declared.rule.Dec.{Dec}
use Rattle.fix_values.specs.Numerals.{is_value}
use Rattle.fix_values.specs.Decimals.{SameFraction, dec, decimal_of, decimal_text}
use Rattle.value_laws.proofs.DecimalsBack.{decimals_back}
use Rattle.value_laws.proofs.Fractions.{one_form, turned}
use Rattle.value_laws.proofs.Reduced.{read_reduced, same_through}
use Rattle.date_answers.specs.Answers.{is_unit}
use Rattle.bridge_rules.specs.Rules.{Rule, floating_decimal, fixed_decimal, moment, month_year, From, from_1970, from_midnight, always, on_wire}
use Rattle.bridge_rules.specs.Datatypes.{Datatype}
use Rattle.bridge_rules.specs.Members.{two_members, number_or_null}
use Rattle.bridge_rules.specs.Texts.{text_by, field_text, if_back, if_read, decimal_in_types, floating_text, moment_text}
use Rattle.bridge_rules.specs.Values.{missing_by, value_from, floating_value, least_or_null, null_month}
use Rattle.bridge_rules.specs.Items.{number, item_by, decimal_item, reduced_form}
use Rattle.bridge_rules.specs.Good.{Good, IsItemForm}
use Rattle.bridge_rules.specs.Sound.{IsSound, IsShown, IsReadable, ShowsGood}
use Rattle.bridge_rules.specs.Bounds.{IsBounded, CanShow, IsMapped}
use Rattle.bridge_rules.specs.Table.{rule_of, is_single_byte, is_byte_type, is_number}
use Rattle.bridge_rules.proofs.OptionLemmas.{ok_is, and_first, and_second}
use Rattle.bridge_rules.proofs.BoolLemmas.{true_false, either, if_false}
use Rattle.bridge_rules.proofs.PlainRules.{err_ok, given_value, given_item, optional_so}
use Rattle.bridge_rules.proofs.ShownTexts.{field_text_is, field_text_some, decimal_given, ok_none}
use Rattle.bridge_rules.proofs.ReadBack.{if_back_is, floating_text_is}
use Rattle.bridge_rules.proofs.ReducedForms.{form_same, form_reduced}
use Rattle.bridge_rules.proofs.SoundRules.{floating_is}
use Rattle.bridge_rules.proofs.BoundedRules.{bounded_sound, bounded_shown}
use Rattle.bridge_rules.proofs.TypeFacts.{in_primitive}
use Rattle.bridge_rules.proofs.TableRules.{rule_kept}
use Rattle.bridge_rules.proofs.TableCases.{OfComposite, AreKinds, members_are, leaf_cases, enum_cases, set_cases, const_cases, composite_cases}
use Rattle.bridge_rules.proofs.FittingValues.{FittingAll, AreFit, IsSingle, AreSingle, number_or, leaf_is, comp_parts, of_fixed, of_counted, of_wired, of_month, byte_shape, part_shape, integer_shape, rule_fitting}

-- what is written of the value has its item and can be read, and where nothing is written the value may be missing
abbrev pub IsWritten : Rule → Value → Type 0
IsWritten rule v = IsShown rule v × IsReadable rule v

-- a good value
pub good_written : (rule : Rule) → IsSound rule → ShowsGood rule → (v : Value) → Good rule v → IsWritten rule v
good_written rule sound shows v good = (
  shows v good,
  record {
    read = λ t h. let s = (shows v good).written t h in (v, sound.found t v s.0 good s.1 s.2);
    missed = λ h. (v, sound.lacking v good ((shows v good).unwritten h));
  },
)

-- a value whose text is refused
refused_written : (rule : Rule) (v : Value) (w : V) → text_by rule v ≡ Err w → IsWritten rule v
refused_written rule v w is = (record { written = λ t h. err_ok (sym is ∙ h); unwritten = λ h. err_ok (sym is ∙ h) }, record { read = λ t h. err_ok (sym is ∙ h); missed = λ h. err_ok (sym is ∙ h) })

-- a value that gives no field, of a part that is optional
absent_written : (rule : Rule) (v w : Value) → text_by rule v ≡ Ok None → item_by rule v ≡ None → missing_by rule ≡ Some w → IsWritten rule v
absent_written rule v w none item missing = (
  record { written = λ t h. ok_none (sym none ∙ h); unwritten = λ h. item },
  record { read = λ t h. ok_none (sym none ∙ h); missed = λ h. (w, missing) },
)

-- ---- decimals

-- what a text that was shown is read as
back_read : {X : Type 0} (back : List ℕ → Result X V) (r : Result (List ℕ) V) (t : List ℕ) → if_back back r ≡ Ok t → (x : X) × (back t ≡ Ok x)
back_read back (Err v) t h = err_ok h
back_read {X} back (Ok s) t h = by_read (back s) refl h
  where
    by_read : (r : Result X V) → back s ≡ r → if_read s r ≡ Ok t → (x : X) × (back t ≡ Ok x)
    by_read (Ok x) is k = (x, ap back (sym (ok_is k)) ∙ is)
    by_read (Err v) is k = err_ok k

floating_written : (m e : LeafOf) → IsBounded (floating_decimal m e) → CanShow (floating_decimal m e) → (d : Dec) → is_value m d.mantissa ≡ true → IsWritten (floating_decimal m e) (floating_value d)
floating_written m e narrow short d fits = (
  record {
    written = λ t h.
        let is = told t h in (
          number is.0.0,
          given_item (floating_decimal m e) t (decimal_given (floating_decimal m e) t is.0.0 is.0.1) ∙ ap decimal_item is.0.1,
          floating_is m e d ∙ ap (λ x. Some (number x)) (one_form (reduced_form d) is.0.0 (form_reduced d.mantissa d.exponent (narrow d.mantissa fits)) (read_reduced t is.0.0 is.0.1)
              (same_through d (reduced_form d) is.0.0 (turned (form_same d.mantissa d.exponent)) (turned is.0.2))),
        );
    unwritten = λ h. field_text_some (floating_text m e (Some d.exponent) d.mantissa) (sym (floating_text_is m e d) ∙ h);
  },
  record {
    read = λ t h.
        let is = told t h in
        (floating_value is.1.0, given_value (floating_decimal m e) t (floating_value is.1.0) (decimal_given (floating_decimal m e) t is.0.0 is.0.1) (ap (value_from floating_value) is.1.1));
    missed = λ h. field_text_some (floating_text m e (Some d.exponent) d.mantissa) (sym (floating_text_is m e d) ∙ h);
  },
)
  where
    told : (t : List ℕ) → text_by (floating_decimal m e) (floating_value d) ≡ Ok (Some t) →
        ((r : Dec) × (decimal_of t ≡ Ok r) × SameFraction r d) × ((x : Dec) × (decimal_in_types m e (decimal_of t) ≡ Ok x))
    told t h =
        let own = field_text_is (floating_text m e (Some d.exponent) d.mantissa) t (sym (floating_text_is m e d) ∙ h) in
        let text = if_back_is (λ t. decimal_in_types m e (decimal_of t)) (decimal_text d) t own in
        (decimals_back d.mantissa d.exponent t (short d.mantissa fits).0 text, back_read (λ t. decimal_in_types m e (decimal_of t)) (decimal_text d) t own)

-- ---- composites

-- each value of members that fit is written
abbrev AllWritten : List Kind → Rule → Type 0
AllWritten ks rule = AreKinds ks → IsBounded rule → CanShow rule → (vs : List Value) → AreFit ks vs → IsWritten rule (value.Comp vs)

-- a rule whose values have one form
plain_written : (ks : List Kind) (rule : Rule) → ((v : Value) → IsItemForm rule v) → FittingAll ks rule → IsBounded rule → CanShow rule → (vs : List Value) → AreFit ks vs → IsWritten rule (value.Comp vs)
plain_written ks rule form fitting bounded shows vs fits =
    good_written rule (bounded_sound rule bounded) (bounded_shown rule bounded shows) (value.Comp vs) (fitting.good vs fits (form (value.Comp vs)))

wide_floating : (m e : LeafOf) → IsSingle m → IsSingle e → AllWritten (Leaf m ∷ Leaf e ∷ []) (floating_decimal m e)
wide_floating m e is so all bounded shows [] fits = absurd fits
wide_floating m e is so all bounded shows (a ∷ []) fits = absurd fits.1
wide_floating m e is so all bounded shows (a ∷ b ∷ c ∷ vs) fits = absurd fits.1.1
wide_floating m e is so all bounded shows (a ∷ b ∷ []) fits = elim (number_or m a (sym (leaf_is m a is) ∙ fits.0)) [
  | inl g ↦ elim (number_or e b (sym (leaf_is e b so) ∙ fits.1.0)) [
    | inl k ↦ subst (λ v. IsWritten (floating_decimal m e) v) (ap (λ x. two_members x (value.Num k.0)) (sym g.1) ∙ ap (two_members a) (sym k.1)) (floating_written m e bounded shows (dec g.0 k.0) g.2)
    | inr k ↦ subst (λ v. IsWritten (floating_decimal m e) v) (ap (λ x. two_members x value.Null) (sym g.1) ∙ ap (two_members a) (sym k.0))
        (refused_written (floating_decimal m e) (two_members (value.Num g.0) value.Null) why.Range (simp items_hidden-the_row-Value-0))
  ]
  | inr g ↦ subst (λ v. IsWritten (floating_decimal m e) v) (ap (λ x. two_members x b) (sym g.0))
      (absent_written (floating_decimal m e) (two_members value.Null b) (two_members value.Null (least_or_null e)) (simp items_hidden-the_row-Value-0) (simp items_hidden-the_row-Value-0)
      (optional_so m (two_members value.Null (least_or_null e)) g.1))
]

-- a number of one byte isn't negative
byte_number : (p : Primitive) (n : ℤ) → is_byte_type p ≡ true → is_number_of p n ≡ true → n ≡ pos (natural n)
byte_number U8 (pos n) h k = refl
byte_number U8 (negsuc n) h k = true_false (and_first (int_le (pos 0) (negsuc n)) (int_le (negsuc n) (pos 255)) k) refl
byte_number Char n h k = true_false h refl
byte_number I8 n h k = true_false h refl
byte_number I16 n h k = true_false h refl
byte_number I32 n h k = true_false h refl
byte_number I64 n h k = true_false h refl
byte_number U16 n h k = true_false h refl
byte_number U32 n h k = true_false h refl
byte_number U64 n h k = true_false h refl

-- a unit that no text has
strange_unit : (from : From) (u : ℕ) (n : ℤ) → is_unit u ≡ false → moment_text from (Some u) n ≡ Err why.Range
strange_unit from_1970 u n h = if_false {X = Result (List ℕ) V} (is_unit u) _ (Err why.Range) h
strange_unit from_midnight u n h = if_false {X = Result (List ℕ) V} (is_unit u) _ (Err why.Range) h

wide_moment : (from : From) (time unit : LeafOf) → IsSingle time → is_single_byte unit ≡ true → AllWritten (Leaf time ∷ Leaf unit ∷ []) (moment from time (on_wire unit))
wide_moment from time unit is byte all bounded shows [] fits = absurd fits
wide_moment from time unit is byte all bounded shows (a ∷ []) fits = absurd fits.1
wide_moment from time unit is byte all bounded shows (a ∷ b ∷ c ∷ vs) fits = absurd fits.1.1
wide_moment from time unit is byte all bounded shows (a ∷ b ∷ []) fits = elim (number_or time a (sym (leaf_is time a is) ∙ fits.0)) [
  | inl g ↦ elim (number_or unit b (sym (leaf_is unit b (byte_shape unit byte)) ∙ fits.1.0)) [
    | inl k ↦
        let u_is : k.0 ≡ pos (natural k.0) = byte_number unit.prim k.0 (and_second (is_number unit.shape) _ byte) (in_primitive 1 unit all.1.0 k.0 k.2) in
        let v_is : two_members a b ≡ two_members (value.Num g.0) (value.Num k.0) = ap (λ x. two_members x b) g.1 ∙ ap (two_members (value.Num g.0)) k.1 in
        elim (either (is_unit (natural k.0))) [
          | inl t ↦ good_written (moment from time (on_wire unit)) (bounded_sound (moment from time (on_wire unit)) bounded) (bounded_shown (moment from time (on_wire unit)) bounded shows) (two_members a b)
              ((of_wired from time unit is (byte_shape unit byte) all.1.0).good (a ∷ b ∷ []) fits
              (inr (record { count = g.0; unit = natural k.0 }, v_is ∙ ap (λ z. two_members (value.Num g.0) (value.Num z)) u_is, t)))
          | inr f ↦ subst (λ v. IsWritten (moment from time (on_wire unit)) v) (sym v_is)
              (refused_written (moment from time (on_wire unit)) (two_members (value.Num g.0) (value.Num k.0)) why.Range (unit_text g.0 k.0 ∙ ap field_text (strange_unit from (natural k.0) g.0 f)))
        ]
    | inr k ↦ subst (λ v. IsWritten (moment from time (on_wire unit)) v) (ap (λ x. two_members x value.Null) (sym g.1) ∙ ap (two_members a) (sym k.0))
        (refused_written (moment from time (on_wire unit)) (two_members (value.Num g.0) value.Null) why.Range (simp items_hidden-the_row-Value-0))
  ]
  | inr g ↦ subst (λ v. IsWritten (moment from time (on_wire unit)) v) (ap (λ x. two_members x b) (sym g.0))
      (absent_written (moment from time (on_wire unit)) (two_members value.Null b) (two_members value.Null (least_or_null unit)) (simp items_hidden-the_row-Value-0) (simp items_hidden-the_row-Value-0)
      (optional_so time (two_members value.Null (least_or_null unit)) g.1))
]
  where
    unit_text : (n u : ℤ) → text_by (moment from time (on_wire unit)) (two_members (value.Num n) (value.Num u)) ≡ field_text (moment_text from (Some (natural u)) n)
    unit_text n u = simp items_hidden-the_row-Value-0

number_is_or : (leaf : LeafOf) (v : Value) → IsSingle leaf → value_misfit (Leaf leaf) v ≡ None → (o : Option ℤ) × (v ≡ number_or_null o)
number_is_or leaf v is h = elim (number_or leaf v (sym (leaf_is leaf v is) ∙ h)) [
  | inl g ↦ (Some g.0, g.1)
  | inr g ↦ (None, g.0)
]

wide_month : (y m d w : LeafOf) → AreSingle y m d w → AllWritten (Leaf y ∷ Leaf m ∷ Leaf d ∷ Leaf w ∷ []) (month_year (record { year = y; month = m; day = d; week = w }))
wide_month y m d w are all bounded shows [] fits = absurd fits
wide_month y m d w are all bounded shows (a ∷ []) fits = absurd fits.1
wide_month y m d w are all bounded shows (a ∷ b ∷ []) fits = absurd fits.1.1
wide_month y m d w are all bounded shows (a ∷ b ∷ c ∷ []) fits = absurd fits.1.1.1
wide_month y m d w are all bounded shows (a ∷ b ∷ c ∷ e ∷ f ∷ vs) fits = absurd fits.1.1.1.1
wide_month y m d w are all bounded shows (a ∷ b ∷ c ∷ e ∷ []) fits =
    let rule = month_year (record { year = y; month = m; day = d; week = w }) in
    let day = number_is_or d c are.day fits.1.1.0 in
    let week = number_is_or w e are.week fits.1.1.1.0 in
    elim (number_or y a (sym (leaf_is y a are.year) ∙ fits.0)) [
      | inl g ↦ elim (number_or m b (sym (leaf_is m b are.month) ∙ fits.1.0)) [
        | inl k ↦ good_written rule (bounded_sound rule bounded) (bounded_shown rule bounded shows) (value.Comp (a ∷ b ∷ c ∷ e ∷ []))
            ((of_month y m d w are).good (a ∷ b ∷ c ∷ e ∷ []) fits
            (inr (record { year = g.0; month = k.0; day = day.0; week = week.0 }, four a b c e (value.Num g.0) (value.Num k.0) (number_or_null day.0) (number_or_null week.0) g.1 k.1 day.1 week.1)))
        | inr k ↦ subst (λ v. IsWritten rule v) (four (value.Num g.0) value.Null c e a b c e (sym g.1) (sym k.0) refl refl)
            (refused_written rule (value.Comp (value.Num g.0 ∷ value.Null ∷ c ∷ e ∷ [])) why.Range (simp items_hidden-the_row-Value-0))
      ]
      | inr g ↦ subst (λ v. IsWritten rule v) (ap (λ x. value.Comp (x ∷ b ∷ c ∷ e ∷ [])) (sym g.0))
          (absent_written rule (value.Comp (value.Null ∷ b ∷ c ∷ e ∷ [])) (null_month (record { year = y; month = m; day = d; week = w })) (simp items_hidden-the_row-Value-0) (simp items_hidden-the_row-Value-0)
          (optional_so y (null_month (record { year = y; month = m; day = d; week = w })) g.1))
    ]
  where
    four : (a b c d a' b' c' d' : Value) → a ≡ a' → b ≡ b' → c ≡ c' → d ≡ d' → value.Comp (a ∷ b ∷ c ∷ d ∷ []) ≡ value.Comp (a' ∷ b' ∷ c' ∷ d' ∷ [])
    four a b c d a' b' c' d' p q r s =
        ap (λ x. value.Comp (x ∷ b ∷ c ∷ d ∷ [])) p ∙ ap (λ x. value.Comp (a' ∷ x ∷ c ∷ d ∷ [])) q ∙ ap (λ x. value.Comp (a' ∷ b' ∷ x ∷ d ∷ [])) r ∙ ap (λ x. value.Comp (a' ∷ b' ∷ c' ∷ x ∷ [])) s

of_composite : OfComposite AllWritten
of_composite = record {
  fixed = λ m e is all bounded shows vs fits. plain_written (Leaf m ∷ Const (const.Num e) ∷ []) (fixed_decimal m e) (λ v. tt) (of_fixed m e (integer_shape m is)) bounded shows vs fits;
  floating = λ m e is so. wide_floating m e (integer_shape m is) (integer_shape e so);
  counted = λ from time c u is unit all bounded shows vs fits. plain_written (Leaf time ∷ Const c ∷ []) (moment from time (always u)) (λ v. tt) (of_counted from time c u (integer_shape time is)) bounded shows vs fits;
  wired = λ from time unit is so. wide_moment from time unit (integer_shape time is) so;
  month = λ y m d w is so day week all bounded shows vs fits.
      wide_month y m d w (record {
        year = integer_shape y is;
        month = integer_shape m so;
        day = part_shape d day;
        week = part_shape w week;
        least_month = all.1.0;
        least_day = all.1.1.0;
        least_week = all.1.1.1.0;
      }) all bounded shows vs fits;
}

-- ---- the table

-- the rule of another kind than a composite
one_form_written : (k : Kind) (d : Datatype) (rule : Rule) → IsKindFrom 1 k → IsMapped d → rule_of k d ≡ Some rule → ((v : Value) → IsItemForm rule v) → (v : Value) → value_misfit k v ≡ None → IsWritten rule v
one_form_written k d rule facts mapped h form v fits =
    let kept = rule_kept k d rule facts mapped h in
    good_written rule (bounded_sound rule kept.0) (bounded_shown rule kept.0 kept.1) v ((rule_fitting k d rule facts h).good v fits (form v))

fitting_written : (k : Kind) (d : Datatype) (rule : Rule) → IsKindFrom 1 k → IsMapped d → rule_of k d ≡ Some rule → (v : Value) → value_misfit k v ≡ None → IsWritten rule v
fitting_written (Leaf l) d rule facts mapped h v fits =
    one_form_written (Leaf l) d rule facts mapped h
    (leaf_cases (λ rule. (v : Value) → IsItemForm rule v) l (record { whole = λ is v. tt; decimal = λ is v. tt; day = λ is v. tt; char = λ is v. tt; array = λ is v. tt }) d rule h) v fits
fitting_written (Enum l names) d rule facts mapped h v fits =
    one_form_written (Enum l names) d rule facts mapped h
    (enum_cases (λ rule. (v : Value) → IsItemForm rule v) l names (record { code = λ list v. tt; number = λ list v. tt; truth = λ v. tt }) d rule h) v fits
fitting_written (Set p names) d rule facts mapped h v fits =
    one_form_written (Set p names) d rule facts mapped h (set_cases (λ rule. (v : Value) → IsItemForm rule v) names (λ list v. tt) d rule h) v fits
fitting_written (Const c) d rule facts mapped h v fits =
    one_form_written (Const c) d rule facts mapped h (const_cases (λ rule. (v : Value) → IsItemForm rule v) (λ inner own repeats v. tt) c d rule h) v fits
fitting_written (Comp' n members) d rule facts mapped h v fits =
    let kept = rule_kept (Comp' n members) d rule facts mapped h in
    let parts = comp_parts members v fits in
    subst (λ v. IsWritten rule v) (sym parts.1)
    (composite_cases AllWritten of_composite (items-the_row-Member _ members) d rule h (members_are members facts.kinds) kept.0 kept.1 parts.0 parts.2)

pub fitting_shown : (order : Order) (k : Kind) (d : Datatype) (rule : Rule) (v : Value) → IsKindFrom 1 k → IsMapped d → rule_of k d ≡ Some rule → FitsKind order k v → IsShown rule v
fitting_shown order k d rule v facts mapped h fits = (fitting_written k d rule facts mapped h v (fits_good order k v fits)).0

pub fitting_read : (order : Order) (k : Kind) (d : Datatype) (rule : Rule) (v : Value) → IsKindFrom 1 k → IsMapped d → rule_of k d ≡ Some rule → FitsKind order k v → IsReadable rule v
fitting_read order k d rule v facts mapped h fits = (fitting_written k d rule facts mapped h v (fits_good order k v fits)).1
