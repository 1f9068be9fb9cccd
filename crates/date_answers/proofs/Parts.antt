-- The parts that a text spells are those whose text it is.
use Rattle.std.proofs.Common.{◌≡◌, ◌⊎◌, inl, inr, ℕ, zero, suc, ◌+◌, ◌^◌, ◌<◌, ◌≤◌, Bool, true, false, cond, Option, Some, None, List, [], ◌∷◌, ◌++◌, ◌/◌, ◌%◌, length, take, drop, drop-cons, get_or, refl, sym, ap, ◌∙◌, subst, arith}
use Rattle.std.specs.Prelude.{◌&&◌, ◌==◌, nat_le, nat_lt}
use Rattle.std.proofs.lemmas.Bool.{eqb-true, eq-eqb, leb-true, and_parts as both}
use Rattle.std.proofs.lemmas.Bool.Decides.{nat_tests}
use Rattle.std.proofs.lemmas.List.{take_all, length-drop}
use Rattle.fix_dates.specs.declared.calendar.Day.{Day}
use Rattle.fix_dates.specs.declared.clock.Clock.{Clock}
use Rattle.fix_dates.specs.declared.stamp.Stamp.{Stamp}
use Rattle.fix_dates.specs.declared.month.Month.{Month}
use Rattle.fix_dates.specs.declared.month.Part.{Part}
use Rattle.fix_dates.specs.declared.month.Part.TheVariants as part
use Rattle.fix_dates.specs.Digits.{digits, number_in}
use Rattle.fix_dates.specs.Calendar.{IsDay, month_days}
use Rattle.fix_dates.specs.Days.{day_text, FitsDay}
use Rattle.fix_dates.specs.Clocks.{clock_text, fraction_text, FitsClock, IsTime}
use Rattle.fix_dates.specs.Stamps.{stamp_text, IsStamp}
use Rattle.fix_dates.specs.Months.{month_text, part_text, FitsMonth, FitsPart, IsMonth, HasPart}
use Rattle.fix_dates.proofs.DigitFacts.{read_back, piece_read, first_and_rest, length_digits}
use Rattle.fix_dates.proofs.DayFacts.{day_apart, day_together}
use Rattle.fix_dates.proofs.ClockFacts.{clock_apart, clock_together}
use Rattle.fix_dates.proofs.StampFacts.{stamp_apart}
use Rattle.fix_dates.proofs.MonthFacts.{month_apart, month_together}
use Rattle.date_answers.specs.Answers.{both_some_of, on_some, pair, as_day, as_clock, with_fraction, as_stamp, as_month, with_part, day_parts, fraction_parts, clock_parts, stamp_parts, part_parts, month_parts, is_day, is_time, is_stamp, has_part, is_month}

pub some_is : {X : Type 0} {x y : X} → ◌≡◌ {A = Option X} (Some x) (Some y) → x ≡ y
some_is h = cc

pub none_some : {X Z : Type 0} {x : X} → ◌≡◌ {A = Option X} None (Some x) → Z
none_some h = cc

pub true_false : {Z : Type 0} {t : Bool} → t ≡ true → t ≡ false → Z
true_false p q = absurd (never (sym p ∙ q))
  where
    never : true ≡ false → ⊥
    never k = cc

pub either : (t : Bool) → (t ≡ true) ⊎ (t ≡ false)
either true = inl refl
either false = inr refl

pub if_true : {X : Type 0} (t : Bool) (a b : X) → t ≡ true → cond t a b ≡ a
if_true t a b h = ap (λ t. cond t a b) h

pub if_some : {X : Type 0} (t : Bool) (o : Option X) (x : X) → cond t o None ≡ Some x → (t ≡ true) × (o ≡ Some x)
if_some true o x h = (refl, h)
if_some false o x h = none_some h

pub together : (a b : Bool) → a ≡ true → b ≡ true → a && b ≡ true
together a b p q = ap (λ a. a && b) p ∙ q

pub paired_is : {X Y Z : Type 0} (f : X → Y → Z) (a : Option X) (b : Option Y) (z : Z) → both_some_of f a b ≡ Some z → (x : X) × (y : Y) × (a ≡ Some x) × (b ≡ Some y) × (f x y ≡ z)
paired_is f None b z h = none_some h
paired_is f (Some x) None z h = none_some h
paired_is f (Some x) (Some y) z h = (x, y, refl, refl, some_is h)

pub paired_so : {X Y Z : Type 0} (f : X → Y → Z) (a : Option X) (b : Option Y) (x : X) (y : Y) → a ≡ Some x → b ≡ Some y → both_some_of f a b ≡ Some (f x y)
paired_so f a b x y p q = ap (λ a. both_some_of f a b) p ∙ ap (both_some_of f (Some x)) q

pub turned_is : {X Y : Type 0} (f : X → Y) (a : Option X) (y : Y) → on_some f a ≡ Some y → (x : X) × (a ≡ Some x) × (f x ≡ y)
turned_is f None y h = none_some h
turned_is f (Some x) y h = (x, refl, some_is h)

-- ---- days

pub day_parts_is : (text : List ℕ) (day : Day) → day_parts text ≡ Some day → FitsDay day × (text ≡ day_text day)
day_parts_is text day h =
    let test = if_some (length text == 8) _ day h in
    let all = paired_is as_day (number_in (take 4 text)) (both_some_of pair (number_in (take 2 (drop 4 text))) (number_in (take 2 (drop 6 text)))) day test.1 in
    let rest = paired_is pair (number_in (take 2 (drop 4 text))) (number_in (take 2 (drop 6 text))) all.1 all.3 in
    let month = ap (λ r. r.0) rest.4 in
    let number = ap (λ r. r.1) rest.4 in
    let is = day_together text all.0 rest.0 rest.1 (record { long = eqb-true (length text) 8 test.0; year_read = all.2; month_read = rest.2; number_read = rest.3 }) in
    subst (λ d. FitsDay d × (text ≡ day_text d)) (ap (as_day all.0) rest.4 ∙ all.4) (record { year = is.1; month = is.2; day = is.3 }, is.0)

pub day_parts_so : (day : Day) → FitsDay day → day_parts (day_text day) ≡ Some day
day_parts_so day fits =
    let text = day_text day in
    let is = day_apart text day fits refl in
    if_true (length text == 8) _ None (eq-eqb (length text) 8 is.long)
    ∙ paired_so as_day (number_in (take 4 text)) _ day.year (day.month, day.day) is.year_read
    (paired_so pair (number_in (take 2 (drop 4 text))) (number_in (take 2 (drop 6 text))) day.month day.day is.month_read is.number_read)

pub is_day_is : (day : Day) → is_day day ≡ true → IsDay day
is_day_is day h =
    let a = both (nat_le 1 day.month) _ h in
    let b = both (nat_le day.month 12) _ a.1 in
    let c = both (nat_le 1 day.day) _ b.1 in
    record { month_low = leb-true 1 day.month a.0; month_high = leb-true day.month 12 b.0; day_low = leb-true 1 day.day c.0; day_high = leb-true day.day (month_days day.year day.month) c.1 }

pub le_so : (a b : ℕ) → a ≤ b → nat_le a b ≡ true
le_so a b h = grind (arith, nat_tests, h)

pub is_day_so : (day : Day) → IsDay day → is_day day ≡ true
is_day_so day r =
    together (nat_le 1 day.month) _ (le_so 1 day.month r.month_low)
    (together (nat_le day.month 12) _ (le_so day.month 12 r.month_high)
    (together (nat_le 1 day.day) _ (le_so 1 day.day r.day_low) (le_so day.day (month_days day.year day.month) r.day_high)))

-- ---- times of day

pub fraction_is : (text : List ℕ) (f : ℕ × ℕ) → fraction_parts text ≡ Some f → (text ≡ fraction_text f.1 f.0) × (f.1 ≤ 12) × (f.0 < 10 ^ f.1)
fraction_is [] f h = subst (λ f. (◌≡◌ {A = List ℕ} [] (fraction_text f.1 f.0)) × (f.1 ≤ 12) × (f.0 < 10 ^ f.1)) (some_is h) (refl, omega arith, omega arith)
fraction_is (b ∷ []) f h =
    let test = if_some ((b == 46) && (nat_lt 0 0 && nat_le 0 12)) (both_some_of pair (number_in []) (Some 0)) f h in
    true_false (both (nat_lt 0 0) (nat_le 0 12) (both (b == 46) (nat_lt 0 0 && nat_le 0 12) test.0).1).0 refl
fraction_is (b ∷ d ∷ ds) f h =
    let text = d ∷ ds in
    let test = if_some ((b == 46) && (nat_lt 0 (length text) && nat_le (length text) 12)) _ f h in
    let point = both (b == 46) _ test.0 in
    let few : length text ≤ 12 = leb-true (length text) 12 (both (nat_lt 0 (length text)) _ point.1).1 in
    let is = paired_is pair (number_in text) (Some (length text)) f test.1 in
    let piece = piece_read (length text) text is.0 (omega arith) (ap number_in (take_all (length text) text (omega arith)) ∙ is.2) in
    let places : length text ≡ is.1 = some_is is.3 in
    let own : (b ∷ text) ≡ fraction_text (length text) is.0 = ap (λ c. c ∷ text) (eqb-true b 46 point.0) ∙ ap (λ xs. 46 ∷ xs) (sym (piece.0 ∙ take_all (length text) text (omega arith))) in
    subst (λ f. ((b ∷ text) ≡ fraction_text f.1 f.0) × (f.1 ≤ 12) × (f.0 < 10 ^ f.1)) (ap (λ p. (is.0, p)) places ∙ is.4) (own, few, piece.1)

pub fraction_so : (places f : ℕ) → places ≤ 12 → f < 10 ^ places → fraction_parts (fraction_text places f) ≡ Some (f, places)
fraction_so zero f few fits = let none : 0 ≡ f = omega (arith, fits) in ap (λ n. Some (n, 0)) none
fraction_so (suc places) f few fits =
    let ds = digits (suc places) f in
    let long : length ds ≡ suc places = length_digits (suc places) f in
    let test : (46 == 46) && (nat_lt 0 (length ds) && nat_le (length ds) 12) ≡ true = grind (arith, nat_tests, long, few) in
    if_true ((46 == 46) && (nat_lt 0 (length ds) && nat_le (length ds) 12)) _ None test
    ∙ paired_so pair (number_in ds) (Some (length ds)) f (length ds) (read_back (suc places) f fits) refl ∙ ap (λ p. Some (f, p)) long

pub clock_parts_is : (text : List ℕ) (clock : Clock) → clock_parts text ≡ Some clock → FitsClock clock × (text ≡ clock_text clock)
clock_parts_is text clock h =
    let test = if_some (nat_le 8 (length text) && ((get_or text 2 0 == 58) && (get_or text 5 0 == 58))) _ clock h in
    let long = both (nat_le 8 (length text)) _ test.0 in
    let colons = both (get_or text 2 0 == 58) _ long.1 in
    let all = paired_is as_clock (both_some_of pair (number_in (take 2 text)) (number_in (take 2 (drop 3 text)))) (both_some_of with_fraction (number_in (take 2 (drop 6 text))) (fraction_parts (drop 8 text))) clock test.1 in
    let front = paired_is pair (number_in (take 2 text)) (number_in (take 2 (drop 3 text))) all.0 all.2 in
    let back = paired_is with_fraction (number_in (take 2 (drop 6 text))) (fraction_parts (drop 8 text)) all.1 all.3 in
    let fraction = fraction_is (drop 8 text) back.1 back.3 in
    let own : Clock = as_clock (pair front.0 front.1) (with_fraction back.0 back.1) in
    let is = clock_together text own (record {
      long = leb-true 8 (length text) long.0;
      first_colon = eqb-true (get_or text 2 0) 58 colons.0;
      second_colon = eqb-true (get_or text 5 0) 58 colons.1;
      hour_read = front.2;
      minute_read = front.3;
      second_read = back.2;
      rest = fraction.0;
    }) in
    subst (λ c. FitsClock c × (text ≡ clock_text c)) (ap (λ f. as_clock f (with_fraction back.0 back.1)) front.4 ∙ ap (as_clock all.0) back.4 ∙ all.4)
    (record { hour_fits = is.1; minute_fits = is.2; second_fits = is.3; few = fraction.1; fraction_fits = fraction.2 }, is.0)

pub clock_parts_so : (clock : Clock) → FitsClock clock → clock_parts (clock_text clock) ≡ Some clock
clock_parts_so clock fits =
    let text = clock_text clock in
    let is = clock_apart text clock fits refl in
    let test : nat_le 8 (length text) && ((get_or text 2 0 == 58) && (get_or text 5 0 == 58)) ≡ true =
    together (nat_le 8 (length text)) _ (le_so 8 (length text) is.long) (together (get_or text 2 0 == 58) _ (eq-eqb (get_or text 2 0) 58 is.first_colon) (eq-eqb (get_or text 5 0) 58 is.second_colon)) in
    if_true (nat_le 8 (length text) && ((get_or text 2 0 == 58) && (get_or text 5 0 == 58))) _ None test
    ∙ paired_so as_clock (both_some_of pair (number_in (take 2 text)) (number_in (take 2 (drop 3 text)))) _ (clock.hour, clock.minute) (clock.second, (clock.fraction, clock.places))
    (paired_so pair (number_in (take 2 text)) (number_in (take 2 (drop 3 text))) clock.hour clock.minute is.hour_read is.minute_read)
    (paired_so with_fraction (number_in (take 2 (drop 6 text))) (fraction_parts (drop 8 text)) clock.second (clock.fraction, clock.places) is.second_read
    (ap fraction_parts is.rest ∙ fraction_so clock.places clock.fraction fits.few fits.fraction_fits))

pub is_time_is : (clock : Clock) → is_time clock ≡ true → IsTime clock
is_time_is clock h =
    let a = both (nat_le clock.hour 23) _ h in
    let b = both (nat_le clock.minute 59) _ a.1 in
    record { hour_high = leb-true clock.hour 23 a.0; minute_high = leb-true clock.minute 59 b.0; second_high = leb-true clock.second 59 b.1 }

pub is_time_so : (clock : Clock) → IsTime clock → is_time clock ≡ true
is_time_so clock r =
    together (nat_le clock.hour 23) _ (le_so clock.hour 23 r.hour_high) (together (nat_le clock.minute 59) _ (le_so clock.minute 59 r.minute_high) (le_so clock.second 59 r.second_high))

-- ---- moments

pub stamp_parts_is : (text : List ℕ) (stamp : Stamp) → stamp_parts text ≡ Some stamp → (FitsDay stamp.day × FitsClock stamp.clock) × (text ≡ stamp_text stamp)
stamp_parts_is text stamp h =
    let test = if_some (nat_le 9 (length text) && (get_or text 8 0 == 45)) _ stamp h in
    let long = both (nat_le 9 (length text)) _ test.0 in
    let all = paired_is as_stamp (day_parts (take 8 text)) (clock_parts (drop 9 text)) stamp test.1 in
    let day = day_parts_is (take 8 text) all.0 all.2 in
    let clock = clock_parts_is (drop 9 text) all.1 all.3 in
    let dash : 45 ∷ drop 9 text ≡ drop 8 text = ap (λ x. x ∷ drop 9 text) (sym (eqb-true (get_or text 8 0) 45 long.1)) ∙ sym (drop-cons text 8 0 (omega (arith, leb-true 9 (length text) long.0))) in
    let own : text ≡ stamp_text (as_stamp all.0 all.1) = sym (ap (λ xs. day_text all.0 ++ (45 ∷ xs)) (sym clock.1) ∙ ap (λ xs. day_text all.0 ++ xs) dash ∙ first_and_rest 8 (day_text all.0) text (sym day.1)) in
    subst (λ s. (FitsDay s.day × FitsClock s.clock) × (text ≡ stamp_text s)) all.4 ((day.0, clock.0), own)

pub stamp_parts_so : (stamp : Stamp) → FitsDay stamp.day → FitsClock stamp.clock → stamp_parts (stamp_text stamp) ≡ Some stamp
stamp_parts_so stamp day clock =
    let text = stamp_text stamp in
    let is = stamp_apart text stamp refl in
    if_true (nat_le 9 (length text) && (get_or text 8 0 == 45)) _ None (together (nat_le 9 (length text)) _ (le_so 9 (length text) is.long) (eq-eqb (get_or text 8 0) 45 is.dash))
    ∙ paired_so as_stamp (day_parts (take 8 text)) (clock_parts (drop 9 text)) stamp.day stamp.clock
    (ap day_parts is.day_first ∙ day_parts_so stamp.day day) (ap clock_parts is.clock_last ∙ clock_parts_so stamp.clock clock)

pub is_stamp_is : (stamp : Stamp) → is_stamp stamp ≡ true → IsStamp stamp
is_stamp_is stamp h = let a = both (is_day stamp.day) _ h in (is_day_is stamp.day a.0, is_time_is stamp.clock a.1)

pub is_stamp_so : (stamp : Stamp) → IsStamp stamp → is_stamp stamp ≡ true
is_stamp_so stamp r = together (is_day stamp.day) _ (is_day_so stamp.day r.0) (is_time_so stamp.clock r.1)

-- ---- months

pub part_is : (text : List ℕ) (p : Part) → part_parts text ≡ Some p → FitsPart p × (text ≡ part_text p)
part_is [] p h = subst (λ p. FitsPart p × (◌≡◌ {A = List ℕ} [] (part_text p))) (some_is h) (tt, refl)
part_is (b ∷ []) p h = none_some h
part_is (b ∷ c ∷ d ∷ more) p h = none_some h
part_is (b ∷ c ∷ []) p h = elim (either (b == 119)) [
  | inl t ↦
      let is = turned_is (λ week. part.Week week) (number_in (c ∷ [])) p (sym (if_true (b == 119) _ _ t) ∙ h) in
      let piece = piece_read 1 (c ∷ []) is.0 (omega arith) is.1 in
      subst (λ p. FitsPart p × ((b ∷ c ∷ []) ≡ part_text p)) is.2
      (piece.1, ap (λ x. x ∷ c ∷ []) (eqb-true b 119 t) ∙ ap (λ xs. 119 ∷ xs) (sym piece.0))
  | inr f ↦
      let is = turned_is (λ day. part.Day day) (number_in (b ∷ c ∷ [])) p (sym (ap (λ t. cond t (on_some (λ week. part.Week week) (number_in (c ∷ []))) (on_some (λ day. part.Day day) (number_in (b ∷ c ∷ [])))) f) ∙ h) in
      let piece = piece_read 2 (b ∷ c ∷ []) is.0 (omega arith) is.1 in
      subst (λ p. FitsPart p × ((b ∷ c ∷ []) ≡ part_text p)) is.2 (piece.1, sym piece.0)
]

pub part_so : (p : Part) → FitsPart p → part_parts (part_text p) ≡ Some p
unfolding digits
part_so part.Whole fits = refl
part_so (part.Day day) fits =
    let no_letter : (48 + day / 10 % 10 == 119) ≡ false = grind (arith, nat_tests) in
    ap (λ t. cond t (on_some (λ week. part.Week week) (number_in ((48 + day % 10) ∷ []))) (on_some (λ day. part.Day day) (number_in (digits 2 day)))) no_letter
    ∙ ap (on_some (λ day. part.Day day)) (read_back 2 day fits)
part_so (part.Week week) fits = ap (on_some (λ week. part.Week week)) (read_back 1 week fits)

pub month_parts_is : (text : List ℕ) (month : Month) → month_parts text ≡ Some month → FitsMonth month × (text ≡ month_text month)
month_parts_is text month h =
    let test = if_some (nat_le 6 (length text)) _ month h in
    let all = paired_is as_month (number_in (take 4 text)) (both_some_of with_part (number_in (take 2 (drop 4 text))) (part_parts (drop 6 text))) month test.1 in
    let rest = paired_is with_part (number_in (take 2 (drop 4 text))) (part_parts (drop 6 text)) all.1 all.3 in
    let last = part_is (drop 6 text) rest.1 rest.3 in
    let own : Month = as_month all.0 (with_part rest.0 rest.1) in
    let long : 6 ≤ length text = leb-true 6 (length text) test.0 in
    let is = month_together text own (record { long = long; year_read = all.2; month_read = rest.2; rest = last.1 }) in
    let year = piece_read 4 text all.0 (omega (arith, long)) all.2 in
    let number = piece_read 2 (drop 4 text) rest.0 (omega (arith, long, length-drop {A = ℕ})) rest.2 in
    subst (λ m. FitsMonth m × (text ≡ month_text m)) (ap (as_month all.0) rest.4 ∙ all.4) (record { year_fits = year.1; month_fits = number.1; part_fits = last.0 }, is)

pub month_parts_so : (month : Month) → FitsMonth month → month_parts (month_text month) ≡ Some month
month_parts_so month fits =
    let text = month_text month in
    let is = month_apart text month fits refl in
    if_true (nat_le 6 (length text)) _ None (le_so 6 (length text) is.long)
    ∙ paired_so as_month (number_in (take 4 text)) _ month.year (month.month, month.part) is.year_read
    (paired_so with_part (number_in (take 2 (drop 4 text))) (part_parts (drop 6 text)) month.month month.part is.month_read (ap part_parts is.rest ∙ part_so month.part fits.part_fits))

has_part_is : (year month : ℕ) (p : Part) → has_part year month p ≡ true → HasPart year month p
has_part_is year month part.Whole h = tt
has_part_is year month (part.Day day) h = is_day_is (record { year = year; month = month; day = day }) h
has_part_is year month (part.Week week) h = let a = both (nat_le 1 week) _ h in (leb-true 1 week a.0, leb-true week 5 a.1)

has_part_so : (year month : ℕ) (p : Part) → HasPart year month p → has_part year month p ≡ true
has_part_so year month part.Whole r = refl
has_part_so year month (part.Day day) r = is_day_so (record { year = year; month = month; day = day }) r
has_part_so year month (part.Week week) r = together (nat_le 1 week) _ (le_so 1 week r.0) (le_so week 5 r.1)

pub is_month_is : (month : Month) → is_month month ≡ true → IsMonth month
is_month_is month h =
    let a = both (nat_le 1 month.month) _ h in
    let b = both (nat_le month.month 12) _ a.1 in
    record { low = leb-true 1 month.month a.0; high = leb-true month.month 12 b.0; has = has_part_is month.year month.month month.part b.1 }

pub is_month_so : (month : Month) → IsMonth month → is_month month ≡ true
is_month_so month r =
    together (nat_le 1 month.month) _ (le_so 1 month.month r.low) (together (nat_le month.month 12) _ (le_so month.month 12 r.high) (has_part_so month.year month.month month.part r.has))
