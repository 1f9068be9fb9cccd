-- A valid value's name leads back to its number, and the names of choices to their bits.
use Rattle.std.proofs.Common.{◌≡◌, ◌≢◌, ◌<◌, ◌≤◌, ℕ, zero, suc, ◌+◌, ◌^◌, ◌==◌, Bool, true, false, cond, List, [], ◌∷◌, ◌++◌, ℤ, pos, negsuc, Option, Some, None, Ok, map, refl, sym, ap, ◌∙◌, subst, arith, max, min, inl, inr, ◌⊎◌, eq-eqb, append_assoc}
use Rattle.std.specs.Prelude.{◌||◌, if◌then◌else◌, nat_lt, ⊤}
use Rattle.std.specs.List.{AllByRecursion}
use Rattle.std.specs.Option.{option_map_or}
use Rattle.std.specs.Ordering.{int_eq}
use Rattle.std.specs.Int.{bit_at}
use Rattle.std.specs.Str.{bytes_eq}
use lib.Bits.{bit_and, bit_or}
use Rattle.std.proofs.lemmas.Bool.{eqb-true, and_parts, cases_lt}
use Rattle.std.proofs.lemmas.Bool.Decides.{Decides-int_eq, nat_tests}
use Rattle.std.proofs.lemmas.Nat.{or_disjoint}
use Rattle.std.proofs.lemmas.Nat.Bits.{same_from_bits, bit_at_and, bit_at_or, bit_at-zero, bit_at-lt, bit_at-pow_same, bit_at-pow_other, bit_at_above}
use Rattle.std.proofs.lemmas.Slice.Eq.{bytes_eq-Decides}
use Rattle.serde_json.specs.Data.{number, string, array, unsigned, item}
use Rattle.serde_json.specs.Find.{of_integer}
use Rattle.sbe_types.specs.declared.kind.Leaf.{Leaf as LeafOf}
use Rattle.sbe_types.specs.declared.kind.Named.{Named}
use Rattle.sbe_types.specs.declared.message.Value.{Value}
use Rattle.sbe_types.specs.declared.message.Value.TheVariants as value
use Rattle.sbe_types.specs.declared.kind.Primitive.{Primitive}
use Rattle.sbe_types.specs.declared.kind.Primitive.TheVariants.{Char, I8, I16, I32, I64, U8, U16, U32, U64}
use Rattle.sbe_types.specs.Numbers.{prim_width}
use Rattle.sbe_types.specs.Shown.{is_listed, has_listed_bits}
use Rattle.schema_facts.specs.InOrder.{IsBitOf}
use Rattle.json_values.specs.Values.{name_of, enum_data, number_data, has_bit, chosen, set_data}
use Rattle.line_values.specs.Refusals.{◌>>=◌, or_refuse}
use Rattle.line_values.specs.declared.refusals.JCode.TheVariants as code
use Rattle.named_numbers.specs.Bits.{bit_of}
use Rattle.line_values.specs.Values.{number_named, enum_in, integer_in, bit_named, with_bit, choices_in, set_in}
use Rattle.line_laws.specs.AsRead.{as_read, items_as_read}
use Rattle.line_laws.proofs.Differ.{IsOther, DoDiffer, not_same}

pub some_is : {A : Type 0} {x y : A} → ◌≡◌ {A = Option A} (Some x) (Some y) → x ≡ y
some_is h = cc

pub none_some : {A : Type 0} {x : A} → ◌≡◌ {A = Option A} None (Some x) → ⊥
none_some k = cc

-- the names of valid values or choices
abbrev pub names_of : List Named → List (List ℕ)
names_of values = map (λ (v : Named). v.name) values

-- their numbers
abbrev pub numbers_of : List Named → List ℤ
numbers_of values = map (λ (v : Named). v.number) values

-- ---- valid values

other_by : (x : List ℕ) (v : Named) (vs : List Named) (n : ℤ) (s : List ℕ) (t : Bool) → ((k : name_of vs n ≡ Some s) → x ≢ s) → x ≢ v.name → cond t (Some v.name) (name_of vs n) ≡ Some s → x ≢ s
other_by x v vs n s true later here is = λ same. here (same ∙ sym (some_is is))
other_by x v vs n s false later here is = later is

-- a name that is found is one of the names
found_other : (x : List ℕ) (vs : List Named) (n : ℤ) (s : List ℕ) → IsOther x (names_of vs) → name_of vs n ≡ Some s → x ≢ s
found_other x [] n s h is = absurd (none_some is)
found_other x (v ∷ vs) n s h is = other_by x v vs n s (int_eq v.number n) (found_other x vs n s h.1) h.0 is

named_by : (v : Named) (vs : List Named) (n : ℤ) (s : List ℕ) (t : Bool) → int_eq v.number n ≡ t → IsOther v.name (names_of vs) → (name_of vs n ≡ Some s → number_named vs s ≡ Some n)
    → cond t (Some v.name) (name_of vs n) ≡ Some s → cond (bytes_eq v.name s) (Some v.number) (number_named vs s) ≡ Some n
named_by v vs n s true e new later is =
    ap (λ t. cond t (Some v.number) (number_named vs s)) ((bytes_eq-Decides v.name s).1 (some_is is)) ∙ ap Some ((Decides-int_eq v.number n).0 e)
named_by v vs n s false e new later is =
    ap (λ t. cond t (Some v.number) (number_named vs s)) (not_same v.name s (found_other v.name vs n s new is)) ∙ later is

-- the name that is found for a number is that number's
name_back : (vs : List Named) (n : ℤ) (s : List ℕ) → DoDiffer (names_of vs) → name_of vs n ≡ Some s → number_named vs s ≡ Some n
name_back [] n s h is = absurd (none_some is)
name_back (v ∷ vs) n s h is = named_by v vs n s (int_eq v.number n) refl h.0 (name_back vs n s h.1) is

-- an integer is read as it was written
pub integer_back : (made : ℤ → Value) (n : ℤ) → integer_in made (of_integer n) ≡ Ok (made n)
integer_back made (pos n) = refl
integer_back made (negsuc n) = refl

enum_by : (l : LeafOf) (names : List Named) (n : ℤ) (o : Option (List ℕ)) → name_of names n ≡ o → DoDiffer (names_of names) → enum_in l names (as_read (option_map_or string o (number_data n))) ≡ Ok (value.Enum n)
enum_by l names n None is h = integer_back value.Enum n
enum_by l names n (Some s) is h = ap (λ o. or_refuse code.UnknownName [] o >>= (λ z. Ok (value.Enum z))) (name_back names n s h is)

-- the number of an enum is read back, by its name or as it is
pub enum_back : (l : LeafOf) (names : List Named) (n : ℤ) → DoDiffer (names_of names) → enum_in l names (as_read (enum_data names n)) ≡ Ok (value.Enum n)
enum_back l names n h = enum_by l names n (name_of names n) refl h

-- ---- one bit more

least : (a b : ℕ) → (a ≡ 0) ⊎ (b ≡ 0) → min a b ≡ 0
least a b (inl h) = grind arith
least a b (inr h) = grind arith

apart_at : (bits k i : ℕ) (t : Bool) → (i == k) ≡ t → bit_at bits k ≡ 0 → bit_at (bit_and bits (2 ^ k)) i ≡ 0
apart_at bits k i true e clear = bit_at_and bits (2 ^ k) i ∙ least (bit_at bits i) (bit_at (2 ^ k) i) (inl (subst (λ j. bit_at bits j ≡ 0) (sym (eqb-true i k e)) clear))
apart_at bits k i false e clear =
    bit_at_and bits (2 ^ k) i ∙ least (bit_at bits i) (bit_at (2 ^ k) i) (inr (bit_at-pow_other k i (λ same. let found = eq-eqb i k same in absurd cc)))

joined : (bits k : ℕ) → bit_at bits k ≡ 0 → bit_or bits (2 ^ k) ≡ bits + 2 ^ k
joined bits k clear = or_disjoint bits (2 ^ k) (same_from_bits (bit_and bits (2 ^ k)) 0 (λ i. apart_at bits k i (i == k) refl clear ∙ sym (bit_at-zero i)))

set_there : (bits k : ℕ) → bit_at bits k ≡ 0 → bit_at (bits + 2 ^ k) k ≡ 1
set_there bits k clear =
    ap (λ n. bit_at n k) (sym (joined bits k clear)) ∙ bit_at_or bits (2 ^ k) k ∙ ap (λ b. max b (bit_at (2 ^ k) k)) clear ∙ ap (max 0) (bit_at-pow_same k)

same_elsewhere : (bits k i : ℕ) → bit_at bits k ≡ 0 → i ≢ k → bit_at (bits + 2 ^ k) i ≡ bit_at bits i
same_elsewhere bits k i clear other =
    let none : bit_at (2 ^ k) i ≡ 0 = bit_at-pow_other k i other in
    let both : bit_at (bits + 2 ^ k) i ≡ max (bit_at bits i) (bit_at (2 ^ k) i) = ap (λ n. bit_at n i) (sym (joined bits k clear)) ∙ bit_at_or bits (2 ^ k) i in
    both ∙ ap (max (bit_at bits i)) none ∙ most (bit_at bits i)
  where
    most : (n : ℕ) → max n 0 ≡ n
    most n = omega arith

-- ---- choices

-- the name of a choice leads to its bit
bit_there : (front : List Named) (c : Named) (rest : List Named) → DoDiffer (names_of (front ++ c ∷ rest)) → bit_named (front ++ c ∷ rest) c.name ≡ bit_of c.number
bit_there [] c rest h = ap (λ t. cond t (bit_of c.number) (bit_named rest c.name)) ((bytes_eq-Decides c.name c.name).1 refl)
bit_there (x ∷ front) c rest h =
    ap (λ t. cond t (bit_of x.number) (bit_named (front ++ c ∷ rest) c.name)) (not_same x.name c.name (after x.name front c rest h.0)) ∙ bit_there front c rest h.1
  where
    after : (name : List ℕ) (front : List Named) (c : Named) (rest : List Named) → IsOther name (names_of (front ++ c ∷ rest)) → name ≢ c.name
    after name [] c rest h = h.0
    after name (x ∷ front) c rest h = after name front c rest h.1

-- what was read so far: the bits that no choice after it has
abbrev AreRead : ℕ → List Named → ℕ → Type 0
AreRead bits after so_far = (k : ℕ) → bit_at so_far k ≡ (if is_listed after (pos k) then 0 else bit_at bits k)

-- each choice is a bit of 64
abbrev pub AreBits : List Named → Type 0
AreBits [] = ⊤
AreBits (c ∷ cs) = IsBitOf 8 c.number × AreBits cs

unlisted : (n : ℤ) (cs : List Named) → IsOther n (numbers_of cs) → is_listed cs n ≡ false
unlisted n [] h = refl
unlisted n (c ∷ cs) h = by (int_eq c.number n) refl (unlisted n cs h.1)
  where
    by : (t : Bool) → int_eq c.number n ≡ t → is_listed cs n ≡ false → (t || is_listed cs n) ≡ false
    by true e later = absurd (h.0 (sym ((Decides-int_eq c.number n).0 e)))
    by false e later = later

one_is : (b : ℕ) → b < 2 → (b == 1) ≡ false → b ≡ 0
one_is b lt h = grind (arith, nat_tests)

module _ (bits : ℕ) (names : List Named) (differ : DoDiffer (names_of names)) where
  abbrev Back : List Named → ℕ → Type 0
  Back cs so_far = choices_in names so_far (items_as_read (chosen bits cs)) ≡ Ok bits

  -- the choice's own bit isn't read yet
  clear_there : (j : ℕ) (cs : List Named) (so_far : ℕ) (c : Named) → c.number ≡ pos j → AreRead bits (c ∷ cs) so_far → bit_at so_far j ≡ 0
  clear_there j cs so_far c is read =
      read j ∙ ap (λ t. if t || is_listed cs (pos j) then 0 else bit_at bits j) ((Decides-int_eq c.number (pos j)).1 is)

  elsewhere : (j k : ℕ) (cs : List Named) (so_far : ℕ) (c : Named) → c.number ≡ pos j → k ≢ j → AreRead bits (c ∷ cs) so_far → bit_at so_far k ≡ (if is_listed cs (pos k) then 0 else bit_at bits k)
  elsewhere j k cs so_far c is other read =
      read k ∙ ap (λ t. if t || is_listed cs (pos k) then 0 else bit_at bits k) (not_it (int_eq c.number (pos k)) refl)
    where
      pos_is : {a b : ℕ} → pos a ≡ pos b → a ≡ b
      pos_is h = cc

      not_it : (t : Bool) → int_eq c.number (pos k) ≡ t → t ≡ false
      not_it true e = absurd (other (pos_is (sym ((Decides-int_eq c.number (pos k)).0 e) ∙ is)))
      not_it false e = refl

  -- after the choice, with its bit or without it
  next_by : (j : ℕ) (cs : List Named) (so_far more : ℕ) (c : Named) → c.number ≡ pos j → IsOther c.number (numbers_of cs) → AreRead bits (c ∷ cs) so_far
      → bit_at more j ≡ bit_at bits j → ((k : ℕ) → k ≢ j → bit_at more k ≡ bit_at so_far k) → AreRead bits cs more
  next_by j cs so_far more c is new read here there k = by (k == j) refl
    where
      alone : is_listed cs (pos j) ≡ false
      alone = unlisted (pos j) cs (subst (λ n. IsOther n (numbers_of cs)) is new)

      at_it : k ≡ j → bit_at more k ≡ (if is_listed cs (pos k) then 0 else bit_at bits k)
      at_it same = subst (λ i. bit_at more i ≡ (if is_listed cs (pos i) then 0 else bit_at bits i)) (sym same) (here ∙ ap (λ t. if t then 0 else bit_at bits j) (sym alone))

      by : (t : Bool) → (k == j) ≡ t → bit_at more k ≡ (if is_listed cs (pos k) then 0 else bit_at bits k)
      by true e = at_it (eqb-true k j e)
      by false e =
          let other : k ≢ j = λ same. let found = eq-eqb k j same in absurd cc in
          there k other ∙ elsewhere j k cs so_far c is other read

  small_bit : (j : ℕ) → j < 64 → bit_of (pos j) ≡ Some j
  small_bit j lt = let t : nat_lt j 64 ≡ true = grind (arith, nat_tests) in ap (λ t. if t then Some j else None) t

  chosen_by : (t : Bool) (j : ℕ) (front cs : List Named) (so_far : ℕ) (c : Named) → names ≡ front ++ c ∷ cs → c.number ≡ pos j → j < 64 → IsOther c.number (numbers_of cs) → AreRead bits (c ∷ cs) so_far
      → (bit_at bits j == 1) ≡ t → ((more : ℕ) → AreRead bits cs more → Back cs more)
      → choices_in names so_far (items_as_read (if t then item (string c.name) (chosen bits cs) else chosen bits cs)) ≡ Ok bits
  unfolding choices_in
  chosen_by false j front cs so_far c at is lt new read e rest =
      let clear = clear_there j cs so_far c is read in
      rest so_far (next_by j cs so_far so_far c is new read (clear ∙ sym (one_is (bit_at bits j) (bit_at-lt bits j) e)) (λ k other. refl))
  chosen_by true j front cs so_far c at is lt new read e rest =
      let clear = clear_there j cs so_far c is read in
      let found : bit_named names c.name ≡ Some j = ap (λ ns. bit_named ns c.name) at ∙ bit_there front c cs (subst (λ ns. DoDiffer (names_of ns)) at differ) ∙ ap bit_of is ∙ small_bit j lt in
      let more : with_bit so_far j ≡ Ok (so_far + 2 ^ j) = rw clear refl in
      rw (found, more) (rest (so_far + 2 ^ j) (next_by j cs so_far (so_far + 2 ^ j) c is new read (set_there so_far j clear ∙ sym (eqb-true (bit_at bits j) 1 e)) (λ k other. same_elsewhere so_far j k clear other)))

  one_choice : (front cs : List Named) (so_far : ℕ) (c : Named) → names ≡ front ++ c ∷ cs → (z : ℤ) → c.number ≡ z → IsBitOf 8 z → IsOther c.number (numbers_of cs) → AreRead bits (c ∷ cs) so_far
      → ((more : ℕ) → AreRead bits cs more → Back cs more) → Back (c ∷ cs) so_far
  one_choice front cs so_far c at (pos j) is lt new read rest =
      ap (λ n. choices_in names so_far (items_as_read (if has_bit bits n then item (string c.name) (chosen bits cs) else chosen bits cs))) is
      ∙ chosen_by (bit_at bits j == 1) j front cs so_far c at is (omega (arith, lt)) new read refl rest
  one_choice front cs so_far c at (negsuc j) is lt new read rest = absurd lt

  -- the choices that follow are read
  choices_back : (front cs : List Named) (so_far : ℕ) → names ≡ front ++ cs → AreBits cs → DoDiffer (numbers_of cs) → AreRead bits cs so_far → Back cs so_far
  unfolding choices_in
  choices_back front [] so_far at small apart read = ap Ok (same_from_bits so_far bits read)
  choices_back front (c ∷ cs) so_far at small apart read =
      one_choice front cs so_far c at c.number refl small.0 apart.0 read
      (λ more r. choices_back (front ++ c ∷ []) cs more (at ∙ sym (append_assoc front (c ∷ []) cs)) small.1 apart.1 r)

clear_by : (b l : Bool) → (b || l) ≡ true → l ≡ false → b ≡ true
clear_by true l h k = refl
clear_by false l h k = absurd (let both = sym h ∙ k in cc)

-- a bit that is no choice isn't set
clear_at : (names : List Named) (bits m k : ℕ) → has_listed_bits names m bits ≡ true → k < m → is_listed names (pos k) ≡ false → bit_at bits k ≡ 0
clear_at names bits zero k h lt un = absurd (omega arith)
clear_at names bits (suc m) k h lt un =
    let parts = and_parts (has_listed_bits names m bits) (bit_at bits m == 0 || is_listed names (pos m)) h in
    elim (cases_lt k m) [
      | inl below ↦ clear_at names bits m k parts.0 below un
      | inr top ↦
          let e : k ≡ m = omega arith in
          rw e (eqb-true _ _ (clear_by (bit_at bits m == 0) (is_listed names (pos m)) parts.1 (ap (λ i. is_listed names (pos i)) (sym e) ∙ un)))
    ]

-- nothing is read yet
none_read : (names : List Named) (bits : ℕ) → bits < 2 ^ 64 → has_listed_bits names 64 bits ≡ true → AreRead bits names 0
none_read names bits within h k = bit_at-zero k ∙ by (is_listed names (pos k)) refl
  where
    clear : is_listed names (pos k) ≡ false → bit_at bits k ≡ 0
    clear un = elim (cases_lt k 64) [ inl below ↦ clear_at names bits 64 k h below un | inr above ↦ bit_at_above bits 64 k within above ]

    by : (t : Bool) → is_listed names (pos k) ≡ t → 0 ≡ (if t then 0 else bit_at bits k)
    by true e = refl
    by false e = sym (clear e)

prim_small : (p : Primitive) → prim_width p ≤ 8
prim_small Char = omega arith
prim_small I8 = omega arith
prim_small I16 = omega arith
prim_small I32 = omega arith
prim_small I64 = omega arith
prim_small U8 = omega arith
prim_small U16 = omega arith
prim_small U32 = omega arith
prim_small U64 = omega arith

wider : (n : ℕ) (z : ℤ) → n ≤ 8 → IsBitOf n z → IsBitOf 8 z
wider n (pos k) small h = omega (arith, h, small)
wider n (negsuc k) small h = h

pub are_bits : (p : Primitive) (cs : List Named) → AllByRecursion (λ (c : Named). IsBitOf (prim_width p) c.number) cs → AreBits cs
are_bits p [] h = tt
are_bits p (c ∷ cs) h = (wider (prim_width p) c.number (prim_small p) h.0, are_bits p cs h.1)

set_by : (names : List Named) (bits : ℕ) (t : Bool) → has_listed_bits names 64 bits ≡ t → bits < 2 ^ 64 → AreBits names → DoDiffer (names_of names) → DoDiffer (numbers_of names)
    → set_in names (as_read (if t then array (chosen bits names) else number (unsigned bits))) ≡ Ok (value.Set bits)
set_by names bits true listed within small differ apart =
    ap (λ r. r >>= (λ n. Ok (value.Set n))) (choices_back bits names differ [] names 0 refl small apart (none_read names bits within listed))
set_by names bits false listed within small differ apart = refl

-- a set is read back, by the names of its choices or by its number
pub set_back : (names : List Named) (bits : ℕ) → bits < 2 ^ 64 → AreBits names → DoDiffer (names_of names) → DoDiffer (numbers_of names) → set_in names (as_read (set_data names bits)) ≡ Ok (value.Set bits)
set_back names bits within small differ apart = set_by names bits (has_listed_bits names 64 bits) refl within small differ apart
