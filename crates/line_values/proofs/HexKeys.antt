-- An object whose keys are all `hex`, and one with another key.
use Rattle.std.proofs.Common.{◌≡◌, ℕ, zero, suc, ◌+◌, ◌<◌, Bool, true, false, List, [], ◌∷◌, ◌++◌, length, take, get_or, map, codes, Bor, Some, None, refl, sym, ap, subst, ◌∙◌, arith, inl, inr, ◌⊎◌, bytes_eq, is_eq, true≢false, ne_eqb}
use Rattle.std.specs.Prelude.{if◌then◌else◌, option_and_then}
use Rattle.std.specs.Ordering.{nat_cmp, match_ordering}
use Rattle.std.specs.declared.cmp.Ordering.{Ordering}
use Rattle.std.specs.declared.cmp.Ordering.TheVariants.{Less, Equal, Greater}
use Rattle.std.specs.Cmp.Lexicographic.{slice_cmp}
use Rattle.std.specs.List.{AllByRecursion}
use Rattle.std.proofs.lemmas.List.{take_more}
use Rattle.std.proofs.lemmas.Cmp.{nat_list_cmp_total, tied_itself}
use Rattle.std.proofs.lemmas.Map.Text.{is_eq-slice_cmp}
use Rattle.std.proofs.lemmas.Slice.Eq.{bytes_eq-Decides}
use Rattle.serde_json.specs.Data.{Data, Members, no_members, member, put}
use Rattle.serde_json.specs.Find.{get_member, as_str}
use Rattle.serde_json.proofs.Views.{get_member-put, get_member-put_other}
use Rattle.json_data.specs.Trees.{data_of, members_of, put_each}
use Rattle.json_data.proofs.Growing.{Pair}
use Rattle.line_values.specs.declared.refusals.JCode.TheVariants as code
use Rattle.line_values.specs.Refusals.{Reading, refuse}
use Rattle.line_values.specs.Objects.{hex_digits, hex_in, members_count}

abbrev hex : List ℕ
hex = codes "hex"

-- the key is `hex`
abbrev pub IsHexKey : Pair → Type 0
IsHexKey m = m.0.now ≡ hex

-- ---- no other key

-- no member, or one with the key `hex`
abbrev HasOne : Members → Type 0
HasOne found = (found ≡ no_members) ⊎ ((d : Data) × (found ≡ member hex d no_members))

again : (d e : Data) → put hex d (member hex e no_members) ≡ member hex d no_members
again d e = ap (λ o. match_ordering o (member hex d (member hex e no_members)) (member hex d no_members) (member hex e (put hex d no_members))) (tied_itself nat_list_cmp_total hex)

put_one : (d : Data) (found : Members) → HasOne found → HasOne (put hex d found)
put_one d found (inl none) = inr (d, ap (put hex d) none)
put_one d found (inr one) = inr (d, ap (put hex d) one.1 ∙ again d one.0)

each_one : (ms : List Pair) (found : Members) → AllByRecursion IsHexKey ms → HasOne found → HasOne (put_each (map (λ (m : Pair). (m.0, data_of m.1)) ms) found)
each_one [] found all h = h
each_one (m ∷ ms) found all h =
    each_one ms (put m.0.now (data_of m.1) found) all.1 (subst (λ key. HasOne (put key (data_of m.1) found)) (sym all.0) (put_one (data_of m.1) found h))

-- what an object of this key has
abbrev digits_in : Members → Reading (List ℕ)
digits_in found = hex_digits (option_and_then as_str (get_member hex found))

one_read : (found : Members) → HasOne found → hex_in found ≡ digits_in found
one_read found (inl none) = subst (λ ms. hex_in ms ≡ digits_in ms) (sym none) refl
one_read found (inr one) = subst (λ ms. hex_in ms ≡ digits_in ms) (sym one.1) refl

pub only_hex : (ms : List Pair) → AllByRecursion IsHexKey ms → hex_in (members_of ms) ≡ digits_in (members_of ms)
only_hex ms all = one_read (members_of ms) (each_one ms no_members all (inl refl))

pub hex_more : (ms : List Pair) (i : ℕ) (other : Pair) → i < length ms → IsHexKey (get_or ms i other) → AllByRecursion IsHexKey (take i ms) → AllByRecursion IsHexKey (take (i + 1) ms)
hex_more ms i other h same all = subst (AllByRecursion IsHexKey) (sym (take_more ms i other h)) (all_with (take i ms) all)
  where
    all_with : (front : List Pair) → AllByRecursion IsHexKey front → AllByRecursion IsHexKey (front ++ get_or ms i other ∷ [])
    all_with [] all = (same, tt)
    all_with (p ∷ ps) all = (all.0, all_with ps all.1)

-- ---- another key

-- a member has the key
abbrev Has : List ℕ → Members → Type 0
Has key found = (d : Data) × (get_member key found ≡ Some d)

has_by : (b : Bool) (key other : List ℕ) (d : Data) (found : Members) → bytes_eq key other ≡ b → Has key found → Has key (put other d found)
has_by true key other d found is h = (d, subst (λ k. get_member k (put other d found) ≡ Some d) (sym ((bytes_eq-Decides key other).0 is)) (get_member-put other d found))
has_by false key other d found is h =
    (h.0, get_member-put_other key other d found (λ same. true≢false (sym ((bytes_eq-Decides key other).1 same) ∙ is)) ∙ h.1)

has_each : (key : List ℕ) (ds : List (Bor (List ℕ) × Data)) (found : Members) → Has key found → Has key (put_each ds found)
has_each key [] found h = h
has_each key (d ∷ ds) found h = has_each key ds (put d.0.now d.1 found) (has_by (bytes_eq key d.0.now) key d.0.now d.1 found refl h)

has_there : (ms : List Pair) (i : ℕ) (other : Pair) (found : Members) → i < length ms → Has (get_or ms i other).0.now (put_each (map (λ (p : Pair). (p.0, data_of p.1)) ms) found)
has_there [] i other found h = absurd (omega arith)
has_there (p ∷ ms) zero other found h =
    has_each p.0.now (map (λ (q : Pair). (q.0, data_of q.1)) ms) (put p.0.now (data_of p.1) found) (data_of p.1, get_member-put p.0.now (data_of p.1) found)
has_there (p ∷ ms) (suc i) other found h = has_there ms i other (put p.0.now (data_of p.1) found) (omega arith)

alone_by : (o : Ordering) (d e : Data) → match_ordering o None (Some d) None ≡ Some e → is_eq o ≡ true
alone_by Less d e h = absurd cc
alone_by Equal d e h = refl
alone_by Greater d e h = absurd cc

-- the one key of an object
alone : (key other : List ℕ) (d : Data) → Has key (member other d no_members) → key ≡ other
alone key other d h = (bytes_eq-Decides key other).0 (sym (is_eq-slice_cmp key other) ∙ alone_by (slice_cmp nat_cmp key other) d h.0 h.1)

none_by : (o : Ordering) (d : Data) → (is_eq o ≡ true → ⊥) → match_ordering o None (Some d) None ≡ None
none_by Less d h = refl
none_by Equal d h = absurd (h refl)
none_by Greater d h = refl

not_there : (key other : List ℕ) (d : Data) → (key ≡ other → ⊥) → get_member key (member other d no_members) ≡ None
not_there key other d h = none_by (slice_cmp nat_cmp key other) d (λ same. h ((bytes_eq-Decides key other).0 (sym (is_eq-slice_cmp key other) ∙ same)))

other_read : (found : Members) (key : List ℕ) → Has key found → (key ≡ hex → ⊥) → hex_in found ≡ refuse code.Kind []
other_read no_members key h apart = refl
other_read (member other d no_members) key h apart =
    ap (λ o. hex_digits (option_and_then as_str o)) (not_there hex other d (λ same. apart (alone key other d h ∙ sym same)))
other_read (member other d (member next e ms)) key h apart =
    ap (λ (b : Bool). if b then digits_in (member other d (member next e ms)) else refuse code.Kind []) (ne_eqb (suc (suc (members_count ms))) 1 (λ same. let never : ⊥ = omega (arith, same) in never))

pub other_key : (ms : List Pair) (i : ℕ) (other : Pair) → i < length ms → (IsHexKey (get_or ms i other) → ⊥) → hex_in (members_of ms) ≡ refuse code.Kind []
other_key ms i other h apart = other_read (members_of ms) (get_or ms i other).0.now (has_there ms i other no_members h) apart
