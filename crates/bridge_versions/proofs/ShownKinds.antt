-- What is written of a value that bytes show, at any version, has the item of the value and can be read.
use Rattle.std.proofs.Common.{◌≡◌, inl, inr, ℕ, Bool, true, false, cond, List, [], ◌∷◌, Some, None, sym, ◌∙◌, subst, ℤ}
use Rattle.std.specs.Prelude.{◌||◌, not, ⊤}
use Rattle.byte_digits.specs.Digits.{IsBytes}
use Rattle.sbe_types.specs.declared.kind.Order.{Order}
use Rattle.sbe_types.specs.declared.kind.Leaf.{Leaf as LeafOf}
use Rattle.sbe_types.specs.declared.kind.Named.{Named}
use Rattle.sbe_types.specs.declared.kind.Kind.{Kind, Leaf, Enum, Set, Const, Comp', Row_of-Member, end_of-Member, more_of-Member, items-the_row-Member}
use Rattle.sbe_types.specs.declared.message.Value.{Value}
use Rattle.sbe_types.specs.declared.message.Value as value
use Rattle.sbe_types.specs.Numbers.{number_of, natural}
use Rattle.sbe_types.specs.Shown.{is_null, is_listed, has_listed_bits, shown_enum, shown_set}
use Rattle.sbe_types.specs.Shows.{Shows, MembersShow}
use Rattle.schema_facts.specs.InOrder.{IsKindInOrder}
use Rattle.writing_laws.proofs.KindBack.{shown_fits}
use Rattle.bridge_rules.specs.Rules.{Rule}
use Rattle.bridge_rules.specs.Datatypes.{Datatype}
use Rattle.bridge_rules.specs.Bounds.{IsMapped}
use Rattle.bridge_rules.specs.Table.{kinds_of, rule_of}
use Rattle.bridge_rules.proofs.OptionLemmas.{some_is, if_some}
use Rattle.bridge_rules.proofs.BoolLemmas.{either, or_left, if_true, if_false}
use Rattle.bridge_rules.proofs.TableRules.{rule_kept}
use Rattle.bridge_rules.proofs.TableCases.{OfComposite, composite_cases}
use Rattle.bridge_rules.proofs.FittingShown.{IsWritten, fitting_shown, fitting_read}
use Rattle.bridge_plan.proofs.BackFits.{KindsAreWritable}
use Rattle.bridge_versions.proofs.RawValues.{raw_enum, raw_set}

-- ---- composites, whose members are numbers and constants

-- the kind shows the same at every version
abbrev IsPlain : Kind → Type 0
IsPlain (Leaf l) = ⊤
IsPlain (Const c) = ⊤
IsPlain (Enum l names) = ⊥
IsPlain (Set p names) = ⊥
IsPlain (Comp' n members) = ⊥

abbrev ArePlain : List Kind → Rule → Type 0
ArePlain [] rule = ⊤
ArePlain (k ∷ ks) rule = IsPlain k × ArePlain ks rule

of_plain : OfComposite ArePlain
of_plain = record {
  fixed = λ m e is. (tt, (tt, tt));
  floating = λ m e is so. (tt, (tt, tt));
  counted = λ from time c u is unit. (tt, (tt, tt));
  wired = λ from time unit is so. (tt, (tt, tt));
  month = λ y m d w is so day week. (tt, (tt, (tt, (tt, tt))));
}

plain_shows : (order : Order) (known : Bool) (k : Kind) (v : Value) (b : List ℕ) → IsPlain k → Shows order known k v b → Shows order true k v b
plain_shows order known (Leaf l) v b is h = h
plain_shows order known (Const c) v b is h = h
plain_shows order known (Enum l names) v b is h = absurd is
plain_shows order known (Set p names) v b is h = absurd is
plain_shows order known (Comp' n members) v b is h = absurd is

members_show : (order : Order) (known : Bool) (rule : Rule) {n : _} (row : Row_of-Member n) (e : ℕ) (vs : List Value) (b : List ℕ) → ArePlain (kinds_of (items-the_row-Member n row)) rule →
    MembersShow order known e row vs b → MembersShow order true e row vs b
members_show order known rule end_of-Member e [] b are h = tt
members_show order known rule end_of-Member e (v ∷ vs) b are h = absurd h
members_show order known rule (more_of-Member name offset kind rest) e [] b are h = absurd h
members_show order known rule (more_of-Member name offset kind rest) e (v ∷ vs) b are h =
    (plain_shows order known kind v _ are.0 h.0, members_show order known rule rest _ vs b are.1 h.1)

-- ---- listed values

enum_known : (leaf : LeafOf) (names : List Named) (known : Bool) (n : ℤ) (v : Value) → is_null leaf n ≡ true → shown_enum leaf names known n ≡ Some v → shown_enum leaf names true n ≡ Some v
enum_known leaf names known n v null h =
    if_true (is_null leaf n) (Some value.Null) (cond (is_listed names n || not true) (Some (value.Enum n)) None) null
    ∙ sym (if_true (is_null leaf n) (Some value.Null) (cond (is_listed names n || not known) (Some (value.Enum n)) None) null) ∙ h

enum_listed : (leaf : LeafOf) (names : List Named) (known : Bool) (n : ℤ) (v : Value) → is_null leaf n ≡ false → is_listed names n ≡ true → shown_enum leaf names known n ≡ Some v → shown_enum leaf names true n ≡ Some v
enum_listed leaf names known n v null listed h =
    let shows : (k : Bool) → shown_enum leaf names k n ≡ Some (value.Enum n) = λ k.
    if_false (is_null leaf n) (Some value.Null) (cond (is_listed names n || not k) (Some (value.Enum n)) None) null
    ∙ if_true (is_listed names n || not k) (Some (value.Enum n)) None (or_left (is_listed names n) (not k) listed) in
    shows true ∙ sym (shows known) ∙ h

enum_raw : (leaf : LeafOf) (names : List Named) (known : Bool) (n : ℤ) (v : Value) → is_null leaf n ≡ false → shown_enum leaf names known n ≡ Some v → value.Enum n ≡ v
enum_raw leaf names known n v null h =
    some_is (if_some (is_listed names n || not known) (Some (value.Enum n)) v
    (sym (if_false (is_null leaf n) (Some value.Null) (cond (is_listed names n || not known) (Some (value.Enum n)) None) null) ∙ h)).1

set_raw : (names : List Named) (known : Bool) (n : ℕ) (v : Value) → shown_set names known n ≡ Some v → value.Set n ≡ v
set_raw names known n v h = some_is (if_some (has_listed_bits names 64 n || not known) (Some (value.Set n)) v h).1

-- ---- a kind

-- what is written of what bytes show at the schema's own version
own_written : KindsAreWritable → (order : Order) (k : Kind) (d : Datatype) (rule : Rule) (v : Value) (b : List ℕ) → IsKindInOrder k → IsMapped d → rule_of k d ≡ Some rule → IsBytes b →
    Shows order true k v b → IsWritten rule v
own_written writable order k d rule v b facts mapped h good shows =
    let fits = shown_fits order k facts.within.placed (writable 1 k facts.parts) v b good shows in
    (fitting_shown order k d rule v facts.parts mapped h fits, fitting_read order k d rule v facts.parts mapped h fits)

pub kind_written : KindsAreWritable → (order : Order) (known : Bool) (k : Kind) (d : Datatype) (rule : Rule) (v : Value) (b : List ℕ) → IsKindInOrder k → IsMapped d → rule_of k d ≡ Some rule → IsBytes b →
    Shows order known k v b → IsWritten rule v
kind_written writable order known (Leaf l) d rule v b facts mapped h good shows = own_written writable order (Leaf l) d rule v b facts mapped h good shows
kind_written writable order known (Const c) d rule v b facts mapped h good shows = own_written writable order (Const c) d rule v b facts mapped h good shows
kind_written writable order known (Enum l names) d rule v b facts mapped h good shows =
    let n = number_of order l.prim b in
    elim (either (is_null l n)) [
      | inl t ↦ own_written writable order (Enum l names) d rule v b facts mapped h good (shows.0, enum_known l names known n v t shows.1)
      | inr f ↦ elim (either (is_listed names n)) [
        | inl t ↦ own_written writable order (Enum l names) d rule v b facts mapped h good (shows.0, enum_listed l names known n v f t shows.1)
        | inr g ↦ subst (IsWritten rule) (enum_raw l names known n v f shows.1) (raw_enum l names n g d rule h (rule_kept (Enum l names) d rule facts.parts mapped h).0)
      ]
    ]
kind_written writable order known (Set p names) d rule v b facts mapped h good shows =
    let n = natural (number_of order p b) in
    subst (IsWritten rule) (set_raw names known n v shows.1) (raw_set names n d rule h (rule_kept (Set p names) d rule facts.parts mapped h).0)
kind_written writable order known (Comp' n members) d rule v b facts mapped h good shows =
    let are = composite_cases ArePlain of_plain (items-the_row-Member _ members) d rule h in
    own_written writable order (Comp' n members) d rule v b facts mapped h good (shows.0, (shows.1.0, shows.1.1, members_show order known rule members 0 shows.1.0 b are shows.1.2))
