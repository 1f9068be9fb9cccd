-- What holds of one rule, for the laws of whole messages. Own profile.
use Rattle.std.specs.Prelude.{◌≡◌, ℕ, true, List, Some, None, Ok, ℤ}
use Rattle.sbe_types.specs.declared.message.Value.{Value}
use Rattle.std.specs.List.{list_any}
use Rattle.std.specs.Ordering.{int_eq}
use Rattle.sbe_types.specs.declared.kind.Named.{Named}
use Rattle.fix_values.specs.declared.rule.Code.{Code}
use Rattle.fix_values.specs.Codes.{is_apart, same_number, same_text}
use Rattle.sbe_types.specs.Shown.{is_listed}
use Rattle.bridge_rules.specs.Rules.{Rule}
use Rattle.bridge_rules.specs.Texts.{text_by}
use Rattle.bridge_rules.specs.Values.{value_by, missing_by}
use Rattle.bridge_rules.specs.Items.{Item, item_by, item_in}
use Rattle.bridge_rules.specs.Good.{Good}

-- a text is read as exactly the good value with its item, and a missing field as exactly the good value without an item
pub record IsSound (rule : Rule) : Type 0 where
  pub read : (t : List ℕ) (v : Value) → value_by rule t ≡ Ok v → Good rule v × ((item : Item) × (item_in rule t ≡ Some item) × (item_by rule v ≡ Some item))
  pub found : (t : List ℕ) (v : Value) (item : Item) → Good rule v → item_in rule t ≡ Some item → item_by rule v ≡ Some item → value_by rule t ≡ Ok v
  pub missed : (v : Value) → missing_by rule ≡ Some v → Good rule v × (item_by rule v ≡ None)
  pub lacking : (v : Value) → Good rule v → item_by rule v ≡ None → missing_by rule ≡ Some v

-- the text that is written of a value has the value's item, and a value without a text has no item
pub record IsShown (rule : Rule) (v : Value) : Type 0 where
  pub written : (t : List ℕ) → text_by rule v ≡ Ok (Some t) → (item : Item) × (item_in rule t ≡ Some item) × (item_by rule v ≡ Some item)
  pub unwritten : text_by rule v ≡ Ok None → item_by rule v ≡ None

-- what is written of a value can be read, and if nothing is written, the value may be missing
pub record IsReadable (rule : Rule) (v : Value) : Type 0 where
  pub read : (t : List ℕ) → text_by rule v ≡ Ok (Some t) → (w : Value) × (value_by rule t ≡ Ok w)
  pub missed : text_by rule v ≡ Ok None → (w : Value) × (missing_by rule ≡ Some w)

-- the codes are those of listed values, and differ in number and in text
pub record AreCodes (names : List Named) (codes : List Code) : Type 0 where
  pub numbers : is_apart same_number codes ≡ true
  pub texts : is_apart same_text codes ≡ true
  pub listed : (n : ℤ) → list_any (λ (code : Code). int_eq code.number n) codes ≡ true → is_listed names n ≡ true

-- the text that is written of each good value has the value's item
abbrev pub ShowsGood : Rule → Type 0
ShowsGood rule = (v : Value) → Good rule v → IsShown rule v
