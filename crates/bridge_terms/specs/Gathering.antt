-- What is collected from fields by the structure: at each part, what its one field gives; in a group, what each entry's
-- piece of the run gives. Application items and values are both collected like this. Own profile.
use Rattle.std.specs.Prelude.{ℕ, Bool, true, false, ◌&&◌, if◌then◌else◌, nat_eq, List, [], ◌∷◌, length, ℤ, pos, negsuc, Option, Some, None, Result, Ok, Err}
use Rattle.sbe_types.specs.declared.kind.Leaf.{Leaf as LeafOf}
use Rattle.sbe_types.specs.declared.message.Value.{Value}
use Rattle.sbe_types.specs.Shown.{admits}
use Rattle.fix_values.specs.Numerals.{integer_of}
use Rattle.bridge_rules.specs.Rules.{Rule}
use Rattle.bridge_rules.specs.Items.{application_item, Item, item_in, item_by}
use Rattle.bridge_rules.specs.Values.{Misread, value_by, missing_by}
use Rattle.bridge_rules.specs.Members.{and_then}
use Rattle.bridge_terms.specs.Plans.{Plan, Tree, done, single, group, tags, owns, map_tree}
use Rattle.tagvalue_codec.specs.Fields.{Field}
use Rattle.bridge_terms.specs.Parts.{Part, Pieces, parts_of, pieces_of, part_at, are_known, are_distinct}

-- how fields are read: what a part gives by its rule and the text of its field, if it has one; and how many entries a
-- count field gives
pub record Look (X : Type 0) : Type 0 where
  pub at : Rule → Option (List ℕ) → Option X
  pub count : LeafOf → Option (List ℕ) → Option ℕ

-- two results as a pair, if both are there
abbrev pub both : {X Y : Type 0} → Option X → Option Y → Option (X × Y)
both None y = None
both (Some x) None = None
both (Some x) (Some y) = Some (x, y)

-- one result before others, if all are there
abbrev pub in_front : {X : Type 0} → Option X → Option (List X) → Option (List X)
in_front None xs = None
in_front (Some x) None = None
in_front (Some x) (Some xs) = Some (x ∷ xs)

-- a result for each item, or none at all
abbrev pub each : {X Y : Type 0} → (X → Option Y) → List X → Option (List Y)
each f [] = Some []
each f (x ∷ xs) = in_front (f x) (each f xs)

-- the text of a part's field
abbrev pub text_at : ℕ → List Part → Option (List ℕ)
text_at tag parts = and_then (part_at tag parts) (λ x. Some x.text)

-- the result for fields whose tags are all known and all different
abbrev pub in_level : {X : Type 0} → Plan → (List Part → Option X) → List Field → Option X
in_level p answer fields =
    let parts = parts_of (owns p) fields in
    if are_known (tags p) parts && are_distinct parts then answer parts else None

-- there are no fields
abbrev pub is_none : List Field → Bool
is_none [] = true
is_none (f ∷ fs) = false

-- the pieces begin the run, and are as many as the count gives
abbrev pub is_run : ℕ → Pieces → Bool
is_run n cut = is_none cut.front && nat_eq (length cut.pieces) n

-- what the pieces of a run give
abbrev pub entries_in : {X : Type 0} → (List Field → Option X) → ℕ → Pieces → Option (List X)
entries_in entry n cut = if is_run n cut then each entry cut.pieces else None

-- what a group's count field and the run after it give; without a field there are no entries
abbrev pub group_in : {X : Type 0} → (Option (List ℕ) → Option ℕ) → ℕ → (List Field → Option X) → Option Part → Option (List X)
group_in count delimiter entry None = and_then (count None) (λ n. Some [])
group_in count delimiter entry (Some x) = and_then (count (Some x.text)) (λ n. entries_in entry n (pieces_of delimiter x.run))

-- what the parts give
abbrev pub gather : {X : Type 0} → Look X → (p : Plan) → List Part → Option (Tree X p)
gather look done parts = Some tt
gather look (single s rest) parts = both (look.at s.rule (text_at s.tag parts)) (gather look rest parts)
gather look (group g inner rest) parts =
    both (group_in (look.count g.count) g.delimiter (in_level inner (λ piece. gather look inner piece)) (part_at g.tag parts)) (gather look rest parts)

-- what fields give
abbrev pub gather_fields : {X : Type 0} → Look X → (p : Plan) → List Field → Option (Tree X p)
gather_fields look p = in_level p (λ parts. gather look p parts)

-- ---- application items

-- a number of entries that a text spells
abbrev pub spelled_count : Option ℤ → Option ℕ
spelled_count None = None
spelled_count (Some (pos n)) = Some n
spelled_count (Some (negsuc n)) = None

-- the item of a text by a rule; a missing field has none
abbrev pub item_found : Rule → Option (List ℕ) → Option (Option Item)
item_found rule None = Some None
item_found rule (Some t) = and_then (item_in rule t) (λ item. Some (Some item))

-- the number of entries that a count's text spells; 0 without a field
abbrev pub count_found : LeafOf → Option (List ℕ) → Option ℕ
count_found leaf None = Some 0
count_found leaf (Some t) = spelled_count (integer_of t)

-- how fields are read for their items
abbrev pub item_look : Look (Option Item)
item_look = record { at = item_found; count = count_found }

-- the items of fields, if all can be read
abbrev pub items_of_fields : (p : Plan) → List Field → Option (Tree (Option Item) p)
items_of_fields = gather_fields item_look

-- the items of a message
abbrev pub items_of : (p : Plan) → Tree Value p → Tree (Option Item) p
items_of = map_tree item_by

-- ---- items as applications see them

-- the items without what only a value and its text have in common
abbrev pub application_view : (p : Plan) → Tree (Option Item) p → Tree (Option Item) p
application_view p t = map_tree (λ rule item. and_then item (λ i. Some (application_item i))) p t

-- the items that applications see in a message
abbrev pub message_application_items : (p : Plan) → Tree Value p → Tree (Option Item) p
message_application_items p t = application_view p (items_of p t)

-- the items that applications see in fields, if all can be read
abbrev pub field_application_items : (p : Plan) → List Field → Option (Tree (Option Item) p)
field_application_items p fields = and_then (items_of_fields p fields) (λ t. Some (application_view p t))

-- ---- values

-- the value, if it was read
abbrev pub value_read : Result Value Misread → Option Value
value_read (Ok v) = Some v
value_read (Err w) = None

-- the value of a text by a rule, or the value for a missing field
abbrev pub value_found : Rule → Option (List ℕ) → Option Value
value_found rule None = missing_by rule
value_found rule (Some t) = value_read (value_by rule t)

-- a number of entries, if the count's type admits it
abbrev pub if_admitted : LeafOf → ℕ → Option ℕ
if_admitted leaf n = if admits leaf (pos n) then Some n else None

-- the number of entries that a count's text spells, if it is admitted
abbrev pub count_admitted : LeafOf → Option (List ℕ) → Option ℕ
count_admitted leaf t = and_then (count_found leaf t) (if_admitted leaf)

-- how fields are read for their values
abbrev pub value_look : Look Value
value_look = record { at = value_found; count = count_admitted }

-- the values of fields, if each can be read and no required one is missing
abbrev pub values_of_fields : (p : Plan) → List Field → Option (Tree Value p)
values_of_fields = gather_fields value_look
