-- Which value the bytes of a kind show. From SBE 1.0, Field encoding. Own profile: a text with a character encoding may
-- have any byte, what follows the first 00 of a text is arbitrary, an empty text may be null, and an array is checked
-- element by element.
use Rattle.std.specs.Prelude.{◌≡◌, ◌≤◌, ℕ, ◌+◌, Bool, true, false, not, ◌&&◌, ◌==◌, if◌then◌else◌, Some, List, [], ◌∷◌, ◌++◌, length, take, drop, IsTrue, pos, ⊤}
use Rattle.std.specs.List.{list_all}
use Rattle.sbe_types.specs.declared.kind.Order.{Order}
use Rattle.sbe_types.specs.declared.kind.LeafShape.{LeafShape}
use Rattle.sbe_types.specs.declared.kind.LeafShape.TheVariants.{Number, RangedText, EncodedText, Octets, Numbers}
use Rattle.sbe_types.specs.declared.kind.Leaf.{Leaf as LeafOf}
use Rattle.sbe_types.specs.declared.kind.Kind.{Kind, Leaf, Enum, Set, Const, Comp', Row_of-Member, end_of-Member, more_of-Member}
use Rattle.sbe_types.specs.declared.message.Elem.{Elem}
use Rattle.sbe_types.specs.declared.message.Value.{Value}
use Rattle.sbe_types.specs.declared.message.Value.TheVariants as value
use Rattle.sbe_types.specs.Numbers.{number_of, prim_width}
use Rattle.sbe_types.specs.Shown.{shown, shown_element, is_optional, admits}
use Rattle.sbe_types.specs.Places.{width, is_const, begin_of}

-- there are no bytes
abbrev pub is_empty : List ℕ → Bool
is_empty [] = true
is_empty (b ∷ bs) = false

-- the leaf is a text without a character encoding, whose bytes are within its range
abbrev pub is_ranged : LeafShape → Bool
is_ranged RangedText = true
is_ranged Number = false
is_ranged EncodedText = false
is_ranged Octets = false
is_ranged Numbers = false

-- a byte that a text may contain: not 00, and within the range if there is no character encoding
abbrev pub is_text_byte : LeafOf → ℕ → Bool
is_text_byte leaf b = not (b == 0) && (if is_ranged leaf.shape then admits leaf (pos b) else true)

-- what may follow a text: nothing, or a 00 and anything
abbrev pub EndsText : List ℕ → Type 0
EndsText [] = ⊤
EndsText (b ∷ bs) = b ≡ 0

-- the value of a text: null if it is empty and the leaf is optional
abbrev pub text_value : LeafOf → List ℕ → Value
text_value leaf text = if is_optional leaf.presence && is_empty text then value.Null else value.Text text

-- a text of good bytes, and what may follow it
abbrev pub ShowsText : LeafOf → Value → List ℕ → Type 0
ShowsText leaf v b =
    (text : List ℕ) × (after : List ℕ) × (b ≡ text ++ after) × EndsText after × IsTrue (list_all (is_text_byte leaf) text) × (v ≡ text_value leaf text)

-- the elements of an array, in order, and nothing after them
abbrev pub ShowsElements : Order → LeafOf → List Elem → List ℕ → Type 0
ShowsElements order leaf [] b = b ≡ []
ShowsElements order leaf (e ∷ es) b =
    (prim_width leaf.prim ≤ length b) × (shown_element leaf (number_of order leaf.prim (take (prim_width leaf.prim) b)) ≡ Some e)
    × ShowsElements order leaf es (drop (prim_width leaf.prim) b)

-- the bytes are the elements of an array
abbrev pub ShowsArray : Order → LeafOf → Value → List ℕ → Type 0
ShowsArray order leaf v b = (elements : List Elem) × (v ≡ value.Nums elements) × ShowsElements order leaf elements b

-- the bytes show this value of a single number, a text or an array
abbrev pub ShowsLeaf : Order → LeafShape → LeafOf → Value → List ℕ → Type 0
ShowsLeaf order Number leaf v b = shown (Leaf leaf) true (number_of order leaf.prim b) ≡ Some v
ShowsLeaf order RangedText leaf v b = ShowsText leaf v b
ShowsLeaf order EncodedText leaf v b = ShowsText leaf v b
ShowsLeaf order Octets leaf v b = ShowsArray order leaf v b
ShowsLeaf order Numbers leaf v b = ShowsArray order leaf v b

abbrev mutual
  -- the bytes are as many as the kind is wide, and show the value; `known`: the version isn't above the schema's
  pub Shows : Order → Bool → Kind → Value → List ℕ → Type 0
  Shows order known (Leaf l) v b = (length b ≡ width (Leaf l)) × ShowsLeaf order l.shape l v b
  Shows order known (Enum l names) v b = (length b ≡ prim_width l.prim) × (shown (Enum l names) known (number_of order l.prim b) ≡ Some v)
  Shows order known (Set p names) v b = (length b ≡ prim_width p) × (shown (Set p names) known (number_of order p b) ≡ Some v)
  Shows order known (Const c) v b = (b ≡ []) × (v ≡ value.Const)
  Shows order known (Comp' n members) v b = (length b ≡ width (Comp' n members)) × ((vs : List Value) × (v ≡ value.Comp vs) × MembersShow order known 0 members vs b)

  -- the bytes at each member's offset show its value
  pub MembersShow : Order → Bool → ℕ → {n : _} → Row_of-Member n → List Value → List ℕ → Type 0
  MembersShow order known e end_of-Member [] b = ⊤
  MembersShow order known e end_of-Member (v ∷ vs) b = ⊥
  MembersShow order known e (more_of-Member name offset kind rest) [] b = ⊥
  MembersShow order known e (more_of-Member name offset kind rest) (v ∷ vs) b =
      Shows order known kind v (take (width kind) (drop (begin_of e offset) b))
      × MembersShow order known (if is_const kind then e else begin_of e offset + width kind) rest vs b
