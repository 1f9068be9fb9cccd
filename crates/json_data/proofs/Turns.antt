-- A turn of the loops over items and members, where each value becomes its data at once.
use Rattle.std.proofs.Common.{◌≡◌, ℕ, zero, suc, ◌-◌, ◌<◌, ◌≤◌, List, [], ◌∷◌, length, Option, Some, None, option_map, option_and_then, refl, ap, ◌∙◌}
use Rattle.json.specs.Token.{Token}
use Rattle.json.specs.Json as json
use Rattle.json.specs.Json.{Parse, parse_map, after_end_array, read_key, items_step, items, members, if_last}
use Rattle.json.proofs.Grammar.{items_end, items_more, members_end, members_no_key, members_more}
use Rattle.serde_json.specs.Data.{Data, array, object, no_items, item, Members, no_members, put}
use Rattle.serde_json.specs.Read.{of_json, of_items, of_members, converted}

-- a value and the tokens after it, where there is one
abbrev ReadAs : Type 0 → Type 0
ReadAs A = Option (A × List Token)

some_is : {A : Type 0} {x y : A} → Some x ≡ Some y → x ≡ y
some_is h = cc

-- ---- what was converted

paired_some : {B : Type 0} (o : Option B) (r s : List Token) (b : B) → option_map {U = B × List Token} (λ x. (x, r)) o ≡ Some (b, s) → (o ≡ Some b) × (r ≡ s)
paired_some None r s b h = absurd cc
paired_some (Some x) r s b h = let same = some_is h in (ap (λ p. Some p.0) same, ap (λ p. p.1) same)

paired_none : {B : Type 0} (o : Option B) (r : List Token) → option_map {U = B × List Token} (λ x. (x, r)) o ≡ None → o ≡ None
paired_none None r h = refl
paired_none (Some x) r h = absurd cc

paired_map : {A B : Type 0} (g : A → B) (o : Option A) (r : List Token) → option_map (λ b. (b, r)) (option_map g o) ≡ parse_map g (option_map (λ a. (a, r)) o)
paired_map g None r = refl
paired_map g (Some a) r = refl

-- what was converted had been read
pub was_read : {A B : Type 0} (f : A → Option B) (o : ReadAs A) (b : B) (r : List Token) → converted f o ≡ Some (b, r) → (a : A) × (o ≡ Some (a, r)) × (f a ≡ Some b)
was_read f None b r h = absurd cc
was_read f (Some p) b r h = let both = paired_some (f p.0) p.1 r b h in (p.0, ap (λ s. Some (p.0, s)) both.1, both.0)

pub array_of : (o : ReadAs json.Items) → converted of_json (parse_map json.array o) ≡ parse_map array (converted of_items o)
array_of None = refl
array_of (Some p) = paired_map array (of_items p.0) p.1

pub object_of : (o : ReadAs json.Members) → converted of_json (parse_map json.object o) ≡ parse_map object (converted (λ ms. of_members ms no_members) o)
object_of None = refl
object_of (Some p) = paired_map object (of_members p.0 no_members) p.1

-- ---- items

item_before : (j : json.Json) (d : Data) → of_json j ≡ Some d → (o : ReadAs json.Items) → converted of_items (parse_map (json.item j) o) ≡ parse_map (item d) (converted of_items o)
item_before j d h None = refl
item_before j d h (Some p) = rw h (paired_map (item d) (of_items p.0) p.1)

no_item_before : (j : json.Json) → of_json j ≡ None → (o : ReadAs json.Items) → converted of_items (parse_map (json.item j) o) ≡ None
no_item_before j h None = refl
no_item_before j h (Some p) = rw h

no_first : (more : Parse json.Items) (o : ReadAs json.Json) → converted of_json o ≡ None → converted of_items (option_and_then (λ q. parse_map (json.item q.0) (more q.1)) o) ≡ None
no_first more None h = refl
no_first more (Some q) h = no_item_before q.0 (paired_none (of_json q.0) q.1 h) (more q.1)

-- ---- members

member_before : (key : List ℕ) (j : json.Json) (d : Data) (found : Members) → of_json j ≡ Some d → (o : ReadAs json.Members)
    → converted (λ ms. of_members ms found) (parse_map (json.member key j) o) ≡ converted (λ ms. of_members ms (put key d found)) o
member_before key j d found h None = refl
member_before key j d found h (Some p) = rw h

no_member_before : (key : List ℕ) (j : json.Json) (found : Members) → of_json j ≡ None → (o : ReadAs json.Members) → converted (λ ms. of_members ms found) (parse_map (json.member key j) o) ≡ None
no_member_before key j found h None = refl
no_member_before key j found h (Some p) = rw h

no_value : (key : List ℕ) (found : Members) (more : Parse json.Members) (o : ReadAs json.Json) → converted of_json o ≡ None
    → converted (λ ms. of_members ms found) (option_and_then (λ q. parse_map (json.member key q.0) (more q.1)) o) ≡ None
no_value key found more None h = refl
no_value key found more (Some q) h = no_member_before key q.0 found (paired_none (of_json q.0) q.1 h) (more q.1)

-- ---- turns

module _ (p : Parse json.Json) (turns : ℕ) (ts : List Token) where
  -- an item was read
  pub item_turn : (r : List Token) (d : Data) → 0 < turns → after_end_array ts ≡ None → converted of_json (p ts) ≡ Some (d, r)
      → converted of_items (items p turns ts) ≡ parse_map (item d) (converted of_items (items p (turns - 1) r))
  item_turn r d some going h = let j = was_read of_json (p ts) d r h in ap (converted of_items) (items_more p turns ts r j.0 some going j.1) ∙ item_before j.0 d j.2 _

  -- the array is over
  pub items_over : (r : List Token) → length ts ≤ turns → after_end_array ts ≡ Some r → converted of_items (items p turns ts) ≡ Some (no_items, r)
  items_over r enough h = ap (converted of_items) (items_end p turns ts r enough h)

  module _ (found : Members) where
    -- a member was read
    pub member_turn : (key : List ℕ) (s r : List Token) (d : Data) → 0 < turns → read_key ts ≡ Some (Some key, s) → converted of_json (p s) ≡ Some (d, r)
        → converted (λ ms. of_members ms found) (members p turns ts) ≡ converted (λ ms. of_members ms (put key d found)) (members p (turns - 1) r)
    member_turn key s r d some named h =
        let j = was_read of_json (p s) d r h in
        ap (converted (λ ms. of_members ms found)) (members_more p turns key ts s r j.0 some named j.1) ∙ member_before key j.0 d found j.2 _

    -- the object is over
    pub members_over : (r : List Token) → length ts ≤ turns → read_key ts ≡ Some (None, r) → converted (λ ms. of_members ms found) (members p turns ts) ≡ Some (found, r)
    members_over r enough h = ap (converted (λ ms. of_members ms found)) (members_end p turns ts r enough h)

    -- no key comes
    pub no_key : read_key ts ≡ None → converted (λ ms. of_members ms found) (members p turns ts) ≡ None
    no_key h = ap (converted (λ ms. of_members ms found)) (members_no_key p turns ts h)

-- no item comes
pub item_refused : (p : Parse json.Json) (turns : ℕ) (ts : List Token) → after_end_array ts ≡ None → converted of_json (p ts) ≡ None → converted of_items (items p turns ts) ≡ None
unfolding items
item_refused p zero ts going h = refl
item_refused p (suc n) ts going h = ap (λ o. converted of_items (items_step p (items p n) ts o)) going ∙ no_first (items p n) (p ts) h

-- no value comes after a key
pub member_refused : (p : Parse json.Json) (turns : ℕ) (ts : List Token) (found : Members) (key : List ℕ) (s : List Token) → read_key ts ≡ Some (Some key, s) → converted of_json (p s) ≡ None
    → converted (λ ms. of_members ms found) (members p turns ts) ≡ None
unfolding members
member_refused p zero ts found key s named h = refl
member_refused p (suc n) ts found key s named h = rw named (no_value key found (members p n) (p s) h)

-- ---- the whole text

-- the data where nothing stands after it
abbrev pub whole : ReadAs json.Json → Option Data
whole o = option_and_then of_json (option_and_then (λ p. if_last p.0 p.1) o)

pub whole_read : (o : ReadAs json.Json) (d : Data) → converted of_json o ≡ Some (d, []) → whole o ≡ Some d
whole_read o d h = let j = was_read of_json o d [] h in ap whole j.1 ∙ j.2

pub whole_and_more : (o : ReadAs json.Json) (d : Data) (t : Token) (r : List Token) → converted of_json o ≡ Some (d, t ∷ r) → whole o ≡ None
whole_and_more o d t r h = ap whole (was_read of_json o d (t ∷ r) h).1

pub whole_refused : (o : ReadAs json.Json) → converted of_json o ≡ None → whole o ≡ None
whole_refused None h = refl
whole_refused (Some (j, [])) h = paired_none (of_json j) [] h
whole_refused (Some (j, t ∷ r)) h = refl
