-- Elements: an element is an object of one key, its name, whose value is an object of attributes with
-- the child elements in `content`.
use Rattle.std.specs.Prelude.{ℕ, suc, ◌+◌, nat_le, nat_lt, nat_eq, Bool, if◌then◌else◌, List, [], ◌∷◌, codes, length, Option, Some, None, Ok}
use Rattle.std.specs.Ordering.{nat_cmp, match_ordering}
use Rattle.std.specs.Cmp.Lexicographic.{slice_cmp}
use Rattle.std.specs.List.{after_first, position_or_len}
use Rattle.serde_json.specs.Data.{Data, object, array, Items, no_items, item, Members, no_members, member}
use Rattle.serde_json.specs.Find.{get_member}
use Rattle.json_elements.specs.declared.refusal.Cause.TheVariants.{Shape, Limit}
use Rattle.json_elements.specs.Reading.{Reading, ◌>>=◌, refuse, at_child}

-- ---- the shape of an element

-- The byte is a colon, which ends a prefix.
abbrev pub is_colon : ℕ → Bool
is_colon c = nat_eq c 58

-- a name without its prefix, which ends with the first colon
abbrev pub local_name : List ℕ → List ℕ
local_name key = if nat_lt (position_or_len is_colon key) (length key) then after_first is_colon key else key

-- an element's name and value
abbrev pub lone : Data → Option (List ℕ × Data)
lone (object (member key d no_members)) = Some (local_name key, d)
lone _ = None

-- What is read of an element by its name and value, which it must have.
abbrev pub named_in : {A : Type 0} → (List ℕ → Data → Reading A) → Option (List ℕ × Data) → Reading A
named_in by None = refuse Shape
named_in by (Some p) = by p.0 p.1

-- what is read of an element by its name and value
abbrev pub named : {A : Type 0} → (List ℕ → Data → Reading A) → Data → Reading A
named by d = named_in by (lone d)

-- The children; none if `content` is missing.
abbrev pub content_in : Option Data → Reading Items
content_in None = Ok no_items
content_in (Some (array ds)) = Ok ds
content_in (Some _) = refuse Shape

-- the children of an element, by its value
abbrev pub content : Data → Reading Items
content (object ms) = content_in (get_member (codes "content") ms)
content _ = refuse Shape

-- The number of children.
abbrev pub items_count : Items → ℕ
items_count no_items = 0
items_count (item d ds) = suc (items_count ds)

-- at most this many, or a refusal
abbrev pub at_most : ℕ → ℕ → Reading (Unit {0})
at_most most n = if nat_le n most then Ok tt else refuse Limit

-- no children; the first one isn't allowed
abbrev pub no_children : Items → Reading (Unit {0})
no_children no_items = Ok tt
no_children (item d ds) = at_child 0 (refuse Shape)

-- what is read of each child, from index i on
abbrev pub each : {A : Type 0} → (Data → Reading A) → ℕ → Items → Reading (List A)
each by i no_items = Ok []
each by i (item d ds) = do
  first ← at_child i (by d)
  others ← each by (i + 1) ds
  Ok (first ∷ others)

-- ---- elements inside elements of the same kind

abbrev mutual
  -- what is read of an element by its name, its value and what is read of its children
  pub tree : {A : Type 0} → (List ℕ → Data → Reading (List A) → Reading A) → Data → Reading A
  tree by (object (member key d no_members)) = by (local_name key) d (branches by d)
  tree by _ = refuse Shape

  -- what is read of the children in an element's value
  pub branches : {A : Type 0} → (List ℕ → Data → Reading (List A) → Reading A) → Data → Reading (List A)
  branches by (object ms) = branches_among by ms
  branches by _ = Ok []

  -- The branches below the `content` of an object.
  pub branches_among : {A : Type 0} → (List ℕ → Data → Reading (List A) → Reading A) → Members → Reading (List A)
  branches_among by no_members = Ok []
  branches_among by (member key d ms) = match_ordering (slice_cmp nat_cmp (codes "content") key) (branches_among by ms) (branches_listed by d) (branches_among by ms)

  -- The branches of a `content` that is a list.
  pub branches_listed : {A : Type 0} → (List ℕ → Data → Reading (List A) → Reading A) → Data → Reading (List A)
  branches_listed by (array ds) = branches_from by 0 ds
  branches_listed by _ = Ok []

  -- The branches from index i on.
  pub branches_from : {A : Type 0} → (List ℕ → Data → Reading (List A) → Reading A) → ℕ → Items → Reading (List A)
  branches_from by i no_items = Ok []
  branches_from by i (item d ds) = do
    first ← at_child i (tree by d)
    others ← branches_from by (i + 1) ds
    Ok (first ∷ others)
