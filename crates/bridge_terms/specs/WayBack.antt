-- The message that fields are translated to, and the first refusal if there is none. Own profile.
use Rattle.std.specs.Prelude.{◌≡◌, ℕ, true, ◌==◌, if◌then◌else◌, List, [], ◌∷◌, ◌++◌, ℤ, pos, negsuc, Option, Some, None, Result, Ok, Err, map}
use Rattle.sbe_types.specs.declared.kind.Leaf.{Leaf as LeafOf}
use Rattle.sbe_types.specs.declared.message.Value.{Value}
use Rattle.sbe_types.specs.Shown.{admits}
use Rattle.fix_values.specs.declared.rule.V.{V}
use Rattle.fix_values.specs.declared.rule.V.TheVariants as why
use Rattle.fix_values.specs.Numerals.{integer_of}
use Rattle.bridge_rules.specs.Rules.{Rule}
use Rattle.bridge_rules.specs.Values.{Misread, not_read, not_the_constant, value_by, missing_by}
use Rattle.bridge_terms.specs.Plans.{Plan, Repeat, Tree, Each, done, single, group, owns, is_in, AreGood}
use Rattle.tagvalue_codec.specs.Fields.{Field}
use Rattle.bridge_terms.specs.Parts.{Part, Pieces, parts_of, pieces_of, part_at, are_distinct}
use Rattle.bridge_terms.specs.Gathering.{items_of_fields, items_of, is_run}

-- the values are those of the message that the fields are translated to: their items are those of the fields
pub record IsBack (p : Plan) (fields : List Field) (t : Tree Value p) : Type 0 where
  pub same : items_of_fields p fields ≡ Some (items_of p t)
  pub good : AreGood p t

-- why fields aren't translated, with the tag of the field
pub data Refusal : Type 0 where
  unreadable : ℕ → V → Refusal
  unknown : ℕ → Refusal
  repeated : ℕ → Refusal
  misgrouped : ℕ → Refusal
  unlike : ℕ → Refusal
  missing : ℕ → Refusal

-- the first of two refusals
abbrev pub or_else : Option Refusal → Option Refusal → Option Refusal
or_else None r = r
or_else (Some a) r = Some a

-- the first refusal of a list of items
abbrev pub first : {X : Type 0} → (X → Option Refusal) → List X → Option Refusal
first f [] = None
first f (x ∷ xs) = or_else (f x) (first f xs)

-- a text that can't be read, or isn't that of the constant
abbrev pub text_wrong : {X : Type 0} → ℕ → Result X Misread → Option Refusal
text_wrong tag (Ok x) = None
text_wrong tag (Err (not_read v)) = Some (unreadable tag v)
text_wrong tag (Err not_the_constant) = Some (unlike tag)

-- the number of a count, if it may be one
abbrev pub count_read : LeafOf → Option ℤ → Result ℕ V
count_read leaf None = Err why.Spelling
count_read leaf (Some (negsuc n)) = Err why.Range
count_read leaf (Some (pos n)) = if admits leaf (pos n) then Ok n else Err why.Range

-- the first refusal of parts in the order of the text: a second part with the same tag, or one that is wrong by itself
abbrev pub wrong_in_order : (Part → Option Refusal) → List ℕ → List Part → Option Refusal
wrong_in_order wrong seen [] = None
wrong_in_order wrong seen (x ∷ xs) = or_else (if is_in x.tag seen then Some (repeated x.tag) else wrong x) (wrong_in_order wrong (x.tag ∷ seen) xs)

-- a run that isn't n pieces, or what is wrong in one of them
abbrev pub run_wrong : ℕ → (List Field → Option Refusal) → ℕ → Pieces → Option Refusal
run_wrong tag piece n cut = if is_run n cut then first piece cut.pieces else Some (misgrouped tag)

-- a count that can't be read, or what is wrong in the run
abbrev pub group_wrong : Repeat → (List Field → Option Refusal) → Part → Result ℕ V → Option Refusal
group_wrong g piece x (Err v) = Some (unreadable x.tag v)
group_wrong g piece x (Ok n) = run_wrong x.tag piece n (pieces_of g.delimiter x.run)

-- what is wrong with one part of the text
abbrev pub wrong_at : Plan → Part → Option Refusal
wrong_at done x = Some (unknown x.tag)
wrong_at (single s rest) x = if s.tag == x.tag then text_wrong x.tag (value_by s.rule x.text) else wrong_at rest x
wrong_at (group g inner rest) x =
    if g.tag == x.tag
    then group_wrong g (λ piece. wrong_in_order (λ y. wrong_at inner y) [] (parts_of (owns inner) piece)) x (count_read g.count (integer_of x.text))
    else wrong_at rest x

-- a part without a field is missing, unless it has a value without one
abbrev pub if_unset : ℕ → Option Value → Option Refusal
if_unset tag None = Some (missing tag)
if_unset tag (Some v) = None

-- whether a field or data part is missing
abbrev pub slot_missing : ℕ → Rule → Option Part → Option Refusal
slot_missing tag rule None = if_unset tag (missing_by rule)
slot_missing tag rule (Some x) = None

-- a group without a field is missing if the count 0 isn't admitted; or what is missing in an entry
abbrev pub group_missing : Repeat → (List Field → Option Refusal) → Option Part → Option Refusal
group_missing g piece None = if admits g.count (pos 0) then None else Some (missing g.tag)
group_missing g piece (Some x) = first piece (pieces_of g.delimiter x.run).pieces

-- the first part, in the order of the structure, that is missing
abbrev pub missing_in : Plan → List Part → Option Refusal
missing_in done parts = None
missing_in (single s rest) parts = or_else (slot_missing s.tag s.rule (part_at s.tag parts)) (missing_in rest parts)
missing_in (group g inner rest) parts =
    or_else (group_missing g (λ piece. missing_in inner (parts_of (owns inner) piece)) (part_at g.tag parts)) (missing_in rest parts)

-- the first refusal: of the fields in the order of the text, then of the parts in the order of the structure
abbrev pub back_refused : Plan → List Field → Option Refusal
back_refused p fields =
    let parts = parts_of (owns p) fields in
    or_else (wrong_in_order (wrong_at p) [] parts) (missing_in p parts)

-- ---- the same by the index of a part

-- the first part of a text at which something is wrong: the parts before it have different tags and are right by
-- themselves; it has the tag of one of these, or is wrong by itself
pub record IsFirstWrong (wrong : Part → Option Refusal) (parts : List Part) (refusal : Refusal) : Type 0 where
  pub before : List Part
  pub part : Part
  pub after : List Part
  pub split : parts ≡ before ++ part ∷ after
  pub fine : Each (λ x. wrong x ≡ None) before
  pub distinct : are_distinct before ≡ true
  pub here : (if is_in part.tag (map (λ x. x.tag) before) then Some (repeated part.tag) else wrong part) ≡ Some refusal
