-- The way of a first fault leads to a part of its message.
use Rattle.std.proofs.Common.{◌≡◌, inl, inr, ◌+◌, ℕ, zero, suc, ℤ, Bool, true, false, cond, List, [], ◌∷◌, ◌++◌, length, take, Option, Some, None, Result, Ok, Err, refl, sym, ap, ◌∙◌, subst, arith, length-append}
use Rattle.std.specs.Prelude.{slice_get, map, codes, is_some, nat_le, ◌==◌}
use Rattle.std.specs.Option.{option_map, option_and_then, IsSome}
use Rattle.std.specs.Result.{result_ok}
use Rattle.std.proofs.lemmas.Bool.Decides.{nat_tests}
use Rattle.std.proofs.Math.Seq.{take-append_seam}
use denote.Hole.Carrier as carrier
use Rattle.sbe_types.specs.declared.schema.Group as groups_of
use Rattle.sbe_types.specs.declared.schema.Level as levels
use Rattle.sbe_types.specs.declared.kind.Order.{Order}
use Rattle.sbe_types.specs.declared.kind.LeafShape.{LeafShape}
use Rattle.sbe_types.specs.declared.kind.LeafShape.TheVariants.{Number, RangedText, EncodedText, Octets, Numbers}
use Rattle.sbe_types.specs.declared.kind.Leaf.{Leaf as LeafOf}
use Rattle.sbe_types.specs.declared.kind.Kind.{Kind, Leaf, Enum, Set, Const, Comp', Row_of-Member, end_of-Member, more_of-Member, items-the_row-Member}
use Rattle.sbe_types.specs.declared.kind.Member.{Member}
use Rattle.sbe_types.specs.declared.path.Step.{Step}
use Rattle.sbe_types.specs.declared.path.Step.TheVariants.{Part, Entry, Elem}
use Rattle.sbe_types.specs.declared.schema.Field.{Field}
use Rattle.sbe_types.specs.declared.schema.DataField.{DataField}
use Rattle.sbe_types.specs.declared.schema.Group.{Group, Group', out-Group}
use Rattle.sbe_types.specs.declared.schema.Level.{Level, Level', out-Level, Row_of-Group, end_of-Group, more_of-Group, items-the_row-Group, items_shown-the_row-Group-0}
use Rattle.sbe_types.specs.declared.schema.WireSchema.{WireSchema}
use Rattle.sbe_types.specs.declared.message.GroupVal.{GroupVal}
use Rattle.sbe_wire.specs.declared.mode.Mode.{Mode}
use Rattle.sbe_wire.specs.declared.codes.FCode.{FCode}
use Rattle.sbe_wire.specs.Faults.{Fault, fault_at, shifted, under, ElementsFault, LeafFault, KindFault, RowFault, Place, next_place, FieldsFault, BlockFault, DataFault, EachFault, TimesFault, DimensionFault, EntryFault, TailFault, GroupsFault, GroupFault, Heading, HeadingLays, HeadingFault, message_named}
use Rattle.sbe_wire.specs.Lays.{DataLays, GroupsLay}
use Rattle.sbe_wire.specs.Versions.{form_of, mode_of}
use Rattle.sbe_wire.proofs.Messages.{named_is}
use Rattle.layout_tables.specs.Heads.{header_width}
use Rattle.layout_tables.specs.Paths.{Inside, in_level, in_group, in_kind, in_nothing, NamedPart, field_part, group_part, data_part, member_part, level_parts, parts_inside, to_part, path_from, IsPathOf}
use Rattle.layout_tables.proofs.Items.{long_map, get_behind}
use Rattle.body_walk.specs.Heads.{head_number, found_template, named_template}
use Rattle.dump_lines.specs.Refused.{message_meant, IsWay}
use Rattle.dump_lines.specs.Dumped.{FaultsHaveWays}

-- ---- one step

-- the steps lead from the place to one of its parts
abbrev Leads : Inside → List Step → Type 0
Leads inside steps = (first : Bool) → IsSome (path_from first inside steps)

here : (inside : Inside) (steps : List Step) → steps ≡ [] → Leads inside steps
here inside steps none first = ap (λ s. is_some (path_from first inside s)) none

at_fault : (inside : Inside) (fault : Fault) (code : FCode) (offset : ℕ) (detail : ℤ) → fault ≡ fault_at code offset detail → Leads inside fault.path
at_fault inside fault code offset detail e = here inside fault.path (ap (λ (f : Fault). f.path) e)

moved : (inside : Inside) (fault f : Fault) (n : ℕ) → fault ≡ shifted n f → Leads inside f.path → Leads inside fault.path
moved inside fault f n e leads = subst (Leads inside) (sym (ap (λ (g : Fault). g.path) e)) leads

stepped_so : (inside : Inside) (fault f : Fault) (step : Step) → fault ≡ under step f → Leads inside (step ∷ f.path) → Leads inside fault.path
stepped_so inside fault f step e leads = subst (Leads inside) (sym (ap (λ (g : Fault). g.path) e)) leads

mapped : {X Y : Type 0} (f : X → Y) (o : Option X) → IsSome o → is_some (option_map f o) ≡ true
mapped f None h = cc
mapped f (Some x) h = refl

part_leads : (inside : Inside) (i : ℕ) (p : NamedPart) (steps : List Step) → slice_get (parts_inside inside) i ≡ Some p → Leads p.inside steps → Leads inside (Part i ∷ steps)
part_leads inside i p steps at leads first =
    ap (λ o. is_some (option_and_then (λ s. option_map (λ rest. s.text ++ rest) (path_from false s.inside steps)) (option_map (to_part first) o))) at
    ∙ mapped _ (path_from false p.inside steps) (leads false)

entry_leads : (level : Level) (i : ℕ) (steps : List Step) → Leads (in_level level) steps → Leads (in_group level) (Entry i ∷ steps)
entry_leads level i steps leads first = mapped _ (path_from false (in_level level) steps) (leads false)

element_leads : (l : LeafOf) (i : ℕ) → Leads (in_kind (Leaf l)) (Elem i ∷ [])
element_leads l i first = refl

-- ---- parts by their places

-- these parts stand after i others
abbrev Behind : List NamedPart → ℕ → List NamedPart → Type 0
Behind all i parts = (j k : ℕ) (p : NamedPart) → j ≡ i + k → slice_get parts k ≡ Some p → slice_get all j ≡ Some p

first_is : (all : List NamedPart) (i : ℕ) (x : NamedPart) (xs : List NamedPart) → Behind all i (x ∷ xs) → slice_get all i ≡ Some x
first_is all i x xs h = h i 0 x (omega arith) refl

next_are : (all : List NamedPart) (i : ℕ) (x : NamedPart) (xs : List NamedPart) → Behind all i (x ∷ xs) → Behind all (suc i) xs
next_are all i x xs h = λ j k p e at. h j (suc k) p (omega (arith, e)) at

in_front : (a b : List NamedPart) (k : ℕ) (p : NamedPart) → slice_get a k ≡ Some p → slice_get (a ++ b) k ≡ Some p
in_front [] b k p h = cc
in_front (x ∷ a) b zero p h = h
in_front (x ∷ a) b (suc k) p h = in_front a b k p h

all_are : (a : List NamedPart) → Behind a 0 a
all_are a = λ j k p e at. ap (slice_get a) (omega (arith, e)) ∙ at

fields_stand : (level : Level) → Behind (level_parts level) 0 (map field_part (out-Level level).fields)
fields_stand level = λ j k p e at. ap (slice_get (level_parts level)) (omega (arith, e)) ∙ in_front (map field_part (out-Level level).fields) _ k p at

groups_stand : (level : Level) → Behind (level_parts level) (length (out-Level level).fields) (map group_part (out-Level level).groups)
groups_stand level = λ j k p e at.
    get_behind (map field_part (out-Level level).fields) _ j k (omega (arith, e, long_map field_part (out-Level level).fields)) ∙ in_front (map group_part (out-Level level).groups) _ k p at

data_stand : (level : Level) → Behind (level_parts level) (length (out-Level level).fields + length (out-Level level).groups) (map data_part (out-Level level).parts)
data_stand level = λ j k p e at.
    let a = map field_part (out-Level level).fields in
    let b = map group_part (out-Level level).groups in
    let c = map data_part (out-Level level).parts in
    get_behind a (b ++ c) j (length b + k) (omega (arith, e, long_map field_part (out-Level level).fields, long_map group_part (out-Level level).groups))
    ∙ get_behind b c (length b + k) k refl ∙ at

-- ---- a value

elements_lead : (order : Order) (l : LeafOf) (i n : ℕ) (fault : Fault) (b : List ℕ) → ElementsFault order l i n fault b → (j : ℕ) × (fault.path ≡ Elem j ∷ [])
elements_lead order l i zero fault b h = absurd h
elements_lead order l i (suc n) fault b h = elim h [
  | inl x ↦ (i, ap (λ (g : Fault). g.path) x.1)
  | inr x ↦ let there = elements_lead order l (suc i) n x.1 _ x.3 in (there.0, ap (λ (g : Fault). g.path) x.4 ∙ there.1)
]

array_leads : (order : Order) (l : LeafOf) (fault : Fault) (b : List ℕ) → ElementsFault order l 0 l.length fault b → Leads (in_kind (Leaf l)) fault.path
array_leads order l fault b h =
    let at = elements_lead order l 0 l.length fault b h in
    subst (Leads (in_kind (Leaf l))) (sym at.1) (element_leads l at.0)

leaf_leads : (order : Order) (shape : LeafShape) (l : LeafOf) (fault : Fault) (b : List ℕ) → LeafFault order shape l fault b → Leads (in_kind (Leaf l)) fault.path
leaf_leads order Number l fault b h = at_fault (in_kind (Leaf l)) fault _ _ _ h.1
leaf_leads order RangedText l fault b h = at_fault (in_kind (Leaf l)) fault _ _ _ h.6
leaf_leads order EncodedText l fault b h = at_fault (in_kind (Leaf l)) fault _ _ _ h.6
leaf_leads order Octets l fault b h = array_leads order l fault b h
leaf_leads order Numbers l fault b h = array_leads order l fault b h

-- the parts of a row of members
abbrev row_parts : {n : _} → Row_of-Member n → List NamedPart
row_parts row = map member_part (items-the_row-Member _ row)

abbrev row_part : List ℕ → Option ℕ → Kind → NamedPart
row_part name offset kind = member_part (record { name = name; offset = offset; kind = kind })

mutual
  kind_leads : (order : Order) (known : Bool) (kind : Kind) (fault : Fault) (b : List ℕ) → KindFault order known kind fault b → Leads (in_kind kind) fault.path
  kind_leads order known (Leaf l) fault b h = leaf_leads order l.shape l fault b h
  kind_leads order known (Enum l names) fault b h = at_fault (in_kind (Enum l names)) fault _ _ _ h.1
  kind_leads order known (Set p names) fault b h = at_fault (in_kind (Set p names)) fault _ _ _ h.1
  kind_leads order known (Const c) fault b h = absurd h
  kind_leads order known (Comp' n members) fault b h =
      row_leads order known (in_kind (Comp' n members)) 0 0 members fault b (all_are (map member_part (items-the_row-Member _ members))) h

  row_leads : (order : Order) (known : Bool) (inside : Inside) (e i : ℕ) {n : _} (row : Row_of-Member n) (fault : Fault) (b : List ℕ) → Behind (parts_inside inside) i (map member_part (items-the_row-Member _ row)) →
      RowFault order known e i row fault b → Leads inside fault.path
  row_leads order known inside e i end_of-Member fault b stand h = absurd h
  row_leads order known inside e i (more_of-Member name offset kind rest) fault b stand h = elim h [
    | inl x ↦ moved inside fault _ _ x.2 (part_leads inside i (row_part name offset kind) x.0.path (first_is (parts_inside inside) i (row_part name offset kind) (row_parts rest) stand) (kind_leads order known kind x.0 _ x.1))
    | inr x ↦ row_leads order known inside _ (suc i) rest fault b (next_are (parts_inside inside) i (row_part name offset kind) (row_parts rest) stand) x.2
  ]

-- ---- a block

fields_lead : (mode : Mode) (inside : Inside) (place : Place) (fields : List Field) (fault : Fault) (b : List ℕ) → Behind (parts_inside inside) place.index (map field_part fields) →
    FieldsFault mode place fields fault b → Leads inside fault.path
fields_lead mode inside place [] fault b stand h = absurd h
fields_lead mode inside place (field ∷ fields) fault b stand h =
    let i = place.index in
    elim h [
      | inl x ↦ moved inside fault _ _ x.1.2 (part_leads inside i (field_part field) x.1.0.path (first_is (parts_inside inside) i (field_part field) (map field_part fields) stand) (kind_leads mode.order mode.known field.kind x.1.0 _ x.1.1))
      | inr x ↦ fields_lead mode inside (next_place place field) fields fault b (next_are (parts_inside inside) i (field_part field) (map field_part fields) stand) x.2
    ]

block_leads : (mode : Mode) (level : Level) (k : ℕ) (fault : Fault) (b : List ℕ) → BlockFault mode (out-Level level).fields k fault b → Leads (in_level level) fault.path
block_leads mode level k fault b h = elim h [
  | inl x ↦ at_fault (in_level level) fault _ _ _ x.1
  | inr x ↦ fields_lead mode (in_level level) (record { end = 0; index = 0 }) (out-Level level).fields fault _ (fields_stand level) x.1
]

-- ---- data, and entries

data_here : (order : Order) (version : ℕ) (part : DataField) (fault : Fault) (b : List ℕ) → DataFault order version part fault b → fault.path ≡ []
data_here order version part fault b h = elim h.1 [
  | inl x ↦ ap (λ (g : Fault). g.path) x.1
  | inr x ↦ elim x.1 [ inl y ↦ ap (λ (g : Fault). g.path) y.1 | inr y ↦ ap (λ (g : Fault). g.path) y.1.1 ]
]

parts_lead : (order : Order) (version : ℕ) (inside : Inside) (i : ℕ) (parts : List DataField) (fault : Fault) (b : List ℕ) → Behind (parts_inside inside) i (map data_part parts) →
    EachFault (DataFault order version) (DataLays order version) i parts fault b → Leads inside fault.path
parts_lead order version inside i [] fault b stand h = absurd h
parts_lead order version inside i (part ∷ parts) fault b stand h = elim h [
  | inl x ↦ stepped_so inside fault x.0 (Part i) x.2
      (part_leads inside i (data_part part) x.0.path (first_is (parts_inside inside) i (data_part part) (map data_part parts) stand) (here in_nothing x.0.path (data_here order version part x.0 b x.1)))
  | inr x ↦ moved inside fault x.3 _ x.7 (parts_lead order version inside (suc i) parts x.3 x.2 (next_are (parts_inside inside) i (data_part part) (map data_part parts) stand) x.6)
]

times_lead : {X : Type 0} (F : Fault → List ℕ → Type 0) (R : X → List ℕ → Type 0) (level : Level) → ((f : Fault) (b : List ℕ) → F f b → Leads (in_level level) f.path) → (i n : ℕ) (fault : Fault) (b : List ℕ) →
    TimesFault F R i n fault b → Leads (in_group level) fault.path
times_lead F R level leads i zero fault b h = absurd h
times_lead F R level leads i (suc n) fault b h = elim h [
  | inl x ↦ stepped_so (in_group level) fault x.0 (Entry i) x.2 (entry_leads level i x.0.path (leads x.0 b x.1))
  | inr x ↦ moved (in_group level) fault x.3 _ x.7 (times_lead F R level leads (suc i) n x.3 x.2 x.6)
]

dimension_leads : (inside : Inside) (order : Order) (dim : List Member) (least : ℕ) (fault : Fault) (b : List ℕ) → DimensionFault order dim least fault b → Leads inside fault.path
dimension_leads inside order dim least fault b h = elim h [
  | inl x ↦ at_fault inside fault _ _ _ x.1
  | inr x ↦ elim x.1 [ inl y ↦ at_fault inside fault _ _ _ y.1 | inr y ↦ at_fault inside fault _ _ _ y.3 ]
]

block_or_tail : (mode : Mode) (level : Level) (k : ℕ) → ((f : Fault) (b : List ℕ) → TailFault mode level f b → Leads (in_level level) f.path) → (fault : Fault) (b : List ℕ) →
    EntryFault (TailFault mode level) (form_of mode level) k fault b → Leads (in_level level) fault.path
block_or_tail mode level k leads fault b h = elim h [
  | inl x ↦ block_leads mode level k fault b x
  | inr x ↦ moved (in_level level) fault x.1 _ x.5 (leads x.1 _ x.4)
]

-- as many groups lie as there are
groups_many : (mode : Mode) {n : _} (row : Row_of-Group n) (vs : List GroupVal) (b : List ℕ) → GroupsLay mode row vs b → length vs ≡ length (items-the_row-Group n row)
groups_many mode end_of-Group [] b h = refl
groups_many mode end_of-Group (v ∷ vs) b h = absurd h
groups_many mode (more_of-Group g rest) [] b h = absurd h
groups_many mode (more_of-Group g rest) (v ∷ vs) b h = ap suc (groups_many mode rest vs h.1 h.4)

-- ---- groups

mutual
  unfolding levels.out-Level groups_of.out-Group carrier.out

  tail_leads : (mode : Mode) (level : Level) (fault : Fault) (b : List ℕ) → TailFault mode level fault b → Leads (in_level level) fault.path
  tail_leads mode (Level' name id semantic since block_length fields n groups parts) fault b h =
      let level = Level' name id semantic since block_length fields n groups parts in
      let same = items_shown-the_row-Group-0 n groups in
      elim h [
        | inl x ↦ groups_lead mode (in_level level) (length fields) groups fault b
            (subst (λ gs. Behind (level_parts level) (length fields) (map group_part gs)) same (groups_stand level)) x
        | inr x ↦ moved (in_level level) fault x.3 _ x.7 (parts_lead mode.order mode.version (in_level level) (length fields + length x.0) parts x.3 x.2
            (subst (λ m. Behind (level_parts level) (length fields + m) (map data_part parts)) (ap length same ∙ sym (groups_many mode groups x.0 x.1 x.5)) (data_stand level)) x.6)
      ]

  groups_lead : (mode : Mode) (inside : Inside) (i : ℕ) {n : _} (row : Row_of-Group n) (fault : Fault) (b : List ℕ) → Behind (parts_inside inside) i (map group_part (items-the_row-Group _ row)) →
      GroupsFault mode i row fault b → Leads inside fault.path
  groups_lead mode inside i end_of-Group fault b stand h = absurd h
  groups_lead mode inside i (more_of-Group g rest) fault b stand h = elim h [
    | inl x ↦ stepped_so inside fault x.0 (Part i) x.2
        (part_leads inside i (group_part g) x.0.path (first_is (parts_inside inside) i (group_part g) (map group_part (items-the_row-Group _ rest)) stand) (group_leads mode g x.0 b x.1))
    | inr x ↦ moved inside fault x.3 _ x.7 (groups_lead mode inside (suc i) rest x.3 x.2 (next_are (parts_inside inside) i (group_part g) (map group_part (items-the_row-Group _ rest)) stand) x.6)
  ]

  group_leads : (mode : Mode) (g : Group) (fault : Fault) (b : List ℕ) → GroupFault mode g fault b → Leads (in_group (out-Group g).level) fault.path
  group_leads mode (Group' dim level) fault b h = elim h.1 [
    | inl x ↦ dimension_leads (in_group level) mode.order dim _ fault b x
    | inr x ↦ moved (in_group level) fault x.3 _ x.7
        (times_lead _ _ level (block_or_tail mode level x.0.0 (tail_leads mode level)) 0 x.0.1 x.3 x.2 x.6)
  ]

-- ---- a body

path_of : (schema : WireSchema) (template : ℕ) (level : Level) (steps : List Step) → slice_get schema.messages template ≡ Some level → Leads (in_level level) steps → IsPathOf schema template steps
path_of schema template level steps at leads = ap (λ o. is_some (option_and_then (λ l. path_from true (in_level l) steps) o)) at ∙ leads true

if_so : {X : Type 0} (t : Bool) (x y : X) → t ≡ true → cond t x y ≡ x
if_so true x y h = refl
if_so false x y h = cc

-- the message that a good header names is the one that is meant
meant_is : (schema : WireSchema) (h : Heading) (front back : List ℕ) → HeadingLays schema h front → message_meant schema (front ++ back) ≡ Some h.template
meant_is schema h front back lays =
    let w = header_width schema in
    let whole : take w (front ++ back) ≡ front = ap (λ n. take n (front ++ back)) (sym lays.numbers.wide) ∙ take-append_seam front back in
    let long : nat_le w (length (front ++ back)) ≡ true = grind (arith, nat_tests, lays.numbers.wide, length-append front back) in
    let ours : (head_number schema (codes "schemaId") front == schema.id) ≡ true = grind (arith, nat_tests, lays.numbers.says_schema) in
    let named : message_named 0 (head_number schema (codes "templateId") front) schema.messages ≡ Some (h.template, h.level) =
    ap (λ i. message_named 0 i schema.messages) lays.numbers.says_template ∙ lays.message in
    let found : found_template schema (head_number schema (codes "templateId") front) (message_named 0 (head_number schema (codes "templateId") front) schema.messages) ≡ Ok h.template =
    ap (found_template schema (head_number schema (codes "templateId") front)) named in
    ap result_ok (if_so _ _ _ long ∙ ap (named_template schema) whole ∙ if_so _ _ _ ours ∙ found)

-- the message that is meant is there
found_there : (schema : WireSchema) (id t : ℕ) (o : Option (ℕ × Level)) → message_named 0 id schema.messages ≡ o → result_ok (found_template schema id o) ≡ Some t → (level : Level) × (slice_get schema.messages t ≡ Some level)
found_there schema id t None e h = cc
found_there schema id t (Some m) e h =
    let same : m.0 ≡ t = cc in
    (m.1, subst (λ n. slice_get schema.messages n ≡ Some m.1) same (named_is schema id m e))

if_some : {X : Type 0} (t : Bool) (x : Result X Fault) (f : Fault) (y : X) → result_ok (cond t x (Err f)) ≡ Some y → result_ok x ≡ Some y
if_some true x f y h = h
if_some false x f y h = cc

meant_there : (schema : WireSchema) (body : List ℕ) (t : ℕ) → message_meant schema body ≡ Some t → (level : Level) × (slice_get schema.messages t ≡ Some level)
meant_there schema body t h =
    let head = take (header_width schema) body in
    found_there schema (head_number schema (codes "templateId") head) t _ refl
    (if_some (head_number schema (codes "schemaId") head == schema.id) _ _ t (if_some (nat_le (header_width schema) (length body)) _ _ t h))

-- a way without a step
no_step : (schema : WireSchema) (body : List ℕ) (steps : List Step) → steps ≡ [] → IsWay schema (message_meant schema body) steps
no_step schema body steps none = by (message_meant schema body) refl
  where
    by : (o : Option ℕ) → message_meant schema body ≡ o → IsWay schema o steps
    by None h = tt
    by (Some t) h =
        let there = meant_there schema body t h in
        path_of schema t there.0 steps there.1 (here (in_level there.0) steps none)

heading_here : (schema : WireSchema) (fault : Fault) (b : List ℕ) → HeadingFault schema fault b → fault.path ≡ []
heading_here schema fault b h = elim h [
  | inl x ↦ ap (λ (g : Fault). g.path) x.1
  | inr x ↦ elim x.1 [
    | inl y ↦ ap (λ (g : Fault). g.path) y.1
    | inr y ↦ elim y [ inl z ↦ ap (λ (g : Fault). g.path) z.2 | inr z ↦ ap (λ (g : Fault). g.path) z.3 ]
  ]
]

pub faults_have_ways : FaultsHaveWays
faults_have_ways schema fault body h = elim h [
  | inl x ↦ no_step schema body fault.path (heading_here schema fault body x)
  | inr x ↦
      let heading = x.0 in
      let level = heading.level in
      let mode = mode_of schema heading.version in
      let lays = x.5.0 in
      let leads : Leads (in_level level) (x.3).path = elim x.6 [
        | inl y ↦ block_or_tail mode level heading.block (tail_leads mode level) x.3 x.2 y
        | inr y ↦ moved (in_level level) x.3 y.3 _ y.7 (at_fault (in_level level) y.3 _ _ _ y.6.2)
      ] in
      let meant = ap (message_meant schema) x.4 ∙ meant_is schema heading x.1 x.2 lays in
      subst (λ o. IsWay schema o fault.path) (sym meant)
      (path_of schema heading.template level fault.path (named_is schema _ (heading.template, level) lays.message) (moved (in_level level) fault x.3 _ x.7 leads))
]
