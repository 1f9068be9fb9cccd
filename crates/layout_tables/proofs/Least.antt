-- No entry that lays out has fewer bytes than the least number.
use Rattle.std.proofs.Common.{◌≡◌, ◌≤◌, ◌+◌, ℕ, Bool, true, false, cond, List, [], ◌∷◌, length, drop, sym, ap, subst, arith, length-append}
use Rattle.std.proofs.lemmas.List.{length-take, length-drop}
use Rattle.std.specs.Bool.{MatchBool}
use denote.Hole.Carrier as carrier
use Rattle.sbe_types.specs.declared.schema.Level as levels
use Rattle.sbe_types.specs.declared.schema.Group as groups_of
use Rattle.sbe_types.specs.declared.kind.Order.{Order}
use Rattle.sbe_types.specs.declared.message.Block.{Block, out-Block}
use Rattle.sbe_types.specs.declared.message.GroupVal.{GroupVal}
use Rattle.sbe_types.specs.declared.message.DataVal.{DataVal}
use Rattle.sbe_types.specs.declared.message.GroupVal.TheVariants as groupval
use Rattle.sbe_types.specs.declared.message.DataVal.TheVariants as dataval
use Rattle.sbe_types.specs.declared.kind.Member.{Member}
use Rattle.sbe_types.specs.declared.schema.DataField.{DataField}
use Rattle.sbe_types.specs.declared.schema.Group.{Group, Group', out-Group}
use Rattle.sbe_types.specs.declared.schema.Level.{Level, Level', out-Level, Row_of-Group, end_of-Group, more_of-Group, items-the_row-Group, items_shown-the_row-Group-0}
use Rattle.sbe_types.specs.Numbers.{prim_width}
use Rattle.sbe_types.specs.Places.{members_end}
use Rattle.sbe_wire.specs.declared.mode.Mode.{Mode}
use Rattle.sbe_wire.specs.Versions.{is_alive, form_of}
use Rattle.sbe_wire.specs.Lays.{IsConcatenationOfBoth, DataLays, DataLies, GroupLies, GroupLays, GroupsLay, TailLays, EntryLays}
use Rattle.schema_facts.specs.Entries.{group_least, groups_least, part_least, parts_least, entry_least}

-- how a group that is alive lays out
abbrev pub GroupAlive : Mode → List Member → Level → GroupVal → List ℕ → Type 0
GroupAlive mode dim level v b =
    (entries : List Block) × (v ≡ groupval.Entries entries)
    × GroupLies (λ entry e. TailLays mode level entry e) (form_of mode level) dim entries b

-- a group that isn't alive has no bytes
abbrev pub GroupGone : GroupVal → List ℕ → Type 0
GroupGone v b = (v ≡ groupval.Absent) × (b ≡ [])

-- how a data part that is alive lays out
abbrev PartAlive : Order → DataField → DataVal → List ℕ → Type 0
PartAlive order part v b = (bytes : List ℕ) × (v ≡ dataval.Bytes bytes) × DataLies order part bytes b

-- a data part that isn't alive has no bytes
abbrev PartGone : DataVal → List ℕ → Type 0
PartGone v b = (v ≡ dataval.Absent) × (b ≡ [])

-- a part has its bytes where it is alive
alive_long : (P Q : Type 0) (t : Bool) (n m : ℕ) → MatchBool t P Q → (P → n ≤ m) → cond t n 0 ≤ m
alive_long P Q true n m h long = long h
alive_long P Q false n m h long =
    let none : 0 ≤ m = omega arith in
    none

group_long : (mode : Mode) (g : Group) (v : GroupVal) (b : List ℕ) → GroupLays mode g v b → group_least mode.version g ≤ length b
unfolding groups_of.out-Group carrier.out
group_long mode (Group' dim level) v b h =
    alive_long (GroupAlive mode dim level v b) (GroupGone v b) (is_alive mode.version (out-Level level).since) (members_end 0 dim) (length b) h (λ alive.
    omega (arith, ap length alive.2.3, length-append alive.2.1 alive.2.2, alive.2.4.wide))

rows_long : (mode : Mode) {n : _} (row : Row_of-Group n) (vs : List GroupVal) (b : List ℕ) → GroupsLay mode row vs b →
    groups_least mode.version (items-the_row-Group n row) ≤ length b
rows_long mode end_of-Group vs b h =
    let none : 0 ≤ length b = omega arith in
    none
rows_long mode (more_of-Group g rest) [] b h = absurd h
rows_long mode (more_of-Group g rest) (v ∷ vs) b h =
    let both : group_least mode.version g + groups_least mode.version (items-the_row-Group _ rest) ≤ length b =
    omega (arith, ap length h.2, length-append h.0 h.1, group_long mode g v h.0 h.3, rows_long mode rest vs h.1 h.4) in
    both

part_long : (order : Order) (version : ℕ) (part : DataField) (v : DataVal) (b : List ℕ) → DataLays order version part v b → part_least version part ≤ length b
part_long order version part v b h =
    alive_long (PartAlive order part v b) (PartGone v b) (is_alive version part.since) (prim_width part.length.prim) (length b) h (λ alive.
    omega (arith, ap length alive.2.whole, length-append alive.2.before alive.0, alive.2.wide))

pub parts_long : (order : Order) (version : ℕ) (parts : List DataField) (vs : List DataVal) (b : List ℕ) → IsConcatenationOfBoth (DataLays order version) parts vs b → parts_least version parts ≤ length b
parts_long order version [] [] b h =
    let none : 0 ≤ length b = omega arith in
    none
parts_long order version [] (v ∷ vs) b h = absurd h
parts_long order version (part ∷ parts) [] b h = absurd h
parts_long order version (part ∷ parts) (v ∷ vs) b h =
    let both : part_least version part + parts_least version parts ≤ length b =
    omega (arith, ap length h.2, length-append h.0 h.1, part_long order version part v h.0 h.3, parts_long order version parts vs h.1 h.4) in
    both

tail_long : (mode : Mode) (level : Level) (block : Block) (b : List ℕ) → TailLays mode level block b →
    groups_least mode.version (out-Level level).groups + parts_least mode.version (out-Level level).parts ≤ length b
unfolding levels.out-Level carrier.out
tail_long mode (Level' name id semantic since block_length fields n groups parts) block b h =
    let rows = rows_long mode groups (out-Block block).groups h.0 h.3 in
    let whole : groups_least mode.version (items-the_row-Group _ groups) + parts_least mode.version parts ≤ length b =
    omega (arith, ap length h.2, length-append h.0 h.1, rows, parts_long mode.order mode.version parts (out-Block block).parts h.1 h.4) in
    subst (λ gs. groups_least mode.version gs + parts_least mode.version parts ≤ length b) (sym (items_shown-the_row-Group-0 n groups)) whole

pub entry_long : (mode : Mode) (level : Level) (k : ℕ) (entry : Block) (b : List ℕ) →
    EntryLays (λ e bytes. TailLays mode level e bytes) (form_of mode level) k entry b → entry_least mode.version level ≤ length b
entry_long mode level k entry b h =
    let tail = tail_long mode level entry (drop k b) h.2 in
    omega (arith, h.0, h.1.0, tail, length-take k b, length-drop k b)
