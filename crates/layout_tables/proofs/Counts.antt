-- A message that lays out has at most as many entries as its body has bytes.
use Rattle.std.proofs.Common.{◌≡◌, ◌≤◌, ◌+◌, ℕ, suc, Bool, true, false, cond, List, [], ◌∷◌, ◌++◌, length, drop, Some, refl, sym, ap, ◌∙◌, subst, arith, length-append}
use Rattle.std.specs.Prelude.{slice_get}
use Rattle.std.proofs.lemmas.List.{length-take, length-drop}
use Rattle.std.specs.Bool.{MatchBool}
use denote.Hole.Carrier as carrier
use Rattle.sbe_types.specs.declared.schema.Level as levels
use Rattle.sbe_types.specs.declared.schema.Group as groups_of
use Rattle.sbe_types.specs.declared.message.Block.{Block, out-Block}
use Rattle.sbe_types.specs.declared.message.Msg.{Msg}
use Rattle.sbe_types.specs.declared.message.GroupVal.{GroupVal, items_hidden-the_row-Block-1}
use Rattle.sbe_types.specs.declared.message.GroupVal.TheVariants as groupval
use Rattle.sbe_types.specs.declared.schema.Group.{Group, Group', out-Group}
use Rattle.sbe_types.specs.declared.schema.Level.{Level, Level', out-Level, Row_of-Group, end_of-Group, more_of-Group, items-the_row-Group, items_shown-the_row-Group-0}
use Rattle.sbe_types.specs.declared.schema.WireSchema.{WireSchema}
use Rattle.sbe_types.specs.Places.{members_end}
use Rattle.sbe_wire.specs.declared.mode.Mode.{Mode}
use Rattle.sbe_wire.specs.Canonical.{entries_in}
use Rattle.sbe_wire.specs.Versions.{is_alive, acting, form_of, mode_of}
use Rattle.sbe_wire.specs.Lays.{IsConcatenation, GroupLays, GroupsLay, TailLays, EntryLays, Lays}
use Rattle.schema_facts.specs.Entries.{group_least, groups_least, parts_least}
use Rattle.schema_facts.specs.Counted.{total, over_entries, count_in, count_groups, count_group, TakesBytes, GroupsTakeBytes, GroupTakesBytes}
use Rattle.layout_tables.proofs.Least.{GroupAlive, GroupGone, parts_long}

entries_is : (entries : List Block) → entries_in (groupval.Entries entries) ≡ Some entries
entries_is entries = ap Some (items_hidden-the_row-Block-1 entries)

-- a part is alive, or not
split : (P Q : Type 0) (t : Bool) (n : ℕ) (goal : ℕ → Type 0) → MatchBool t P Q → (t ≡ true → P → goal n) → (Q → goal 0) → goal (cond t n 0)
split P Q true n goal h alive gone = alive refl h
split P Q false n goal h alive gone = gone h

joined_long : {X : Type 0} (R : X → List ℕ → Type 0) (f : X → ℕ) → ((x : X) (b : List ℕ) → R x b → f x ≤ length b) → (xs : List X) (b : List ℕ) → IsConcatenation R xs b → total f xs ≤ length b
joined_long R f long [] b h =
    let none : 0 ≤ length b = omega arith in
    none
joined_long R f long (x ∷ xs) b h =
    let both : f x + total f xs ≤ length b = omega (arith, ap length h.2, length-append h.0 h.1, long x h.0 h.3, joined_long R f long xs h.1 h.4) in
    both

mutual
  unfolding count_in count_groups count_group TakesBytes GroupsTakeBytes GroupTakesBytes levels.out-Level groups_of.out-Group carrier.out

  tail_counted : (mode : Mode) (level : Level) (block : Block) (b : List ℕ) → TakesBytes mode.version level → TailLays mode level block b →
      count_in level block + (groups_least mode.version (out-Level level).groups + parts_least mode.version (out-Level level).parts) ≤ length b
  tail_counted mode (Level' name id semantic since block_length fields n groups parts) block b takes h =
      let rows = rows_counted mode groups (out-Block block).groups h.0 takes h.3 in
      let whole : count_groups groups (out-Block block).groups + (groups_least mode.version (items-the_row-Group _ groups) + parts_least mode.version parts) ≤ length b =
      omega (arith, ap length h.2, length-append h.0 h.1, rows, parts_long mode.order mode.version parts (out-Block block).parts h.1 h.4) in
      subst (λ gs. count_groups groups (out-Block block).groups + (groups_least mode.version gs + parts_least mode.version parts) ≤ length b) (sym (items_shown-the_row-Group-0 n groups)) whole

  rows_counted : (mode : Mode) {n : _} (row : Row_of-Group n) (vs : List GroupVal) (b : List ℕ) → GroupsTakeBytes mode.version row → GroupsLay mode row vs b →
      count_groups row vs + groups_least mode.version (items-the_row-Group n row) ≤ length b
  rows_counted mode end_of-Group vs b takes h =
      let none : 0 + 0 ≤ length b = omega arith in
      none
  rows_counted mode (more_of-Group g rest) [] b takes h = absurd h
  rows_counted mode (more_of-Group g rest) (v ∷ vs) b takes h =
      let both : (count_group g v + count_groups rest vs) + (group_least mode.version g + groups_least mode.version (items-the_row-Group _ rest)) ≤ length b =
      omega (arith, ap length h.2, length-append h.0 h.1, group_counted mode g v h.0 takes.0 h.3, rows_counted mode rest vs h.1 takes.1 h.4) in
      both

  group_counted : (mode : Mode) (g : Group) (v : GroupVal) (b : List ℕ) → GroupTakesBytes mode.version g → GroupLays mode g v b →
      count_group g v + group_least mode.version g ≤ length b
  group_counted mode (Group' dim level) v b takes h =
      let f : Block → ℕ = λ entry. suc (count_in level entry) in
      split (GroupAlive mode dim level v b) (GroupGone v b) (is_alive mode.version (out-Level level).since) (members_end 0 dim) (λ m. over_entries f (entries_in v) + m ≤ length b) h
      (λ on alive.
      let lies = alive.2 in
      let counted : over_entries f (entries_in v) ≡ total f alive.0 = ap (λ x. over_entries f (entries_in x)) alive.1 ∙ ap (over_entries f) (entries_is alive.0) in
      let own : (entry : Block) (e : List ℕ) → EntryLays (λ x bytes. TailLays mode level x bytes) (form_of mode level) lies.0 entry e → suc (count_in level entry) ≤ length e = λ entry e lays.
      let tail = tail_counted mode level entry (drop lies.0 e) takes.1 lays.2 in
      omega (arith, takes.0 on, lays.0, lays.1.0, tail, length-take lies.0 e, length-drop lies.0 e) in
      omega (arith, counted, ap length lies.3, length-append lies.1 lies.2, lies.4.wide, joined_long (EntryLays (λ x bytes. TailLays mode level x bytes) (form_of mode level) lies.0) f own alive.0 lies.2 lies.5))
      (λ gone.
      let none : over_entries f (entries_in v) ≡ 0 = ap (λ x. over_entries f (entries_in x)) gone.0 in
      omega (arith, none))

pub message_counted : (schema : WireSchema) (m : Msg) (level : Level) (body : List ℕ) → slice_get schema.messages m.template ≡ Some level → TakesBytes (acting schema m.version) level → Lays schema m body →
    count_in level m.block ≤ length body
message_counted schema m level body there takes h =
    let both : Some level ≡ Some h.0 = sym there ∙ h.5 in
    let same : level ≡ h.0 = cc in
    let tail = tail_counted (mode_of schema m.version) h.0 m.block h.3 (subst (λ (l : Level). TakesBytes (acting schema m.version) l) same takes) h.9 in
    let counts : count_in level m.block ≡ count_in h.0 m.block = ap (λ (l : Level). count_in l m.block) same in
    let first = length-append h.1 (h.2 ++ h.3 ++ h.4) in
    let second = length-append h.2 (h.3 ++ h.4) in
    let third = length-append h.3 h.4 in
    let fourth = length-append (h.2 ++ h.3) h.4 in
    let fifth = length-append h.2 h.3 in
    let sixth = length-append (h.1 ++ h.2 ++ h.3) h.4 in
    let seventh = length-append (h.1 ++ h.2) h.3 in
    let eighth = length-append h.1 h.2 in
    omega (arith, ap length h.6, first, second, third, fourth, fifth, sixth, seventh, eighth, counts, tail)
