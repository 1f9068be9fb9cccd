-- The blocks of a message that lies in a body have as many values as their level has parts.
use Rattle.std.proofs.Common.{◌≡◌, ℕ, suc, Bool, true, false, List, [], ◌∷◌, length, Option, Some, refl, sym, ap, ◌∙◌, subst}
use Rattle.std.specs.Prelude.{slice_get}
use Rattle.std.specs.Bool.{MatchBool}
use denote.Hole.Carrier as carrier
use Rattle.sbe_types.specs.declared.message.Block.{Block, out-Block}
use Rattle.sbe_types.specs.declared.message.GroupVal.{GroupVal, items_hidden-the_row-Block-1}
use Rattle.sbe_types.specs.declared.message.GroupVal.TheVariants as groupval
use Rattle.sbe_types.specs.declared.message.Msg.{Msg}
use Rattle.sbe_types.specs.declared.message.Value.{Value}
use Rattle.sbe_types.specs.declared.schema.Field.{Field}
use Rattle.sbe_types.specs.declared.schema.Group.{Group, Group'}
use Rattle.sbe_types.specs.declared.schema.Level as levels
use Rattle.sbe_types.specs.declared.schema.Level.{Level, Level', out-Level, Row_of-Group, end_of-Group, more_of-Group, items-the_row-Group, items_shown-the_row-Group-0}
use Rattle.sbe_types.specs.declared.schema.WireSchema.{WireSchema}
use Rattle.sbe_types.specs.Places.{end_past}
use Rattle.sbe_wire.specs.declared.mode.Mode.{Mode}
use Rattle.sbe_wire.specs.Lays.{Lays, FieldsLay, TailLays, GroupsLay, GroupLays, GroupLies, EntryLays, IsConcatenation}
use Rattle.sbe_wire.specs.Versions.{is_alive, form_of, mode_of}
use Rattle.flyweight_view.specs.TypedBlocks.{typed_level}
use Rattle.tree_codec.specs.Trees.{Each, IsWhole, AreWhole, GroupIsWhole, GroupsAreWhole, IsWholeBlock, entries_of}

some_is : {A : Type 0} {x y : A} → ◌≡◌ {A = Option A} (Some x) (Some y) → x ≡ y
some_is h = cc

fields_long : (mode : Mode) (e : ℕ) (fs : List Field) (vs : List Value) (b : List ℕ) → FieldsLay mode e fs vs b → length vs ≡ length fs
fields_long mode e [] [] b h = refl
fields_long mode e [] (v ∷ vs) b h = absurd h
fields_long mode e (f ∷ fs) [] b h = absurd h
fields_long mode e (f ∷ fs) (v ∷ vs) b h = ap suc (fields_long mode (end_past e f.offset f.kind) fs vs b h.1)

-- each item of joined ones
each_joined : {R : Block → List ℕ → Type 0} {P : Block → Type 0} (xs : List Block) (b : List ℕ) → ((x : Block) (c : List ℕ) → R x c → P x) → IsConcatenation R xs b → Each P xs
each_joined [] b f h = tt
each_joined (x ∷ xs) b f h = (f x h.0 h.3, each_joined xs h.1 f h.4)

-- a block whose fields lie is as long as its level, and its tail's groups are whole
module _ (mode : Mode) where
  -- the entries of a group that is alive, or none
  by_alive : (dim : List _) (level : Level) (v : GroupVal) (b : List ℕ) (t : Bool)
      → ((entry : Block) (k : ℕ) (c : List ℕ) → EntryLays (λ x e. TailLays mode level x e) (form_of mode level) k entry c → IsWhole level entry)
      → MatchBool t ((entries : List Block) × (v ≡ groupval.Entries entries) × GroupLies (λ x e. TailLays mode level x e) (form_of mode level) dim entries b)
      ((v ≡ groupval.Absent) × (b ≡ []))
      → Each (λ entry. IsWhole level entry) (entries_of v)
  by_alive dim level v b true f h =
      subst (λ w. Each (λ entry. IsWhole level entry) (entries_of w)) (sym h.1)
      (subst (Each (λ entry. IsWhole level entry)) (sym (items_hidden-the_row-Block-1 h.0)) (each_joined h.0 h.2.2 (λ x c e. f x h.2.0 c e) h.2.5))
  by_alive dim level v b false f h = subst (λ w. Each (λ entry. IsWhole level entry) (entries_of w)) (sym h.0) tt

  mutual
    unfolding levels.out-Level carrier.out

    level_whole : (level : Level) (block : Block) (b : List ℕ) → length (out-Block block).fields ≡ length (out-Level level).fields → TailLays mode level block b → IsWhole level block
    level_whole (Level' name id semantic since block_length fields n groups parts) block b long h = (long, row_whole groups (out-Block block).groups h.0 h.3)

    row_whole : {n : _} (row : Row_of-Group n) (vs : List GroupVal) (b : List ℕ) → GroupsLay mode row vs b → AreWhole row vs
    row_whole end_of-Group [] b h = tt
    row_whole end_of-Group (v ∷ vs) b h = absurd h
    row_whole (more_of-Group g rest) [] b h = absurd h
    row_whole (more_of-Group g rest) (v ∷ vs) b h = (group_whole g v h.0 h.3, row_whole rest vs h.1 h.4)

    group_whole : (g : Group) (v : GroupVal) (b : List ℕ) → GroupLays mode g v b → GroupIsWhole g v
    group_whole (Group' dim level) v b h =
        by_alive dim level v b (is_alive mode.version (out-Level level).since) (λ entry k c e. level_whole level entry _ (fields_long mode 0 _ _ _ e.1.1) e.2) h

row_list : (n : _) (row : Row_of-Group n) (vs : List GroupVal) → AreWhole row vs → GroupsAreWhole (items-the_row-Group n row) vs
row_list n end_of-Group [] h = tt
row_list n end_of-Group (v ∷ vs) h = absurd h
row_list n (more_of-Group g rest) [] h = absurd h
row_list n (more_of-Group g rest) (v ∷ vs) h = (h.0, row_list _ rest vs h.1)

-- what is seen of a whole block
pub seen_whole : (level : Level) (block : Block) → IsWhole level block → IsWholeBlock (typed_level level block)
unfolding levels.out-Level carrier.out
seen_whole (Level' name id semantic since block_length fields n groups parts) block h = record {
  fields = h.0;
  groups = subst (λ gs. GroupsAreWhole gs (out-Block block).groups) (sym (items_shown-the_row-Group-0 n groups)) (row_list _ groups (out-Block block).groups h.1);
}

-- what is seen of a message that lies in a body
pub whole_message : (schema : WireSchema) (m : Msg) (level : Level) (body : List ℕ) → Lays schema m body → slice_get schema.messages m.template ≡ Some level → IsWholeBlock (typed_level level m.block)
whole_message schema m level body h is =
    let same = some_is (sym h.5 ∙ is) in
    let whole = level_whole (mode_of schema m.version) h.0 m.block h.3 (fields_long (mode_of schema m.version) 0 _ _ _ h.8.1) h.9 in
    subst (λ l. IsWholeBlock (typed_level l m.block)) same (seen_whole h.0 m.block whole)
