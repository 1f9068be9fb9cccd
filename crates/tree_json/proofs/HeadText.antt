-- The front of a block's object: its data, its fields by their table, and its groups.
use Rattle.std.proofs.Common.{◌≡◌, ◌<◌, ℕ, List, [], ◌∷◌, ◌++◌, length, cond, false, refl, sym, ap, ◌∙◌, subst, arith, append_assoc}
use Rattle.std.proofs.lemmas.Bool.Decides.{nat_tests}
use Rattle.std.specs.Prelude.{codes, ◌==◌}
use Rattle.sbe_types.specs.declared.kind.Order.TheVariants.{Little}
use Rattle.sbe_types.specs.declared.message.Block.{out-Block}
use Rattle.sbe_types.specs.declared.message.DataVal.{DataVal}
use Rattle.sbe_types.specs.declared.message.GroupVal.{GroupVal}
use Rattle.sbe_types.specs.declared.schema.DataField.{DataField}
use Rattle.sbe_types.specs.declared.schema.Group.{Group}
use Rattle.flat_rows.specs.Tables.{stands_for}
use Rattle.json_rows.specs.declared.rows.TextRows.{TextRows}
use Rattle.json_rows.specs.Tables.{scalars_in, values_of, with_texts, AreTextRows, HasPieces, TextsFit}
use Rattle.json_rows.proofs.Growing.{fits_too, own_joined}
use Rattle.json_rows.proofs.PieceValues.{values_in}
use Rattle.tree_json.specs.Texts.{block_pieces, text_before, text_behind}
use Rattle.flyweight_view.specs.declared.by_table.TableBlock.{TableBlock}
use Rattle.flyweight_view.specs.ByTable.{IsTableBlock}
use Rattle.flyweight_view.specs.TypedBlocks.{TypedBlock}
use Rattle.json_values.specs.Values.{zipped}
use Rattle.tree_json.specs.Lines.{field_entry, part_entry, group_entry}
use Rattle.json_values.specs.Plain.{entries_text}
use Rattle.json_fields.specs.Printed.{MergedText}
use Rattle.tree_json.specs.Views.{data_front, own_data, own_groups, block_head, block_front}
use Rattle.tree_json.proofs.PiecesText.{fields_text, between_text}

-- a list of which there is a first one is not empty
is_some : {A : Type 0} (x : A) (xs : List A) → (length (x ∷ xs) == 0) ≡ false
is_some x xs = grind (arith, nat_tests)

-- the data in the table's first text, or before it
own_first : (parts : List DataField) (vs : List DataVal) (rest : List ℕ) → own_data parts vs ++ (text_before parts ++ rest) ≡ data_front parts vs ++ (codes ",\"fields\":{" ++ rest)
own_first [] vs rest = refl
own_first (p ∷ ps) vs rest = ap (λ t. cond t [] (data_front (p ∷ ps) vs) ++ (cond t (codes "{\"data\":{},\"fields\":{") (codes ",\"fields\":{") ++ rest)) (is_some p ps)

-- the values of a table are those of the pieces
values_are : (b : TableBlock) (s : TypedBlock) → IsTableBlock b s → scalars_in (block_pieces s) ≡ stands_for b.table.now
values_are b s is = values_in (text_before s.parts) (text_behind s.groups) s.fields ∙ sym is.stands

-- the texts of a level fit its block
pub texts_fit : (b : TableBlock) (s : TypedBlock) → IsTableBlock b s → (t : TextRows) → HasPieces (block_pieces s) t → TextsFit (length b.bytes.now) t.rows.items
texts_fit b s is t h =
    fits_too (length b.bytes.now) (length t.bytes.items) b.table.now.rows.items t.rows.items is.table_is is.fits
    (subst (λ ss. AreTextRows (length t.bytes.items) ss t.rows.items) (values_are b s is) h.table.rows)

-- the values by their texts make the fields' text
pub table_text : (b : TableBlock) (s : TypedBlock) (is : IsTableBlock b s) (t : TextRows) → HasPieces (block_pieces s) t →
    MergedText Little is.known (with_texts (values_of t) t) b.bytes.now (text_before s.parts ++ (entries_text false (zipped field_entry s.fields (out-Block s.block).fields) ++ text_behind s.groups))
table_text b s is t h =
    let vs = (out-Block s.block).fields in
    let fields = entries_text false (zipped field_entry s.fields vs) in
    let text = text_before s.parts ++ (fields ++ text_behind s.groups) in
    subst (λ j. MergedText Little is.known j b.bytes.now text) (sym (own_joined (block_pieces s) t h))
    (between_text Little is.known b.bytes.now (text_before s.parts) (text_behind s.groups) s.fields fields
    (fields_text Little is.known b.bytes.now is.version 0 s.fields vs false is.placed is.alive is.lay))

-- the same of bytes that are the table's
pub bytes_text : (b : TableBlock) (s : TypedBlock) (is : IsTableBlock b s) (t : TextRows) → HasPieces (block_pieces s) t → (bytes : List ℕ) → b.bytes.now ≡ bytes →
    MergedText Little is.known (with_texts (values_of t) t) bytes (text_before s.parts ++ (entries_text false (zipped field_entry s.fields (out-Block s.block).fields) ++ text_behind s.groups))
bytes_text b s is t h bytes same =
    let text = text_before s.parts ++ (entries_text false (zipped field_entry s.fields (out-Block s.block).fields) ++ text_behind s.groups) in
    subst (λ x. MergedText Little is.known (with_texts (values_of t) t) x text) same (table_text b s is t h)

pub head_by_table : (s : TypedBlock) → own_data s.parts (out-Block s.block).parts ++ (text_before s.parts ++ (entries_text false (zipped field_entry s.fields (out-Block s.block).fields) ++ text_behind s.groups)) ≡ block_head s
head_by_table s = own_first s.parts (out-Block s.block).parts (entries_text false (zipped field_entry s.fields (out-Block s.block).fields) ++ text_behind s.groups)

pub no_data : (parts : List DataField) (vs : List DataVal) → length parts ≡ 0 → [] ≡ own_data parts vs
no_data [] vs h = refl
no_data (p ∷ ps) vs h = cc

pub some_data : (parts : List DataField) (vs : List DataVal) → 0 < length parts → data_front parts vs ≡ own_data parts vs
some_data [] vs h = absurd (omega (arith, h))
some_data (p ∷ ps) vs h = sym (ap (λ t. cond t [] (data_front (p ∷ ps) vs)) (is_some p ps))

-- ---- groups

pub none_opened : (groups : List Group) → length groups ≡ 0 → codes ",\"groups\":{}" ≡ text_behind groups
none_opened [] h = refl
none_opened (g ∷ gs) h = cc

pub some_opened : (groups : List Group) → 0 < length groups → codes ",\"groups\":{" ≡ text_behind groups
some_opened [] h = absurd (omega (arith, h))
some_opened (g ∷ gs) h = sym (ap (λ t. cond t (codes ",\"groups\":{}") (codes ",\"groups\":{")) (is_some g gs))

pub no_groups : (groups : List Group) (vs : List GroupVal) → length groups ≡ 0 → [] ≡ own_groups groups vs
no_groups [] vs h = refl
no_groups (g ∷ gs) vs h = cc

pub some_groups : (groups : List Group) (vs : List GroupVal) → 0 < length groups → entries_text false (zipped group_entry groups vs) ≡ own_groups groups vs
some_groups [] vs h = absurd (omega (arith, h))
some_groups (g ∷ gs) vs h = sym (ap (λ t. cond t [] (entries_text false (zipped group_entry (g ∷ gs) vs))) (is_some g gs))

moved : (x f g r : List ℕ) → (x ++ (codes ",\"fields\":{" ++ (f ++ g))) ++ r ≡ x ++ (codes ",\"fields\":{" ++ (f ++ (g ++ r)))
moved x f g r = append_assoc x (codes ",\"fields\":{" ++ (f ++ g)) r ∙ ap (λ l. x ++ (codes ",\"fields\":{" ++ l)) (append_assoc f g r)

behind_is : (groups : List Group) (vs : List GroupVal) → text_behind groups ++ own_groups groups vs ≡ codes ",\"groups\":{" ++ entries_text false (zipped group_entry groups vs)
behind_is [] vs = refl
behind_is (g ∷ gs) vs = ap (λ t. cond t (codes ",\"groups\":{}") (codes ",\"groups\":{") ++ cond t [] (entries_text false (zipped group_entry (g ∷ gs) vs))) (is_some g gs)

-- the front is the head and then the groups
pub front_is : (s : TypedBlock) → block_head s ++ own_groups s.groups (out-Block s.block).groups ≡ block_front s
front_is s =
    let p = entries_text false (zipped part_entry s.parts (out-Block s.block).parts) in
    let f = entries_text false (zipped field_entry s.fields (out-Block s.block).fields) in
    moved (data_front s.parts (out-Block s.block).parts) f (text_behind s.groups) (own_groups s.groups (out-Block s.block).groups)
    ∙ ap (λ g. data_front s.parts (out-Block s.block).parts ++ (codes ",\"fields\":{" ++ (f ++ g))) (behind_is s.groups (out-Block s.block).groups)
    ∙ append_assoc (codes "{\"data\":{") p (codes ",\"fields\":{" ++ (f ++ (codes ",\"groups\":{" ++ entries_text false (zipped group_entry s.groups (out-Block s.block).groups))))
