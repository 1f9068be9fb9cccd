-- The text of pieces is the text of the fields' values.
use Rattle.std.proofs.Common.{◌≡◌, ◌≤◌, ◌+◌, ℕ, Bool, true, false, cond, List, [], ◌∷◌, ◌++◌, take, drop, Some, refl, sym, ap, ◌∙◌, subst, arith, append_assoc}
use Rattle.std.proofs.lemmas.List.{append-nil}
use Rattle.std.specs.Prelude.{codes, Option}
use Rattle.std.specs.List.{list_all}
use Rattle.json.specs.Print.{quoted}
use Rattle.serde_json.specs.Data.{Data, string}
use Rattle.std.specs.Bool.{MatchBool}
use Rattle.sbe_types.specs.declared.kind.ConstValue.{ConstValue}
use Rattle.sbe_types.specs.declared.kind.ConstValue.TheVariants as constant
use Rattle.sbe_types.specs.declared.kind.Kind.{Kind, Leaf, Enum, Set, Const, Comp', Row_of-Member, end_of-Member, more_of-Member}
use Rattle.sbe_types.specs.declared.kind.Order.{Order}
use Rattle.sbe_types.specs.declared.message.Value.{Value, items_hidden-the_row-Value-0}
use Rattle.sbe_types.specs.declared.message.Value.TheVariants as value
use Rattle.sbe_types.specs.declared.schema.Field.{Field}
use Rattle.sbe_types.specs.Places.{width, row_end, is_const, begin_of, end_past}
use Rattle.sbe_types.specs.Shows.{Shows, MembersShow}
use Rattle.sbe_wire.specs.Lays.{FieldsLay}
use Rattle.sbe_wire.specs.Placed.{IsPlacedKind, IsPlacedRow, ArePlaced}
use Rattle.sbe_wire.proofs.Values.{row_grows}
use Rattle.json_values.specs.Values.{Entry, zipped, hex, constant_data, value_data, row_entries}
use Rattle.tree_json.specs.Lines.{field_entry}
use Rattle.json_values.specs.Plain.{plain_text, shown_text, entries_text}
use Rattle.json_fields.proofs.MembersShown.{entry_goes}
use Rattle.json_fields.proofs.FromBytes.{is_shown}
use Rattle.json_rows.specs.Texts.{key_of, is_seen, hex_text, constant_text}
use Rattle.json_rows.specs.Pieces.{Piece, literal, shown, kind_pieces, member_pieces, field_pieces, pieces_of, pieces_between, Slot, MergedPieces, no_slots, with_piece, with_pieces, merged_pieces}
use Rattle.flat_rows.specs.BlockChecks.{AllAlive, bytes_there}
use Rattle.flat_rows.proofs.Inside.{kind_inside}
use Rattle.json_fields.specs.Printed.{PiecesText, SlotsText, MergedText}

-- ---- constants

text_same : (t : Bool) (bytes : List ℕ) → cond t (quoted bytes) (hex_text bytes) ≡ plain_text (cond t (string bytes) (hex bytes))
text_same true bytes = refl
text_same false bytes = refl

-- a constant's text is that of its data
constant_same : (c : ConstValue) → constant_text c ≡ plain_text (constant_data c)
constant_same (constant.Num n) = refl
constant_same (constant.Text bytes) = text_same (list_all is_seen bytes) bytes
constant_same (constant.Code p named) = refl

constant_shown : (c : ConstValue) → shown_text (value_data (Const c) value.Const) ≡ constant_text c
unfolding value_data
constant_shown c = sym (constant_same c)

-- ---- composites

composite_text : (n : _) (members : Row_of-Member _) (vs : List Value) → shown_text (value_data (Comp' n members) (value.Comp vs)) ≡ codes "{" ++ entries_text false (row_entries members vs)
unfolding value_data
composite_text n members vs = ap (λ xs. codes "{" ++ entries_text false (row_entries members xs)) (items_hidden-the_row-Value-0 vs)

no_entries : (later : Bool) (e : List Entry) → e ≡ [] → entries_text later e ≡ codes "}"
no_entries later e is = ap (entries_text later) is

row_over : (vs : List Value) → row_entries end_of-Member vs ≡ []
unfolding value_data
row_over vs = refl

row_next : {n : _} (name : List ℕ) (offset : Option ℕ) (kind : Kind) (rest : Row_of-Member n) (v : Value) (vs : List Value) →
    row_entries (more_of-Member name offset kind rest) (v ∷ vs) ≡ (name, value_data kind v) ∷ row_entries rest vs
unfolding value_data
row_next name offset kind rest v vs = refl

-- a member that is there: its key, its text, and then the rest
member_text : (later : Bool) (name : List ℕ) (kind : Kind) (v : Value) (es : List Entry) (d : Data) → value_data kind v ≡ Some d →
    entries_text later ((name, value_data kind v) ∷ es) ≡ key_of later name ++ (shown_text (value_data kind v) ++ entries_text true es)
member_text later name kind v es d is =
    sym (entry_goes later name (value_data kind v) d es is) ∙ append_assoc (key_of later name) (shown_text (value_data kind v)) (entries_text true es)

module _ (order : Order) (known : Bool) (b : List ℕ) where
  mutual
    -- the first of the pieces are those of a kind
    kind_text : (kind : Kind) (at : ℕ) (v : Value) (ps : List Piece) (rest : List ℕ) → IsPlacedKind kind → Shows order known kind v (bytes_there kind at b) → PiecesText order known ps b rest →
        PiecesText order known (kind_pieces kind at ++ ps) b (shown_text (value_data kind v) ++ rest)
    kind_text (Leaf l) at v ps rest placed h k = (v, rest, h, refl, k)
    kind_text (Enum l names) at v ps rest placed h k = (v, rest, h, refl, k)
    kind_text (Set p names) at v ps rest placed h k = (v, rest, h, refl, k)
    kind_text (Const c) at v ps rest placed h k =
        (rest, ap (λ w. shown_text (value_data (Const c) w) ++ rest) h.1 ∙ ap (λ t. t ++ rest) (constant_shown c), k)
    kind_text (Comp' n members) at v ps rest placed h k =
        let vs = h.1.0 in
        let inner = entries_text false (row_entries members vs) in
        let text : shown_text (value_data (Comp' n members) v) ++ rest ≡ codes "{" ++ (inner ++ rest) =
        ap (λ w. shown_text (value_data (Comp' n members) w) ++ rest) h.1.1 ∙ ap (λ t. t ++ rest) (composite_text n members vs) in
        (inner ++ rest, text, members_text members false at 0 (width (Comp' n members)) vs ps rest placed (omega arith) h.1.2 k)

    -- the first of the pieces are those of members of a composite of w bytes
    members_text : {n : _} (row : Row_of-Member n) (later : Bool) (at e w : ℕ) (vs : List Value) (ps : List Piece) (rest : List ℕ) → IsPlacedRow e row → row_end e row ≤ w →
        MembersShow order known e row vs (take w (drop at b)) → PiecesText order known ps b rest →
        PiecesText order known (member_pieces later at e row ++ ps) b (entries_text later (row_entries row vs) ++ rest)
    members_text end_of-Member later at e w [] ps rest placed ends h k = (rest, ap (λ t. t ++ rest) (no_entries later _ (row_over [])), k)
    members_text end_of-Member later at e w (v ∷ vs) ps rest placed ends h k = absurd h
    members_text (more_of-Member name offset kind more) later at e w [] ps rest placed ends h k = absurd h
    members_text (more_of-Member name offset kind more) later at e w (v ∷ vs) ps rest placed ends h k =
        let p = begin_of e offset in
        let next = cond (is_const kind) e (p + width kind) in
        let others = member_pieces true at next more in
        let inner = entries_text true (row_entries more vs) in
        let grows : next ≤ row_end next more = row_grows more next placed.2 in
        let within : is_const kind ≡ false → p + width kind ≤ w = λ c. subst (λ (t : Bool). cond t e (p + width kind) ≤ w) c (omega (arith, grows, ends)) in
        let here : Shows order known kind v (bytes_there kind (at + p) b) = subst (Shows order known kind v) (kind_inside at p w kind b within) h.0 in
        let there = is_shown order known kind v _ here in
        let text : entries_text later (row_entries (more_of-Member name offset kind more) (v ∷ vs)) ++ rest ≡ key_of later name ++ (shown_text (value_data kind v) ++ (inner ++ rest)) =
        ap (λ es. entries_text later es ++ rest) (row_next name offset kind more v vs)
        ∙ ap (λ t. t ++ rest) (member_text later name kind v (row_entries more vs) there.0 there.1)
        ∙ append_assoc (key_of later name) (shown_text (value_data kind v) ++ inner) rest
        ∙ ap (λ t. key_of later name ++ t) (append_assoc (shown_text (value_data kind v)) inner rest) in
        let after = members_text more true at next w vs ps rest placed.2 ends h.1 k in
        let value = kind_text kind (at + p) v (others ++ ps) (inner ++ rest) placed.1 here after in (
          shown_text (value_data kind v) ++ (inner ++ rest),
          text,
          subst (λ l. PiecesText order known l b (shown_text (value_data kind v) ++ (inner ++ rest))) (sym (append_assoc (kind_pieces kind (at + p)) others ps)) value,
        )

  pub fields_text : (version e : ℕ) (fs : List Field) (vs : List Value) (later : Bool) → ArePlaced e fs → AllAlive version fs → FieldsLay (record { order = order; known = known; version = version }) e fs vs b →
      PiecesText order known (field_pieces later e fs) b (entries_text later (zipped field_entry fs vs))
  fields_text version e [] [] later placed alive h = ([], refl, refl)
  fields_text version e [] (v ∷ vs) later placed alive h = absurd h
  fields_text version e (f ∷ fs) [] later placed alive h = absurd h
  fields_text version e (f ∷ fs) (v ∷ vs) later placed alive h =
      let p = begin_of e f.offset in
      let next = end_past e f.offset f.kind in
      let inner = entries_text true (zipped field_entry fs vs) in
      let here : Shows order known f.kind v (bytes_there f.kind p b) =
      subst (λ t. MatchBool t (Shows order known f.kind v (take (width f.kind) (drop p b))) (v ≡ value.Absent)) alive.0 h.0 in
      let there = is_shown order known f.kind v _ here in
      let after = fields_text version next fs vs true placed.2 alive.1 h.1 in (
        shown_text (value_data f.kind v) ++ inner,
        member_text later f.name f.kind v (zipped field_entry fs vs) there.0 there.1,
        kind_text f.kind p v (field_pieces true next fs) inner placed.1 here after,
      )

  -- ---- with one literal before each value

  slots_more : (ss : List Slot) (s : Slot) (front : List ℕ) (v : Value) → SlotsText order known ss b front → Shows order known s.kind v (bytes_there s.kind s.place b) →
      SlotsText order known (ss ++ s ∷ []) b (front ++ (s.before ++ shown_text (value_data s.kind v)))
  slots_more [] s front v h k =
      let text = shown_text (value_data s.kind v) in
      (v, [], k, ap (λ f. f ++ (s.before ++ text)) h ∙ ap (λ t. s.before ++ t) (sym (append-nil text)), refl)
  slots_more (t ∷ ss) s front v h k =
      let more = s.before ++ shown_text (value_data s.kind v) in
      let text = shown_text (value_data t.kind h.0) in
      let rest = h.1 in (
        h.0,
        rest ++ more,
        h.2,
        ap (λ f. f ++ more) h.3 ∙ append_assoc t.before (text ++ rest) more ∙ ap (λ l. t.before ++ l) (append_assoc text rest more),
        slots_more ss s rest v h.4 k,
      )

  slots_text : (ps : List Piece) (j : MergedPieces) (front text : List ℕ) → SlotsText order known j.slots b front → PiecesText order known ps b text →
      MergedText order known (with_pieces j ps) b ((front ++ j.last) ++ text)
  slots_text [] j front text h k = (front, h, ap (λ t. (front ++ j.last) ++ t) k ∙ append-nil (front ++ j.last))
  slots_text (literal bytes ∷ ps) j front text h k =
      let rest = slots_text ps (with_piece j (literal bytes)) front k.0 h k.2 in
      let same : (front ++ (j.last ++ bytes)) ++ k.0 ≡ (front ++ j.last) ++ text =
      ap (λ l. l ++ k.0) (sym (append_assoc front j.last bytes)) ∙ append_assoc (front ++ j.last) bytes k.0 ∙ ap (λ t. (front ++ j.last) ++ t) (sym k.1) in
      subst (MergedText order known (with_pieces (with_piece j (literal bytes)) ps) b) same rest
  slots_text (shown kind place ∷ ps) j front text h k =
      let s : Slot = record { before = j.last; kind = kind; place = place } in
      let value = shown_text (value_data kind k.0) in
      let next = front ++ (j.last ++ value) in
      let rest = slots_text ps (with_piece j (shown kind place)) next k.1 (slots_more j.slots s front k.0 h k.2) k.4 in
      let same : (next ++ []) ++ k.1 ≡ (front ++ j.last) ++ text =
      ap (λ l. l ++ k.1) (append-nil next ∙ sym (append_assoc front j.last value)) ∙ append_assoc (front ++ j.last) value k.1 ∙ ap (λ t. (front ++ j.last) ++ t) (sym k.3) in
      subst (MergedText order known (with_pieces (with_piece j (shown kind place)) ps) b) same rest

  -- pieces, and a text after them
  ends_so : (ps : List Piece) (after text : List ℕ) → PiecesText order known ps b text → PiecesText order known (ps ++ literal after ∷ []) b (text ++ after)
  ends_so [] after text h = ([], ap (λ l. l ++ after) h ∙ sym (append-nil after), refl)
  ends_so (literal bytes ∷ ps) after text h = (h.0 ++ after, ap (λ l. l ++ after) h.1 ∙ append_assoc bytes h.0 after, ends_so ps after h.0 h.2)
  ends_so (shown kind place ∷ ps) after text h =
      let value = shown_text (value_data kind h.0) in
      (h.0, h.1 ++ after, h.2, ap (λ l. l ++ after) h.3 ∙ append_assoc value h.1 after, ends_so ps after h.1 h.4)

  pub between_text : (before after : List ℕ) (fs : List Field) (text : List ℕ) → PiecesText order known (pieces_of fs) b text →
      MergedText order known (merged_pieces (pieces_between before after fs)) b (before ++ (text ++ after))
  between_text before after fs text h =
      let whole : PiecesText order known (pieces_between before after fs) b (before ++ (text ++ after)) = (text ++ after, refl, ends_so (pieces_of fs) after text h) in
      slots_text (pieces_between before after fs) no_slots [] (before ++ (text ++ after)) refl whole
