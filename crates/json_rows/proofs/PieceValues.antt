-- The values of pieces are those of the fields.
use Rattle.std.proofs.Common.{◌≡◌, ◌+◌, ℕ, Bool, true, false, cond, List, [], ◌∷◌, ◌++◌, refl, ap, ap₂, ◌∙◌}
use Rattle.std.proofs.lemmas.List.{append-nil}
use Rattle.sbe_types.specs.declared.kind.Kind.{Kind, Leaf, Enum, Set, Const, Comp', Row_of-Member, end_of-Member, more_of-Member}
use Rattle.sbe_types.specs.declared.schema.Field.{Field}
use Rattle.sbe_types.specs.Places.{width, is_const, begin_of, end_past}
use Rattle.flat_rows.specs.Scalars.{Scalar, scalar_at, kind_scalars, member_scalars, field_scalars, scalars_of}
use Rattle.json_rows.specs.Pieces.{Piece, literal, shown, kind_pieces, member_pieces, field_pieces, pieces_of, pieces_between}
use Rattle.json_rows.specs.Tables.{scalars_in}

both_in : (ps qs : List Piece) → scalars_in (ps ++ qs) ≡ scalars_in ps ++ scalars_in qs
both_in [] qs = refl
both_in (literal bytes ∷ ps) qs = both_in ps qs
both_in (shown kind place ∷ ps) qs = ap (λ ss. scalar_at kind place ∷ ss) (both_in ps qs)

mutual
  kind_in : (kind : Kind) (at : ℕ) → scalars_in (kind_pieces kind at) ≡ kind_scalars kind at
  kind_in (Leaf l) at = refl
  kind_in (Enum l names) at = refl
  kind_in (Set p names) at = refl
  kind_in (Const c) at = refl
  kind_in (Comp' n members) at = row_in_pieces members false at 0

  row_in_pieces : {n : _} (row : Row_of-Member n) (later : Bool) (at e : ℕ) → scalars_in (member_pieces later at e row) ≡ member_scalars at e row
  row_in_pieces end_of-Member later at e = refl
  row_in_pieces (more_of-Member name offset kind rest) later at e =
      let next = cond (is_const kind) e (begin_of e offset + width kind) in
      both_in (kind_pieces kind (at + begin_of e offset)) (member_pieces true at next rest)
      ∙ ap₂ (λ a b. a ++ b) (kind_in kind (at + begin_of e offset)) (row_in_pieces rest true at next)

fields_in : (later : Bool) (e : ℕ) (fs : List Field) → scalars_in (field_pieces later e fs) ≡ field_scalars e fs
fields_in later e [] = refl
fields_in later e (f ∷ fs) =
    let next = end_past e f.offset f.kind in
    both_in (kind_pieces f.kind (begin_of e f.offset)) (field_pieces true next fs)
    ∙ ap₂ (λ a b. a ++ b) (kind_in f.kind (begin_of e f.offset)) (fields_in true next fs)

pub values_in : (before after : List ℕ) (fs : List Field) → scalars_in (pieces_between before after fs) ≡ scalars_of fs
values_in before after fs =
    both_in (pieces_of fs) (literal after ∷ []) ∙ append-nil (scalars_in (pieces_of fs)) ∙ fields_in _ 0 fs
