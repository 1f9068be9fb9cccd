-- What is told of the next part.
use Rattle.std.proofs.Common.{◌≡◌, ℕ, true, false, List, ◌∷◌, take, drop, slice_get, Option, Some, sym, ap, ◌∙◌}
use Rattle.std.specs.Prelude.{if◌then◌else◌}
use Rattle.bridge_rules.proofs.BoolLemmas.{if_true, if_false}
use Rattle.bridge_terms.specs.Parts.{Part, parts_of, rest_of, run_of}
use Rattle.bridge_terms.specs.Plans.{Plan, is_in, owns, tags}
use Rattle.bridge_terms.specs.WayBack.{Refusal, or_else, repeated, unknown, wrong_at, wrong_in_order}
use Rattle.bridge_terms.proofs.Cursor.{parts_step}
use Rattle.field_judge.specs.declared.field.AppField.{AppField}
use Rattle.field_judge.specs.Fields.{field_of, fields_of, part_with}
use Rattle.field_judge.specs.Levels.{IsNumbered}
use Rattle.field_judge.proofs.Rows.{zero_owns, wrong_unknown}
use Rattle.field_judge.proofs.SliceLemmas.{fields_first}

-- what is wrong in the parts of fields, some of whose tags are gone
abbrev pub wrong_after : Plan → List ℕ → List AppField → Option Refusal
wrong_after p gone fields = wrong_in_order (wrong_at p) gone (parts_of (owns p) (fields_of fields))

-- the first part, with its run
abbrev part_next : Plan → AppField → List AppField → Part
part_next p f rest = part_with f.tag f.text.now (run_of (owns p) f.tag (fields_of rest))

step : (p : Plan) (gone : List ℕ) (left : List AppField) (f : AppField) → IsNumbered p → slice_get left 0 ≡ Some f
    → wrong_after p gone left ≡ or_else (if is_in f.tag gone then Some (repeated f.tag) else wrong_at p (part_next p f (drop 1 left)))
    (wrong_in_order (wrong_at p) (f.tag ∷ gone) (parts_of (owns p) (rest_of (owns p) f.tag (fields_of (drop 1 left)))))
step p gone left f numbered at =
    ap (λ fs. wrong_in_order (wrong_at p) gone (parts_of (owns p) fs)) (fields_first left f at)
    ∙ ap (wrong_in_order (wrong_at p) gone) (parts_step (owns p) (zero_owns p numbered) (field_of f) (fields_of (drop 1 left)))

pub told_unknown : (p : Plan) (gone : List ℕ) (left : List AppField) (f : AppField) → IsNumbered p → slice_get left 0 ≡ Some f → is_in f.tag gone ≡ false → is_in f.tag (tags p) ≡ false
    → wrong_after p gone left ≡ Some (unknown f.tag)
told_unknown p gone left f numbered at new none =
    let more = wrong_in_order (wrong_at p) (f.tag ∷ gone) (parts_of (owns p) (rest_of (owns p) f.tag (fields_of (drop 1 left)))) in
    step p gone left f numbered at
    ∙ ap (λ o. or_else o more) (if_false (is_in f.tag gone) (Some (repeated f.tag)) (wrong_at p (part_next p f (drop 1 left))) new ∙ wrong_unknown p (part_next p f (drop 1 left)) none)

pub told_repeated : (p : Plan) (gone : List ℕ) (left : List AppField) (f : AppField) → IsNumbered p → slice_get left 0 ≡ Some f → is_in f.tag gone ≡ true
    → wrong_after p gone left ≡ Some (repeated f.tag)
told_repeated p gone left f numbered at old =
    let more = wrong_in_order (wrong_at p) (f.tag ∷ gone) (parts_of (owns p) (rest_of (owns p) f.tag (fields_of (drop 1 left)))) in
    step p gone left f numbered at
    ∙ ap (λ o. or_else o more) (if_true (is_in f.tag gone) (Some (repeated f.tag)) (wrong_at p (part_next p f (drop 1 left))) old)

-- a part that is new, whose run has so many fields
pub told_part : (p : Plan) (gone : List ℕ) (left : List AppField) (f : AppField) (n : ℕ) (wrong : Option Refusal) → IsNumbered p → slice_get left 0 ≡ Some f → is_in f.tag gone ≡ false
    → fields_of (take n (drop 1 left)) ≡ run_of (owns p) f.tag (fields_of (drop 1 left)) → fields_of (drop n (drop 1 left)) ≡ rest_of (owns p) f.tag (fields_of (drop 1 left))
    → wrong ≡ wrong_at p (part_with f.tag f.text.now (fields_of (take n (drop 1 left))))
    → wrong_after p gone left ≡ or_else wrong (wrong_after p (f.tag ∷ gone) (drop n (drop 1 left)))
told_part p gone left f n wrong numbered at new run rest is =
    let more = wrong_in_order (wrong_at p) (f.tag ∷ gone) (parts_of (owns p) (rest_of (owns p) f.tag (fields_of (drop 1 left)))) in
    step p gone left f numbered at
    ∙ ap (λ o. or_else o more) (if_false (is_in f.tag gone) (Some (repeated f.tag)) (wrong_at p (part_next p f (drop 1 left))) new
    ∙ ap (λ fs. wrong_at p (part_with f.tag f.text.now fs)) (sym run) ∙ sym is)
    ∙ ap (λ fs. or_else wrong (wrong_in_order (wrong_at p) (f.tag ∷ gone) (parts_of (owns p) fs))) (sym rest)

-- the same by a row with the tag, and the rest as it was cut
pub told_row : (p : Plan) (gone : List ℕ) (left : List AppField) (f : AppField) (n tag : ℕ) (rest run : List AppField) (wrong : Option Refusal) → IsNumbered p → slice_get left 0 ≡ Some f → is_in f.tag gone ≡ false
    → rest ≡ drop 1 left → run ≡ take n rest → tag ≡ f.tag
    → fields_of (take n rest) ≡ run_of (owns p) tag (fields_of rest) → fields_of (drop n rest) ≡ rest_of (owns p) tag (fields_of rest)
    → wrong ≡ wrong_at p (part_with tag f.text.now (fields_of run)) → wrong_after p gone left ≡ or_else wrong (wrong_after p (f.tag ∷ gone) (drop n rest))
told_row p gone left f n tag rest run wrong numbered at new rest_is run_is tag_is runs rests is =
    told_part p gone left f n wrong numbered at new
    (ap (λ ys. fields_of (take n ys)) (sym rest_is) ∙ runs ∙ ap (λ t. run_of (owns p) t (fields_of rest)) tag_is ∙ ap (λ ys. run_of (owns p) f.tag (fields_of ys)) rest_is)
    (ap (λ ys. fields_of (drop n ys)) (sym rest_is) ∙ rests ∙ ap (λ t. rest_of (owns p) t (fields_of rest)) tag_is ∙ ap (λ ys. rest_of (owns p) f.tag (fields_of ys)) rest_is)
    (is ∙ ap (λ t. wrong_at p (part_with t f.text.now (fields_of run))) tag_is ∙ ap (λ ys. wrong_at p (part_with f.tag f.text.now (fields_of ys))) (run_is ∙ ap (take n) rest_is))
    ∙ ap (λ ys. or_else wrong (wrong_after p (f.tag ∷ gone) (drop n ys))) (sym rest_is)
