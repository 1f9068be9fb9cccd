-- What is told of parts and pieces.
use Rattle.std.proofs.Common.{◌≡◌, ◌≤◌, ◌+◌, ℕ, zero, suc, true, false, List, [], ◌∷◌, take, drop, length, slice_get, Option, Some, None, option_map, Result, Ok, Err, refl, sym, ap, ◌∙◌, subst, arith}
use Rattle.std.specs.Prelude.{◌==◌, ◌&&◌, nat_eq, IfOk, MatchOption}
use Rattle.std.proofs.lemmas.Bool.Decides.{nat_tests}
use Rattle.fix_values.specs.declared.rule.V.{V}
use Rattle.fix_values.specs.Numerals.{integer_of}
use Rattle.sbe_types.specs.declared.kind.Leaf.{Leaf as LeafOf}
use Rattle.tagvalue_codec.specs.Fields.{Field}
use Rattle.bridge_rules.specs.Rules.{Rule}
use Rattle.bridge_rules.specs.Values.{value_by}
use Rattle.bridge_rules.proofs.BoolLemmas.{if_true, if_false}
use Rattle.bridge_rules.proofs.OptionLemmas.{and_first}
use Rattle.bridge_terms.specs.Gathering.{is_none, is_run}
use Rattle.bridge_terms.specs.Parts.{pieces_of}
use Rattle.bridge_terms.specs.Plans.{Plan, Repeat}
use Rattle.bridge_terms.specs.WayBack.{Refusal, count_read, first, group_wrong, misgrouped, or_else, run_wrong, text_wrong, unreadable, wrong_at}
use Rattle.text_values.specs.declared.row.TextValue.{TextValue}
use Rattle.text_values.specs.Rows.{Reads}
use Rattle.field_judge.specs.declared.field.AppField.{AppField}
use Rattle.field_judge.specs.declared.level.BackGroup.{BackGroup}
use Rattle.field_judge.specs.declared.level.BackLevel.{BackLevel}
use Rattle.field_judge.specs.declared.level.BackPart.TheVariants as part
use Rattle.field_judge.specs.declared.level.BackRow.{BackRow}
use Rattle.field_judge.specs.declared.refused.Refused.{Refused}
use Rattle.field_judge.specs.Fields.{fields_of, part_with}
use Rattle.field_judge.specs.Levels.{piece_wrong, IsLevel, IsNumbered, IsRowOf, of_slot, of_group}
use Rattle.field_judge.specs.Refusals.{refusal_of}
use Rattle.field_judge.proofs.Cutting.{piece_next, IsFront}

value_is : {v w : TextValue} → part.Value v ≡ part.Value w → v ≡ w
value_is h = cc

group_is : {b c : BackGroup} → part.Group b ≡ part.Group c → b ≡ c
group_is h = cc

not_both : {v : TextValue} {b : BackGroup} {Z : Type 0} → part.Value v ≡ part.Group b → Z
not_both h = absurd (never h)
  where
    never : {v : TextValue} {b : BackGroup} → part.Value v ≡ part.Group b → ⊥
    never k = cc

-- ---- parts

pub value_told : (levels : List BackLevel) (p : Plan) (r : BackRow) (v : TextValue) (text : List ℕ) (run : List Field) (told : Option Refusal) → IsRowOf levels p r → r.part ≡ part.Value v
    → ((rule : Rule) → Reads v rule → told ≡ text_wrong r.tag (value_by rule text)) → told ≡ wrong_at p (part_with r.tag text run)
value_told levels p r v text run told (of_slot s is wrong owned) here h =
    h s.rule (subst (λ w. Reads w s.rule) (value_is (sym is.is ∙ here)) is.reads) ∙ sym (wrong (part_with r.tag text run) refl)
value_told levels p r v text run told (of_group g inner b own is there level numbered wrong owned) here h = not_both (sym here ∙ is.is)

pub group_told : (levels : List BackLevel) (p : Plan) (r : BackRow) (b : BackGroup) (text : List ℕ) (run : List Field) (told : Option Refusal) → IsRowOf levels p r → r.part ≡ part.Group b
    → ((g : Repeat) (inner : Plan) (own : BackLevel) → b.delimiter ≡ g.delimiter → b.count ≡ g.count → slice_get levels b.level ≡ Some own → IsLevel levels inner own → IsNumbered inner
    → told ≡ group_wrong g (piece_wrong inner) (part_with r.tag text run) (count_read g.count (integer_of text)))
    → told ≡ wrong_at p (part_with r.tag text run)
group_told levels p r b text run told (of_slot s is wrong owned) here h = not_both (sym is.is ∙ here)
group_told levels p r b text run told (of_group g inner c own is there level numbered wrong owned) here h =
    let same : c ≡ b = group_is (sym is.is ∙ here) in
    h g inner own (ap (λ d. d.delimiter) (sym same) ∙ is.delimiter) (ap (λ d. d.count) (sym same) ∙ is.count) (ap (λ (d : BackGroup). slice_get levels d.level) (sym same) ∙ there) level numbered
    ∙ sym (wrong (part_with r.tag text run) refl)

-- ---- counts and runs

pub count_refused : (g : Repeat) (piece : List Field → Option Refusal) (leaf : LeafOf) (tag : ℕ) (text : List ℕ) (run : List Field) (r : Result ℕ V) (v : V) → leaf ≡ g.count
    → r ≡ count_read leaf (integer_of text) → r ≡ Err v → Some (unreadable tag v) ≡ group_wrong g piece (part_with tag text run) (count_read g.count (integer_of text))
count_refused g piece leaf tag text run r v same read is =
    ap (group_wrong g piece (part_with tag text run)) (sym is ∙ read ∙ ap (λ l. count_read l (integer_of text)) same)

counted : (g : Repeat) (piece : List Field → Option Refusal) (leaf : LeafOf) (d tag : ℕ) (text : List ℕ) (run : List Field) (r : Result ℕ V) (n : ℕ) → leaf ≡ g.count → d ≡ g.delimiter
    → r ≡ count_read leaf (integer_of text) → r ≡ Ok n → run_wrong tag piece n (pieces_of d run) ≡ group_wrong g piece (part_with tag text run) (count_read g.count (integer_of text))
counted g piece leaf d tag text run r n same begins read is =
    ap (λ e. run_wrong tag piece n (pieces_of e run)) begins
    ∙ ap (group_wrong g piece (part_with tag text run)) (sym is ∙ read ∙ ap (λ l. count_read l (integer_of text)) same)

pub run_refused : (g : Repeat) (piece : List Field → Option Refusal) (leaf : LeafOf) (d tag : ℕ) (text : List ℕ) (run : List Field) (r : Result ℕ V) (n : ℕ) → leaf ≡ g.count → d ≡ g.delimiter
    → r ≡ count_read leaf (integer_of text) → r ≡ Ok n → is_run n (pieces_of d run) ≡ false
    → Some (misgrouped tag) ≡ group_wrong g piece (part_with tag text run) (count_read g.count (integer_of text))
run_refused g piece leaf d tag text run r n same begins read is other =
    sym (if_false (is_run n (pieces_of d run)) (first piece (pieces_of d run).pieces) (Some (misgrouped tag)) other)
    ∙ counted g piece leaf d tag text run r n same begins read is

pub run_told : (g : Repeat) (piece : List Field → Option Refusal) (leaf : LeafOf) (d tag : ℕ) (text : List ℕ) (run : List Field) (r : Result ℕ V) (n : ℕ) (told : Option Refusal) → leaf ≡ g.count → d ≡ g.delimiter
    → r ≡ count_read leaf (integer_of text) → r ≡ Ok n → is_run n (pieces_of d run) ≡ true → told ≡ first piece (pieces_of d run).pieces
    → told ≡ group_wrong g piece (part_with tag text run) (count_read g.count (integer_of text))
run_told g piece leaf d tag text run r n told same begins read is fine h =
    h ∙ sym (if_true (is_run n (pieces_of d run)) (first piece (pieces_of d run).pieces) (Some (misgrouped tag)) fine)
    ∙ counted g piece leaf d tag text run r n same begins read is

-- a run that has pieces begins with one
pub run_begins : (d n : ℕ) (run : List Field) → is_run n (pieces_of d run) ≡ true → (pieces_of d run).front ≡ []
run_begins d n run h = none_is (pieces_of d run).front (and_first (is_none (pieces_of d run).front) _ h)
  where
    none_is : (fs : List Field) → is_none fs ≡ true → fs ≡ []
    none_is [] k = refl
    none_is (f ∷ fs) k = absurd (never k)
      where
        never : false ≡ true → ⊥
        never e = cc

-- the test of a run, by how many fields are before the first delimiter and how many pieces there are
pub run_test : (d n k count : ℕ) (run : List AppField) → (pieces_of d (fields_of run)).front ≡ fields_of (take k run) → k ≤ length run → count ≡ length (pieces_of d (fields_of run)).pieces
    → (k == 0) && (count == n) ≡ is_run n (pieces_of d (fields_of run))
run_test d n k count run front within many =
    ap (λ c. (k == 0) && (c == n)) many
    ∙ ap (λ b. b && nat_eq (length (pieces_of d (fields_of run)).pieces) n) (begins k run within ∙ ap is_none (sym front))
  where
    begins : (k : ℕ) (run : List AppField) → k ≤ length run → (k == 0) ≡ is_none (fields_of (take k run))
    begins zero run h = refl
    begins (suc k) [] h = absurd (none h)
      where
        none : suc k ≤ 0 → ⊥
        none e = omega (arith, e)
    begins (suc k) (x ∷ xs) h = some k
      where
        some : (k : ℕ) → (suc k == 0) ≡ false
        some k = grind (arith, nat_tests)

-- ---- pieces

pub drop_both : {X : Type 0} (n : ℕ) (xs : List X) → drop n (drop 1 xs) ≡ drop (1 + n) xs
drop_both n [] = none n ∙ sym (none (1 + n))
  where
    none : {X : Type 0} (k : ℕ) → ◌≡◌ {A = List X} (drop k []) []
    none zero = refl
    none (suc k) = refl
drop_both n (x ∷ xs) = ap (λ k. drop k (x ∷ xs)) (next n)
  where
    next : (n : ℕ) → suc n ≡ 1 + n
    next n = omega arith

-- what is told of the first piece, and then of the others
pub pieces_step : (d : ℕ) (piece : List Field → Option Refusal) (left : List AppField) (x : AppField) (n : ℕ) (told : Option Refusal) → slice_get left 0 ≡ Some x → (pieces_of d (fields_of left)).front ≡ []
    → IsFront d (drop 1 left) n → told ≡ piece (fields_of (take (1 + n) left))
    → first piece (pieces_of d (fields_of left)).pieces ≡ or_else told (first piece (pieces_of d (fields_of (drop (1 + n) left))).pieces)
pieces_step d piece left x n told at front is h =
    ap (first piece) (piece_next d left x n at front is)
    ∙ ap (λ o. or_else o (first piece (pieces_of d (fields_of (drop (1 + n) left))).pieces)) (sym h)

pub told_some : (told : Option Refused) (r : Refused) (more : Option Refusal) → told ≡ Some r → or_else (option_map refusal_of told) more ≡ Some (refusal_of r)
told_some told r more h = ap (λ o. or_else (option_map refusal_of o) more) h

pub told_none : (told : Option Refused) (more : Option Refusal) → told ≡ None → or_else (option_map refusal_of told) more ≡ more
told_none told more h = ap (λ o. or_else (option_map refusal_of o) more) h

-- the level that was found is the one that is there
pub level_is : (found : Option BackLevel) (own : BackLevel) (h : BackLevel) → found ≡ Some h → MatchOption found ⊥ (λ level. level ≡ own) → h ≡ own
level_is None own h is m = absurd (never is)
  where
    never : ◌≡◌ {A = Option BackLevel} None (Some h) → ⊥
    never k = cc
level_is (Some l) own h is m = sym (same is) ∙ m
  where
    same : {a b : BackLevel} → ◌≡◌ {A = Option BackLevel} (Some a) (Some b) → a ≡ b
    same k = cc

pub if_ok : {X E : Type 0} (r : Result X E) (P Q : X → Type 0) → ((x : X) → P x → Q x) → IfOk r P → IfOk r Q
if_ok (Ok x) P Q step h = step x h
if_ok (Err e) P Q step h = tt
