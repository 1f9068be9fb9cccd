-- Fields that were put one after another are cut into the parts and pieces that they were.
use Rattle.std.proofs.Common.{◌≡◌, ℕ, Bool, true, false, List, [], ◌∷◌, ◌++◌, refl, ap, ◌∙◌}
use Rattle.std.specs.Prelude.{⊤, ◌==◌}
use Rattle.std.proofs.lemmas.List.{append-nil}
use Rattle.bridge_terms.specs.Plans.{Each}
use Rattle.tagvalue_codec.specs.Fields.{Field}
use Rattle.bridge_terms.specs.Parts.{Part, Pieces, in_run, of_part, cut_after, parts_of, fields_in, in_piece, of_piece, pieces_of}
use Rattle.bridge_rules.proofs.BoolLemmas.{if_true, if_false}

-- the owner has these fields
abbrev pub Owned : (ℕ → ℕ → Bool) → ℕ → List Field → Type 0
Owned owned owner fs = Each (λ f. owned owner f.tag ≡ true) fs

-- parts after one with that tag: no part is owned by the one before it, and each has its run
abbrev pub Behind : (ℕ → ℕ → Bool) → ℕ → List Part → Type 0
Behind owned owner [] = ⊤
Behind owned owner (x ∷ xs) = (owned owner x.tag ≡ false) × Owned owned x.tag x.run × Behind owned x.tag xs

cut_run : (owned : ℕ → ℕ → Bool) (owner : ℕ) (run more : List Field) (parts : List Part) → Owned owned owner run →
    cut_after owned owner more ≡ record { run = []; parts = parts } → cut_after owned owner (run ++ more) ≡ record { run = run; parts = parts }
cut_run owned owner [] more parts has h = h
cut_run owned owner (f ∷ fs) more parts has h =
    if_true (owned owner f.tag) (in_run f (cut_after owned owner (fs ++ more))) (of_part f (cut_after owned f.tag (fs ++ more))) has.0
    ∙ ap (in_run f) (cut_run owned owner fs more parts has.1 h)

cut_parts : (owned : ℕ → ℕ → Bool) (owner : ℕ) (parts : List Part) → Behind owned owner parts → cut_after owned owner (fields_in parts) ≡ record { run = []; parts = parts }
cut_parts owned owner [] after = refl
cut_parts owned owner (x ∷ xs) after =
    if_false (owned owner x.tag) (in_run (record { tag = x.tag; value = x.text }) (cut_after owned owner (x.run ++ fields_in xs))) (of_part (record { tag = x.tag; value = x.text }) (cut_after owned x.tag (x.run ++ fields_in xs))) after.0
    ∙ ap (of_part (record { tag = x.tag; value = x.text })) (cut_run owned x.tag x.run (fields_in xs) xs after.1 (cut_parts owned x.tag xs after.2))

pub parts_back : (owned : ℕ → ℕ → Bool) (parts : List Part) → Behind owned 0 parts → parts_of owned (fields_in parts) ≡ parts
parts_back owned parts after = ap (λ c. c.parts) (cut_parts owned 0 parts after)

-- ---- pieces

-- the fields of pieces
abbrev pub all_fields : List (List Field) → List Field
all_fields [] = []
all_fields (p ∷ ps) = p ++ all_fields ps

-- the delimiter begins the piece, and is nowhere else in it
abbrev pub IsPiece : ℕ → List Field → Type 0
IsPiece delimiter [] = ⊥
IsPiece delimiter (f ∷ fs) = ((f.tag == delimiter) ≡ true) × Each (λ g. (g.tag == delimiter) ≡ false) fs

passed : (delimiter : ℕ) (fs more : List Field) → Each (λ g. (g.tag == delimiter) ≡ false) fs →
    pieces_of delimiter (fs ++ more) ≡ record { front = fs ++ (pieces_of delimiter more).front; pieces = (pieces_of delimiter more).pieces }
passed delimiter [] more none = refl
passed delimiter (f ∷ fs) more none =
    if_false (f.tag == delimiter) (of_piece f (pieces_of delimiter (fs ++ more))) (in_piece f (pieces_of delimiter (fs ++ more))) none.0
    ∙ ap (in_piece f) (passed delimiter fs more none.1)

pub pieces_back : (delimiter : ℕ) (ps : List (List Field)) → Each (IsPiece delimiter) ps → pieces_of delimiter (all_fields ps) ≡ record { front = []; pieces = ps }
pieces_back delimiter [] all = refl
pieces_back delimiter ([] ∷ ps) all = absurd all.0
pieces_back delimiter ((f ∷ fs) ∷ ps) all =
    if_true (f.tag == delimiter) (of_piece f (pieces_of delimiter (fs ++ all_fields ps))) (in_piece f (pieces_of delimiter (fs ++ all_fields ps))) all.0.0
    ∙ ap (of_piece f) (passed delimiter fs (all_fields ps) all.0.1)
    ∙ ap (λ (p : Pieces). with_front p) (pieces_back delimiter ps all.1)
    ∙ ap (λ front. record { front = []; pieces = (f ∷ front) ∷ ps }) (append-nil fs)
  where
    with_front : Pieces → Pieces
    with_front p = record { front = []; pieces = (f ∷ (fs ++ p.front)) ∷ p.pieces }
