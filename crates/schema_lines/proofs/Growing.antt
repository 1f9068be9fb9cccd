-- Texts that are put one after another, and counts over the groups of a level.
use Rattle.std.proofs.Common.{◌≡◌, ◌≤◌, ◌<◌, ℕ, zero, suc, ◌+◌, List, [], ◌∷◌, ◌++◌, length, take, get_or, refl, sym, ap, ◌∙◌, arith, append_assoc}
use Rattle.std.specs.Prelude.{Result, Ok, Err, OnOk, flat_map, sum_by}
use Rattle.std.proofs.lemmas.List.{append-nil}
use Rattle.std.proofs.lemmas.List.Concat.{flat_map-append}
use Rattle.std.proofs.lemmas.List.Sums.{sum_by-cons, sum_by_more}
use denote.Hole.Carrier as carrier
use Rattle.sbe_types.specs.declared.schema.Level as levels
use Rattle.sbe_types.specs.declared.schema.Group as groups_of
use Rattle.sbe_types.specs.declared.schema.Group.{Group, Group', out-Group}
use Rattle.sbe_types.specs.declared.schema.Level.{Level, Level', out-Level, Row_of-Group, end_of-Group, more_of-Group, items-the_row-Group, items_shown-the_row-Group-0}
use Rattle.schema_lines.specs.Texts.{Puts}
use Rattle.schema_lines.specs.Counts.{groups_in, groups_among, groups_with, parts_in, parts_among, parts_with}

-- ---- texts

then_grown : {E : Type 0} (result : Result (Unit {0}) E) (old mid new x y : List ℕ) → mid ≡ old ++ x → OnOk result (new ≡ mid ++ y) → OnOk result (new ≡ old ++ (x ++ y))
then_grown (Ok u) old mid new x y h k = k ∙ ap (λ z. z ++ y) h ∙ append_assoc old x y
then_grown (Err e) old mid new x y h k = tt

-- one text, and then those after it
pub then_put : {E : Type 0} {result : Result (Unit {0}) E} {u : Unit {0}} {old mid new x y : List ℕ} → Puts {E = E} (Ok u) old mid x → Puts result mid new y → Puts result old new (x ++ y)
then_put h k = record { grown = then_grown _ _ _ _ _ _ h.grown k.grown }

pub take_one : {X : Type 0} (xs : List X) (i : ℕ) (x : X) → i < length xs → x ≡ get_or xs i x → take (i + 1) xs ≡ take i xs ++ x ∷ []
take_one [] i x h is = absurd (omega arith)
take_one (y ∷ xs) zero x h is = ap (λ z. z ∷ []) (sym is)
take_one (y ∷ xs) (suc i) x h is =
    let next : suc i + 1 ≡ suc (i + 1) = omega arith in
    ap (λ m. take m (y ∷ xs)) next ∙ ap (λ l. y ∷ l) (take_one xs i x (omega arith) is)

-- the texts of some items, and that of the next
pub texts_more : {X : Type 0} (text : X → List ℕ) (xs : List X) (i : ℕ) (x : X) (start old new : List ℕ) → i < length xs → x ≡ get_or xs i x →
    old ≡ start ++ flat_map text (take i xs) → new ≡ old ++ text x → new ≡ start ++ flat_map text (take (i + 1) xs)
texts_more text xs i x start old new h is so_far put =
    put ∙ ap (λ z. z ++ text x) so_far ∙ append_assoc start (flat_map text (take i xs)) (text x)
    ∙ ap (λ z. start ++ z) (ap (λ z. flat_map text (take i xs) ++ z) (sym (append-nil (text x))) ∙ sym (flat_map-append text (take i xs) (x ∷ [])) ∙ ap (flat_map text) (sym (take_one xs i x h is)))

-- ---- counts

mutual
  unfolding groups_among groups_with parts_among parts_with

  groups_summed : {n : _} (row : Row_of-Group n) → groups_among row ≡ sum_by groups_with (items-the_row-Group n row)
  groups_summed end_of-Group = refl
  groups_summed (more_of-Group group rest) = ap (λ m. groups_with group + m) (groups_summed rest) ∙ sym (sum_by-cons groups_with group (items-the_row-Group _ rest))

  parts_summed : {n : _} (row : Row_of-Group n) → parts_among row ≡ sum_by parts_with (items-the_row-Group n row)
  parts_summed end_of-Group = refl
  parts_summed (more_of-Group group rest) = ap (λ m. parts_with group + m) (parts_summed rest) ∙ sym (sum_by-cons parts_with group (items-the_row-Group _ rest))

pub groups_open : (level : Level) → groups_in level ≡ sum_by groups_with (out-Level level).groups
unfolding groups_in levels.out-Level carrier.out
groups_open (Level' name id semantic since block_length fields n groups parts) =
    groups_summed groups ∙ ap (sum_by groups_with) (sym (items_shown-the_row-Group-0 n groups))

pub parts_open : (level : Level) → parts_in level ≡ sum_by parts_with (out-Level level).groups + length (out-Level level).parts
unfolding parts_in levels.out-Level carrier.out
parts_open (Level' name id semantic since block_length fields n groups parts) =
    ap (λ m. m + length parts) (parts_summed groups ∙ ap (sum_by parts_with) (sym (items_shown-the_row-Group-0 n groups)))

-- a group counts itself, and all that is in its entries
pub group_open : (group : Group) → groups_with group ≡ groups_in (out-Group group).level + 1
unfolding groups_with groups_of.out-Group carrier.out
group_open (Group' dim level) = omega arith

pub group_parts : (group : Group) → parts_with group ≡ parts_in (out-Group group).level
unfolding parts_with groups_of.out-Group carrier.out
group_parts (Group' dim level) = refl

-- one more group
module _ (groups : List Group) (i : ℕ) (group : Group) (within : i < length groups) (is : group ≡ get_or groups i group) where
  pub groups_more : (before inner after : ℕ) → before ≡ sum_by groups_with (take i groups) → inner ≡ groups_in (out-Group group).level → after ≡ before + (inner + 1) → after ≡ sum_by groups_with (take (i + 1) groups)
  groups_more before inner after so_far counted all =
      omega (arith, sum_by_more groups_with groups i group within, ap groups_with is, group_open group, so_far, counted, all)

  pub parts_more : (before inner after : ℕ) → before ≡ sum_by parts_with (take i groups) → inner ≡ parts_in (out-Group group).level → after ≡ before + inner → after ≡ sum_by parts_with (take (i + 1) groups)
  parts_more before inner after so_far counted all =
      omega (arith, sum_by_more parts_with groups i group within, ap parts_with is, group_parts group, so_far, counted, all)
