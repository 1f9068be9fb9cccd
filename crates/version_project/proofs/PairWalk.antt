-- The walk over old parts and new ones.
use Rattle.std.proofs.Common.{◌≡◌, ◌≤◌, ◌<◌, ℕ, ◌+◌, Bool, true, false, cond, List, [], ◌∷◌, length, drop, get_or, Option, Some, None, refl, sym, ap, ◌∙◌, subst}
use Rattle.std.proofs.lemmas.List.{drop_all}
use Rattle.std.specs.Prelude.{slice_get}
use denote.Hole.Carrier as carrier
use Rattle.sbe_types.specs.declared.schema.Level as levels
use Rattle.sbe_types.specs.declared.schema.Group as groups_of
use Rattle.sbe_types.specs.declared.schema.DataField.{DataField}
use Rattle.sbe_types.specs.declared.schema.Group.{Group, Group', out-Group}
use Rattle.sbe_types.specs.declared.schema.Level.{Level, Level', out-Level, Row_of-Group, end_of-Group, more_of-Group, items-the_row-Group, items_shown-the_row-Group-0}
use Rattle.version_laws.specs.declared.difference.Difference.{Difference}
use Rattle.version_laws.specs.declared.difference.Reason.{Reason}
use Rattle.version_laws.specs.declared.difference.Reason.TheVariants as reason
use Rattle.version_laws.specs.Differ.{differs, or_else, unless_for, in_part, is_old, group_name, group_since, group_reason, data_reason, no_fields, fields_differ, parts_differ, level_differs, groups_differ, group_differs}
use Rattle.version_project.specs.Paired.{paired, group_compare, groups_compare, data_compare, parts_compare}
use Rattle.version_project.proofs.Items.{drop_at, item_at}
use Rattle.version_project.proofs.OldParts.{name_is}

module _ {P : Type 0} (known : P → Bool) (name : P → List ℕ) (compare : P → P → Option Difference) where
  abbrev found : List P → List P → Option Difference
  found olds news = paired known name compare olds news

  both_walk : (olds news : List P) (i j : ℕ) (f g : P) → slice_get olds i ≡ Some f → drop j news ≡ g ∷ drop (j + 1) news → known g ≡ true →
      found (drop i olds) (drop j news) ≡ or_else (compare f g) (found (drop (i + 1) olds) (drop (j + 1) news))
  both_walk olds news i j f g a b old =
      let front : drop i olds ≡ f ∷ drop (i + 1) olds = drop_at olds i f a in
      ap (λ l. found l (drop j news)) front ∙ ap (found (f ∷ drop (i + 1) olds)) b
      ∙ ap (λ t. cond t (or_else (compare f g) (found (drop (i + 1) olds) (drop (j + 1) news))) (found (f ∷ drop (i + 1) olds) (drop (j + 1) news))) old

  skip : (xs : List P) (g : P) (gs : List P) → known g ≡ false → found xs (g ∷ gs) ≡ found xs gs
  skip [] g gs h = ap (λ t. cond t (differs (name g) reason.Part) (found [] gs)) h
  skip (f ∷ fs) g gs h = ap (λ t. cond t (or_else (compare f g) (found fs gs)) (found (f ∷ fs) gs)) h

  pub kept_goes_on : (olds news zs : List P) (i j : ℕ) (f g : P) → zs ≡ news → j < length zs → g ≡ get_or zs j g → slice_get olds i ≡ Some f → known g ≡ true → None ≡ compare f g →
      found (drop i olds) (drop j news) ≡ found olds news → found (drop (i + 1) olds) (drop (j + 1) news) ≡ found olds news
  kept_goes_on olds news zs i j f g same h at is old e so_far =
      sym (both_walk olds news i j f g is (item_at news zs j g same h at) old ∙ ap (λ d. or_else d (found (drop (i + 1) olds) (drop (j + 1) news))) (sym e)) ∙ so_far

  pub kept_stops : (olds news zs : List P) (i j : ℕ) (f g : P) (d : Difference) → zs ≡ news → j < length zs → g ≡ get_or zs j g → slice_get olds i ≡ Some f → known g ≡ true → Some d ≡ compare f g →
      found (drop i olds) (drop j news) ≡ found olds news → Some d ≡ found olds news
  kept_stops olds news zs i j f g d same h at is old e so_far =
      sym (both_walk olds news i j f g is (item_at news zs j g same h at) old ∙ ap (λ d. or_else d (found (drop (i + 1) olds) (drop (j + 1) news))) (sym e)) ∙ so_far

  pub added_goes_on : (olds news zs : List P) (i j : ℕ) (g : P) → zs ≡ news → j < length zs → g ≡ get_or zs j g → known g ≡ false →
      found (drop i olds) (drop j news) ≡ found olds news → found (drop i olds) (drop (j + 1) news) ≡ found olds news
  added_goes_on olds news zs i j g same h at old so_far =
      sym (ap (found (drop i olds)) (item_at news zs j g same h at) ∙ skip (drop i olds) g (drop (j + 1) news) old) ∙ so_far

  pub missing : (olds news zs : List P) (i j : ℕ) (f : P) → zs ≡ news → slice_get olds i ≡ Some f → length zs ≤ j →
      found (drop i olds) (drop j news) ≡ found olds news → differs (name f) reason.Part ≡ found olds news
  missing olds news zs i j f same is end so_far =
      let front : drop i olds ≡ f ∷ drop (i + 1) olds = drop_at olds i f is in
      sym (ap (λ l. found l (drop j news)) front ∙ ap (found (f ∷ drop (i + 1) olds)) (drop_all j news (subst (λ zs. length zs ≤ j) same end))) ∙ so_far

-- ---- groups and levels

else_unless : (n : List ℕ) (r : Option Reason) (d more : Option Difference) → unless_for n r (or_else d more) ≡ or_else (unless_for n r d) more
else_unless n None d more = refl
else_unless n (Some r) d more = refl

parts_found : (version : ℕ) (olds news : List DataField) → parts_differ version olds news ≡ parts_compare version olds news
parts_found version [] [] = refl
parts_found version (f ∷ fs) [] = refl
parts_found version [] (g ∷ gs) = ap (λ m. cond (is_old version g.since) (differs g.name reason.Part) m) (parts_found version [] gs)
parts_found version (f ∷ fs) (g ∷ gs) =
    ap (λ m. cond (is_old version g.since) m (parts_differ version (f ∷ fs) gs))
    (else_unless f.name (data_reason f g) None (parts_differ version fs gs) ∙ ap (or_else (data_compare f g)) (parts_found version fs gs))
    ∙ ap (λ m. cond (is_old version g.since) (or_else (data_compare f g) (parts_compare version fs gs)) m) (parts_found version (f ∷ fs) gs)

pub data_stops : (f g : DataField) (r : Option Reason) (why : Reason) → r ≡ data_reason f g → r ≡ Some why → differs f.name why ≡ data_compare f g
data_stops f g r why is some = ap (λ r. unless_for f.name r None) (sym some ∙ is)

pub data_passes : (f g : DataField) (r : Option Reason) → r ≡ data_reason f g → r ≡ None → None ≡ data_compare f g
data_passes f g r is none = ap (λ r. unless_for f.name r None) (sym none ∙ is)

rows_found : (version : ℕ) (more : Bool) {n : _} (olds : Row_of-Group n) {k : _} (news : Row_of-Group k) → groups_differ version more olds news ≡ groups_compare version more (items-the_row-Group _ olds) (items-the_row-Group _ news)
unfolding groups_differ
rows_found version more end_of-Group end_of-Group = refl
rows_found version more (more_of-Group f fs) end_of-Group = refl
rows_found version more end_of-Group (more_of-Group g gs) = ap (λ m. cond (is_old version (group_since g)) (differs (group_name g) reason.Part) m) (rows_found version more end_of-Group gs)
rows_found version more (more_of-Group f fs) (more_of-Group g gs) =
    ap (λ m. cond (is_old version (group_since g)) m (groups_differ version more (more_of-Group f fs) gs))
    (else_unless (group_name f) (group_reason f g) (in_part (group_name f) (group_differs version more f g)) (groups_differ version more fs gs) ∙ ap (or_else (group_compare version more f g)) (rows_found version more fs gs))
    ∙ ap (λ m. cond (is_old version (group_since g)) (or_else (group_compare version more f g) (groups_compare version more (items-the_row-Group _ fs) (items-the_row-Group _ gs))) m) (rows_found version more (more_of-Group f fs) gs)

pub level_opens : (version : ℕ) (more : Bool) (old new : Level) →
    level_differs version more old new ≡ or_else (fields_differ version more no_fields (out-Level old).fields (out-Level new).fields)
    (or_else (groups_compare version more (out-Level old).groups (out-Level new).groups) (parts_compare version (out-Level old).parts (out-Level new).parts))
unfolding level_differs levels.out-Level carrier.out
level_opens version more (Level' _ _ _ _ _ fs m os ps) (Level' _ _ _ _ _ gs n ns qs) =
    ap (λ d. or_else (fields_differ version more no_fields fs gs) (or_else d (parts_differ version ps qs)))
    (rows_found version more os ns ∙ ap (λ l. groups_compare version more l (items-the_row-Group _ ns)) (sym (items_shown-the_row-Group-0 m os))
    ∙ ap (λ l. groups_compare version more (out-Level (Level' [] 0 [] 0 0 [] m os [])).groups l) (sym (items_shown-the_row-Group-0 n ns)))
    ∙ ap (λ d. or_else (fields_differ version more no_fields fs gs) (or_else (groups_compare version more (out-Level (Level' [] 0 [] 0 0 [] m os [])).groups (out-Level (Level' [] 0 [] 0 0 [] n ns [])).groups) d)) (parts_found version ps qs)

pub group_opens : (version : ℕ) (more : Bool) (f g : Group) →
    group_compare version more f g ≡ unless_for (out-Level (out-Group f).level).name (group_reason f g) (in_part (out-Level (out-Group f).level).name (level_differs version more (out-Group f).level (out-Group g).level))
unfolding group_differs groups_of.out-Group carrier.out
group_opens version more (Group' od old) (Group' dim level) = refl

pub fields_tell : (version : ℕ) (more : Bool) (old new : Level) (d : Difference) (x : Option Difference) → x ≡ fields_differ version more no_fields (out-Level old).fields (out-Level new).fields → x ≡ Some d → Some d ≡ level_differs version more old new
fields_tell version more old new d x a h =
    sym (level_opens version more old new ∙ ap (λ x. or_else x (or_else (groups_compare version more (out-Level old).groups (out-Level new).groups) (parts_compare version (out-Level old).parts (out-Level new).parts))) (sym a ∙ h))

pub groups_tell : (version : ℕ) (more : Bool) (old new : Level) (d : Difference) (x y : Option Difference) → x ≡ fields_differ version more no_fields (out-Level old).fields (out-Level new).fields → x ≡ None →
    y ≡ groups_compare version more (out-Level old).groups (out-Level new).groups → y ≡ Some d → Some d ≡ level_differs version more old new
groups_tell version more old new d x y a none b h =
    sym (level_opens version more old new ∙ ap (λ x. or_else x (or_else (groups_compare version more (out-Level old).groups (out-Level new).groups) (parts_compare version (out-Level old).parts (out-Level new).parts))) (sym a ∙ none)
    ∙ ap (λ y. or_else y (parts_compare version (out-Level old).parts (out-Level new).parts)) (sym b ∙ h))

pub parts_tell : (version : ℕ) (more : Bool) (old new : Level) (x y : Option Difference) → x ≡ fields_differ version more no_fields (out-Level old).fields (out-Level new).fields → x ≡ None →
    y ≡ groups_compare version more (out-Level old).groups (out-Level new).groups → y ≡ None → parts_compare version (out-Level old).parts (out-Level new).parts ≡ level_differs version more old new
parts_tell version more old new x y a none b end =
    sym (level_opens version more old new ∙ ap (λ x. or_else x (or_else (groups_compare version more (out-Level old).groups (out-Level new).groups) (parts_compare version (out-Level old).parts (out-Level new).parts))) (sym a ∙ none)
    ∙ ap (λ y. or_else y (parts_compare version (out-Level old).parts (out-Level new).parts)) (sym b ∙ end))

pub group_ends : (version : ℕ) (more : Bool) (f g : Group) (r : Option Reason) (x d : Option Difference) → r ≡ group_reason f g → r ≡ None → x ≡ level_differs version more (out-Group f).level (out-Group g).level →
    d ≡ in_part (out-Level (out-Group f).level).name x → d ≡ group_compare version more f g
group_ends version more f g r x d a none b e =
    e ∙ ap (in_part (out-Level (out-Group f).level).name) b
    ∙ sym (group_opens version more f g ∙ ap (λ r. unless_for (out-Level (out-Group f).level).name r (in_part (out-Level (out-Group f).level).name (level_differs version more (out-Group f).level (out-Group g).level))) (sym a ∙ none))

pub differs_named : (g : Group) → differs (out-Level (out-Group g).level).name reason.Part ≡ differs (group_name g) reason.Part
differs_named g = ap (λ n. differs n reason.Part) (sym (name_is g))
