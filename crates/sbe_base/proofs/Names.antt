-- Files that are looked up and put by their names.
use Rattle.std.proofs.Common.{◌≡◌, ◌≢◌, ℕ, suc, zero, ◌+◌, ◌<◌, ◌≤◌, Bool, true, false, not, cond, List, [], ◌∷◌, ◌++◌, length, get_or, slice_get, slice_set, Option, Some, None, unwrap_or, option_map, find, position, nat_lt, refl, sym, ap, subst, ◌∙◌, arith, bytes_eq}
use Rattle.std.specs.List.{position_or_len}
use Rattle.std.specs.Option.{option_or}
use Rattle.std.proofs.lemmas.Bool.Decides.{nat_tests}
use Rattle.std.proofs.lemmas.List.Folds.{find_at, find-set, find_past, find-append}
use Rattle.std.proofs.lemmas.Option.{slice_get-get_or, slice_get_past}
use Rattle.std.proofs.lemmas.Slice.Eq.{bytes_eq-Decides}
use Rattle.sbe_base.specs.Memory.{found, FilesState, Replaces}
use Rattle.sbe_base.specs.declared.mem_files.MemFile.{MemFile}

module _ {X : Type 0} (p : X → Bool) where
  -- the place that a search tells is the first one that passes
  pub place_is : (xs : List X) (i : ℕ) → position p xs ≡ Some i → (i ≡ position_or_len p xs) × (i < length xs)
  place_is xs i told = by (nat_lt (position_or_len p xs) (length xs)) refl told
    where
      by : (b : Bool) → nat_lt (position_or_len p xs) (length xs) ≡ b → cond b (Some (position_or_len p xs)) None ≡ Some i → (i ≡ position_or_len p xs) × (i < length xs)
      by true lt h = let e : position_or_len p xs ≡ i = ap (λ o. unwrap_or o i) h in (sym e, grind (arith, nat_tests))
      by false lt h = cc

  -- where no place is told, none passes
  pub nowhere : (xs : List X) → position p xs ≡ None → find p xs ≡ None
  nowhere xs told = by (nat_lt (position_or_len p xs) (length xs)) refl told
    where
      by : (b : Bool) → nat_lt (position_or_len p xs) (length xs) ≡ b → cond b (Some (position_or_len p xs)) None ≡ None → find p xs ≡ None
      by true lt h = cc
      by false lt h = let past : length xs ≤ position_or_len p xs = grind (arith, nat_tests) in find_at p xs ∙ slice_get_past xs _ past

  passes_there : (xs : List X) (i : ℕ) (d : X) → i ≡ position_or_len p xs → i < length xs → p (get_or xs i d) ≡ true
  passes_there [] i d e h = absurd (omega arith)
  passes_there (x ∷ xs) zero d e h = by (p x) e
    where
      by : (b : Bool) → 0 ≡ cond (not b) (1 + position_or_len p xs) 0 → b ≡ true
      by true k = refl
      by false k = absurd (omega arith)
  passes_there (x ∷ xs) (suc i) d e h = by (p x) e (λ k. passes_there xs i d k (omega arith))
    where
      by : (b : Bool) → suc i ≡ cond (not b) (1 + position_or_len p xs) 0 → (i ≡ position_or_len p xs → p (get_or xs i d) ≡ true) → p (get_or xs i d) ≡ true
      by true k rest = absurd (omega arith)
      by false k rest = rest (omega arith)

  -- an item that a search found passes
  pub passes : (xs : List X) (i : ℕ) (x : X) → position p xs ≡ Some i → x ≡ get_or xs i x → p x ≡ true
  passes xs i x told at =
      let place = place_is xs i told in
      subst (λ y. p y ≡ true) (sym at) (passes_there xs i x place.0 place.1)

or_none : {X : Type 0} (o : Option X) → option_or o None ≡ o
or_none None = refl
or_none (Some x) = refl

abbrev named : List ℕ → MemFile → Bool
named name file = bytes_eq file.name name

differs : (a b : List ℕ) → a ≢ b → bytes_eq a b ≡ false
differs a b apart = by (bytes_eq a b) (bytes_eq-Decides a b).0
  where
    by : (t : Bool) → (t ≡ true → a ≡ b) → t ≡ false
    by true h = absurd (apart (h refl))
    by false h = refl

-- what a search told, in the words of the name and the files
pub told_of : (name n : List ℕ) (files fs : List MemFile) (place : Option ℕ) → n ≡ name → fs ≡ files → place ≡ position (named n) fs → position (named name) files ≡ place
told_of name n files fs place e f told = sym (told ∙ ap (λ m. position (named m) fs) e ∙ ap (λ l. position (named name) l) f)

-- the file at the place that a search told has the bytes that are found
pub found_there : (name : List ℕ) (files : List MemFile) (i : ℕ) (file : MemFile) → position (named name) files ≡ Some i → file ≡ get_or files i file → found name files ≡ Some file.bytes
found_there name files i file told at =
    let place = place_is (named name) files i told in
    ap (λ o. option_map (λ f. f.bytes) o) (find_at (named name) files ∙ ap (λ k. slice_get files k) (sym place.0) ∙ slice_get-get_or files i file place.1 ∙ ap Some (sym at))

pub found_nowhere : (name : List ℕ) (files : List MemFile) → position (named name) files ≡ None → found name files ≡ None
found_nowhere name files told = ap (λ o. option_map (λ f. f.bytes) o) (nowhere (named name) files told)

-- a file that is put over the first one of its name
pub put_over : (old new : FilesState) (name bytes : List ℕ) (i : ℕ) (file : MemFile) → position (named name) old.files ≡ Some i → file ≡ get_or old.files i file → new.files ≡ slice_set old.files i (record { name = file.name; bytes = bytes }) → new.calls ≡ old.calls → Replaces old new name bytes
put_over old new name bytes i file told at put same =
    let fresh : MemFile = record { name = file.name; bytes = bytes } in
    let place = place_is (named name) old.files i told in
    let passed : bytes_eq file.name name ≡ true = passes (named name) old.files i file told at in
    let is_name : file.name ≡ name = (bytes_eq-Decides file.name name).0 passed in
    let missed : (other : List ℕ) → other ≢ name → bytes_eq file.name other ≡ false = λ other apart. differs file.name other (λ e. apart (sym e ∙ is_name)) in
    record {
      here = ap (λ files. found name files) put ∙ ap (λ o. option_map (λ f. f.bytes) o) (find-set (named name) old.files i fresh place.0 place.1 passed);
      elsewhere = λ other apart. ap (λ files. found other files) put ∙ ap (λ o. option_map (λ f. f.bytes) o) (find_past (named other) old.files i fresh file (ap (named other) (sym at) ∙ missed other apart) (missed other apart));
      calls = same;
    }

-- a file that is put after files of other names
pub put_behind : (old new : FilesState) (name bytes : List ℕ) → position (named name) old.files ≡ None → new.files ≡ old.files ++ (record { name = name; bytes = bytes }) ∷ [] → new.calls ≡ old.calls → Replaces old new name bytes
put_behind old new name bytes told put same =
    let fresh : MemFile = record { name = name; bytes = bytes } in
    let its_name : bytes_eq name name ≡ true = (bytes_eq-Decides name name).1 refl in
    record {
      here = ap (λ files. found name files) put ∙ ap (λ o. option_map (λ f. f.bytes) o) (find-append (named name) old.files (fresh ∷ []) ∙ ap (λ o. option_or o (find (named name) (fresh ∷ []))) (nowhere (named name) old.files told) ∙ ap (λ b. cond b (Some fresh) None) its_name);
      elsewhere = λ other apart. ap (λ files. found other files) put ∙ ap (λ o. option_map (λ f. f.bytes) o) (find-append (named other) old.files (fresh ∷ []) ∙ ap (λ b. option_or (find (named other) old.files) (cond b (Some fresh) None)) (differs name other (λ e. apart (sym e))) ∙ or_none (find (named other) old.files));
      calls = same;
    }
