-- The files of a dump: they are judged in one way, and what is judged in order is so.
use Rattle.std.proofs.Common.{◌≡◌, inl, inr, ℕ, suc, Bool, true, false, cond, List, [], ◌∷◌, ◌++◌, length, Option, Some, None, Result, Ok, Err, refl, sym, ap, ◌∙◌, subst}
use Rattle.std.specs.Prelude.{nat_lt}
use Rattle.std.specs.List.{AllByRecursion}
use Rattle.json_elements.specs.Reading.{Reading as Reads}
use Rattle.sbe_types.specs.declared.schema.WireSchema.{WireSchema}
use Rattle.sbe_types.specs.declared.tree.Schema.{Schema}
use Rattle.sbe_types.specs.InForm.{IsInForm}
use Rattle.sbe_schema.specs.Schemas.{schema_of}
use Rattle.sbe_schema.proofs.SchemaInForm.{file_yields}
use Rattle.schema_rules.specs.Judging.{CheckResult}
use Rattle.schema_rules.specs.Checked.{checked_of}
use Rattle.schema_facts.specs.IsChecked.{IsChecked}
use Rattle.schema_facts.proofs.WholeChecked.{schema_checked}
use Rattle.dump_lines.specs.Dumped.{AreInOrder}
use Rattle.dump_lines.specs.declared.schemas.Schemas.{Schemas}
use Rattle.schema_files.specs.FileChecks.{in_order, tree_in_order, schema_in, file_schema, refused_as, alone, with_one, is_taken, Joins, taken, same_id, form_differs, JoinsFrom, GoesOn, JudgesMore, JudgesSchemas}
use Rattle.schema_files.specs.declared.files.FileRefusal.{FileRefusal}
use Rattle.schema_files.specs.declared.files.FileRefusal.TheVariants.{TooLong, SameId, FormDiffers}
use Rattle.schema_files.specs.declared.files.FileRole.TheVariants as role
use Rattle.schema_files.specs.declared.files.FileRole.{FileRole}
use Rattle.schema_files.specs.declared.files.RefusedFile.{RefusedFile}
use Rattle.json_elements.specs.declared.file.TheConstants.{FILE_LIMIT}
use Rattle.schema_files.proofs.Forms.{form_decided}

-- ---- a file's schema is a checked one

tree_checked : (tree : Schema) (schema : WireSchema) → IsInForm tree → in_order (checked_of tree) ≡ Ok schema → IsChecked schema
tree_checked tree schema form h = schema_checked tree schema form (found (checked_of tree) h)
  where
    found : (r : CheckResult WireSchema) → in_order r ≡ Ok schema → r ≡ Ok schema
    found (Ok s) e = let same : s ≡ schema = cc in ap Ok same
    found (Err broken) e = cc

bytes_checked : (bytes : List ℕ) (schema : WireSchema) → schema_in bytes ≡ Ok schema → IsChecked schema
bytes_checked bytes schema h = by (schema_of bytes) refl h
  where
    by : (r : Reads Schema) → schema_of bytes ≡ r → tree_in_order r ≡ Ok schema → IsChecked schema
    by (Ok tree) e k = tree_checked tree schema (file_yields bytes tree e) k
    by (Err unread) e k = cc

pub file_checked : (file : Option (List ℕ)) (schema : WireSchema) → file_schema file ≡ Ok schema → IsChecked schema
file_checked None schema h = cc
file_checked (Some bytes) schema h = by (nat_lt FILE_LIMIT (length bytes)) h
  where
    by : (t : Bool) → cond t (Err TooLong) (schema_in bytes) ≡ Ok schema → IsChecked schema
    by true e = cc
    by false e = bytes_checked bytes schema e

-- ---- a further file is judged in one way

not_both : {b : Bool} → b ≡ true → b ≡ false → ⊥
not_both h k = cc

joins_once : (schemas : Schemas) (schema : WireSchema) (a b : Result WireSchema FileRefusal) → Joins schemas schema a → Joins schemas schema b → a ≡ b
joins_once schemas schema a b h k = elim h [
  | taken n f e ↦ elim k [ taken m g i ↦ e ∙ sym i | same_id m i ↦ absurd (not_both m n) | form_differs m g i ↦ absurd (g f) ]
  | same_id n e ↦ elim k [ taken m g i ↦ absurd (not_both n m) | same_id m i ↦ e ∙ sym i | form_differs m g i ↦ absurd (not_both n m) ]
  | form_differs n f e ↦ elim k [ taken m g i ↦ absurd (f g) | same_id m i ↦ absurd (not_both m n) | form_differs m g i ↦ e ∙ sym i ]
]

from_once : (schemas : Schemas) (file a b : Result WireSchema FileRefusal) → JoinsFrom schemas file a → JoinsFrom schemas file b → a ≡ b
from_once schemas (Ok schema) a b h k = joins_once schemas schema a b h k
from_once schemas (Err why) a b h k = h ∙ sym k

some_joins : (schemas : Schemas) (schema : WireSchema) → (r : Result WireSchema FileRefusal) × Joins schemas schema r
some_joins schemas schema = by (is_taken schemas schema.id) refl
  where
    by : (t : Bool) → is_taken schemas schema.id ≡ t → (r : Result WireSchema FileRefusal) × Joins schemas schema r
    by true e = (Err SameId, same_id e refl)
    by false e = elim (form_decided schemas.first schema) [ inl f ↦ (Ok schema, taken e f refl) | inr n ↦ (Err FormDiffers, form_differs e n refl) ]

some_from : (schemas : Schemas) (file : Result WireSchema FileRefusal) → (r : Result WireSchema FileRefusal) × JoinsFrom schemas file r
some_from schemas (Ok schema) = some_joins schemas schema
some_from schemas (Err why) = (Err why, refl)

ok_same : {s t : WireSchema} → ◌≡◌ {A = Result WireSchema FileRefusal} (Ok s) (Ok t) → s ≡ t
ok_same h = cc

-- what joins is the file's schema
joined_is : (schemas : Schemas) (file : Result WireSchema FileRefusal) (schema : WireSchema) → JoinsFrom schemas file (Ok schema) → file ≡ Ok schema
joined_is schemas (Ok s) schema h = elim h [ taken n f e ↦ sym e | same_id n e ↦ cc | form_differs n f e ↦ cc ]
joined_is schemas (Err why) schema h = sym h

-- ---- the list of files

goes_once : (r : FileRole) (one : Result WireSchema FileRefusal) (P : WireSchema → Result Schemas RefusedFile → Type 0) (a b : Result Schemas RefusedFile) → ((s : WireSchema) → P s a → P s b → a ≡ b) →
    GoesOn r one (λ s. P s a) a → GoesOn r one (λ s. P s b) b → a ≡ b
goes_once r (Ok schema) P a b once h k = once schema h k
goes_once r (Err why) P a b once h k = h ∙ sym k

pub more_once : (contents : List ℕ → Option (List ℕ)) (names : List (List ℕ)) (schemas : Schemas) (number : ℕ) (a b : Result Schemas RefusedFile) → JudgesMore contents schemas number names a → JudgesMore contents schemas number names b → a ≡ b
more_once contents [] schemas number a b h k = h ∙ sym k
more_once contents (name ∷ names) schemas number a b h k =
    let same : k.0 ≡ h.0 = from_once schemas (file_schema (contents name)) k.0 h.0 k.1 h.1 in
    let there : GoesOn (role.Also number) h.0 (λ schema. JudgesMore contents (with_one schemas schema) (suc number) names b) b =
    subst (λ (one : Result WireSchema FileRefusal). GoesOn (role.Also number) one (λ schema. JudgesMore contents (with_one schemas schema) (suc number) names b) b) same k.2 in
    goes_once (role.Also number) h.0 (λ schema r. JudgesMore contents (with_one schemas schema) (suc number) names r) a b
    (λ schema x y. more_once contents names (with_one schemas schema) (suc number) a b x y) h.2 there

pub schemas_once : (contents : List ℕ → Option (List ℕ)) (name : List ℕ) (also : List (List ℕ)) (a b : Result Schemas RefusedFile) → JudgesSchemas contents name also a → JudgesSchemas contents name also b → a ≡ b
schemas_once contents name also a b h k =
    goes_once role.Schema (file_schema (contents name)) (λ schema r. JudgesMore contents (alone schema) 1 also r) a b (λ schema x y. more_once contents also (alone schema) 1 a b x y) h k

goes_some : (r : FileRole) (one : Result WireSchema FileRefusal) (P : WireSchema → Result Schemas RefusedFile → Type 0) → ((s : WireSchema) → (a : Result Schemas RefusedFile) × P s a) →
    (a : Result Schemas RefusedFile) × GoesOn r one (λ s. P s a) a
goes_some r (Ok schema) P some = some schema
goes_some r (Err why) P some = (Err (refused_as r why), refl)

pub more_some : (contents : List ℕ → Option (List ℕ)) (names : List (List ℕ)) (schemas : Schemas) (number : ℕ) → (a : Result Schemas RefusedFile) × JudgesMore contents schemas number names a
more_some contents [] schemas number = (Ok schemas, refl)
more_some contents (name ∷ names) schemas number =
    let one = some_from schemas (file_schema (contents name)) in
    let rest = goes_some (role.Also number) one.0 (λ schema r. JudgesMore contents (with_one schemas schema) (suc number) names r) (λ schema. more_some contents names (with_one schemas schema) (suc number)) in
    (rest.0, (one.0, one.1, rest.1))

pub schemas_some : (contents : List ℕ → Option (List ℕ)) (name : List ℕ) (also : List (List ℕ)) → (a : Result Schemas RefusedFile) × JudgesSchemas contents name also a
schemas_some contents name also = goes_some role.Schema (file_schema (contents name)) (λ schema r. JudgesMore contents (alone schema) 1 also r) (λ schema. more_some contents also (alone schema) 1)

-- ---- they are in order

pub all_behind : (xs : List WireSchema) (x : WireSchema) → AllByRecursion IsChecked xs → IsChecked x → AllByRecursion IsChecked (xs ++ x ∷ [])
all_behind [] x all good = (good, tt)
all_behind (y ∷ xs) x all good = (all.0, all_behind xs x all.1 good)

goes_good : (r : FileRole) (one : Result WireSchema FileRefusal) (Next : WireSchema → Type 0) (all : Schemas) → ((s : WireSchema) → one ≡ Ok s → Next s → AreInOrder all) → GoesOn r one Next (Ok all) → AreInOrder all
goes_good r (Ok schema) Next all good h = good schema refl h
goes_good r (Err why) Next all good h = cc

pub more_good : (contents : List ℕ → Option (List ℕ)) (names : List (List ℕ)) (schemas all : Schemas) (number : ℕ) → AreInOrder schemas → JudgesMore contents schemas number names (Ok all) → AreInOrder all
more_good contents [] schemas all number order h = subst AreInOrder (sym (all_same h)) order
  where
    all_same : ◌≡◌ {A = Result Schemas RefusedFile} (Ok all) (Ok schemas) → all ≡ schemas
    all_same e = cc
more_good contents (name ∷ names) schemas all number order h =
    goes_good (role.Also number) h.0 (λ schema. JudgesMore contents (with_one schemas schema) (suc number) names (Ok all)) all
    (λ schema is next. more_good contents names (with_one schemas schema) all (suc number)
    (order.0, all_behind schemas.also schema order.1 (file_checked (contents name) schema (joined_is schemas (file_schema (contents name)) schema (subst (JoinsFrom schemas (file_schema (contents name))) is h.1)))) next) h.2

pub schemas_good : (contents : List ℕ → Option (List ℕ)) (name : List ℕ) (also : List (List ℕ)) (all : Schemas) → JudgesSchemas contents name also (Ok all) → AreInOrder all
schemas_good contents name also all h =
    goes_good role.Schema (file_schema (contents name)) (λ schema. JudgesMore contents (alone schema) 1 also (Ok all)) all
    (λ schema is next. more_good contents also (alone schema) all 1 (file_checked (contents name) schema is, tt) next) h
