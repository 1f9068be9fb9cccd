-- Files are loaded, and judged.
use Rattle.std.proofs.Common.{◌≡◌, ℕ, zero, suc, ◌+◌, ◌≤◌, ◌<◌, Bool, true, false, cond, List, [], ◌∷◌, length, drop, Option, Some, None, Result, Ok, Err, refl, sym, ap, ◌∙◌, subst, arith}
use Rattle.std.proofs.lemmas.Bool.Decides.{nat_tests}
use Rattle.std.specs.Prelude.{nat_lt}
use Rattle.json_elements.specs.Reading.{Reading}
use Rattle.sbe_base.specs.Causes.{one_more}
use Rattle.sbe_base.specs.Loads.{Loads as LoadsBytes, MayLoad, OutOfMemory}
use Rattle.sbe_base.specs.declared.files.LoadErr.TheVariants.{Memory}
use Rattle.sbe_schema.specs.Schemas.{schema_of}
use Rattle.sbe_types.specs.declared.tree.Schema.{Schema}
use Rattle.schema_rules.specs.Judging.{CheckResult}
use Rattle.schema_rules.specs.Checked.{checked_of}
use Rattle.sbe_types.specs.declared.schema.WireSchema.{WireSchema}
use Rattle.dump_lines.specs.declared.schemas.Schemas.{Schemas}
use Rattle.schema_files.specs.FileChecks.{in_order, tree_in_order, schema_in, file_schema, refused_as, alone, with_one, JoinsFrom, GoesOn, JudgesMore}
use Rattle.schema_files.specs.Files.{Reads, IsRead, after_loads, loads_up_to, loads_with_map, NamesLast, NamesLastBy, LoadsAs, LoadsChecked, stop_of, JoinsAs, LoadsJoining, LoadsMore, LoadsSchemas, FailsAt}
use Rattle.schema_files.specs.declared.files.FileRefusal.{FileRefusal}
use Rattle.schema_files.specs.declared.files.FileRefusal.TheVariants.{TooLong}
use Rattle.schema_files.specs.declared.files.FileRole.{FileRole}
use Rattle.schema_files.specs.declared.files.FileRole.TheVariants as role
use Rattle.schema_files.specs.declared.files.RefusedFile.{RefusedFile}
use Rattle.schema_files.specs.declared.files.LoadStop.{LoadStop}
use Rattle.schema_files.specs.declared.files.LoadStop.TheVariants.{Refused, Fault, NoMemory}
use Rattle.schema_files.specs.declared.files.JobStop.{JobStop}
use Rattle.schema_files.specs.declared.files.JobStop.TheVariants as stop
use Rattle.json_elements.specs.declared.file.TheConstants.{FILE_LIMIT}

-- ---- a schema that is in order

-- a file that is there, and isn't too long
pub short_file : (file : Option (List ℕ)) (bytes : List ℕ) → file ≡ Some bytes → length bytes ≤ FILE_LIMIT → file_schema file ≡ schema_in bytes
short_file file bytes there within = ap file_schema there ∙ by (nat_lt FILE_LIMIT (length bytes)) refl
  where
    by : (t : Bool) → nat_lt FILE_LIMIT (length bytes) ≡ t → cond t (Err TooLong) (schema_in bytes) ≡ schema_in bytes
    by true e = let over : FILE_LIMIT < length bytes = grind (arith, nat_tests) in absurd (omega (arith, over, within))
    by false e = refl

pub long_file : (file : Option (List ℕ)) (bytes : List ℕ) → file ≡ Some bytes → FILE_LIMIT < length bytes → file_schema file ≡ Err TooLong
long_file file bytes there over = ap file_schema there ∙ by (nat_lt FILE_LIMIT (length bytes)) refl
  where
    by : (t : Bool) → nat_lt FILE_LIMIT (length bytes) ≡ t → cond t (Err TooLong) (schema_in bytes) ≡ Err TooLong
    by true e = refl
    by false e = let within : length bytes ≤ FILE_LIMIT = grind (arith, nat_tests) in absurd (omega (arith, over, within))

found_read : (judged : CheckResult WireSchema) → IsRead (in_order judged)
found_read (Ok schema) = tt
found_read (Err broken) = tt

tree_read : (tree : Reading Schema) → IsRead (tree_in_order tree)
tree_read (Ok tree) = found_read (checked_of tree)
tree_read (Err unread) = tt

read_as : (bytes : List ℕ) (r : Result WireSchema LoadStop) → Reads (schema_in bytes) r → LoadsAs (schema_in bytes) r
read_as bytes (Ok schema) h = h
read_as bytes (Err (Refused refusal)) h = h
read_as bytes (Err Fault) h = tt
read_as bytes (Err NoMemory) h = tree_read (schema_of bytes)

pub checked_loaded : (told : Option (List ℕ → Option (List ℕ))) (name bytes : List ℕ) (r : Result WireSchema LoadStop) → LoadsBytes told name FILE_LIMIT (Ok tt) bytes → Reads (schema_in bytes) r → LoadsChecked told name r
checked_loaded told name bytes r h k contents same =
    let there = subst (λ t. LoadsBytes t name FILE_LIMIT (Ok tt) bytes) same h in
    subst (λ (judged : Result WireSchema FileRefusal). LoadsAs judged r) (sym (short_file (contents name) bytes there.0 there.1)) (read_as bytes r k)

-- a file that may be loaded is read
may_load : (file : Option (List ℕ)) → MayLoad file FILE_LIMIT → IsRead (file_schema file)
may_load None h = h
may_load (Some bytes) h = subst IsRead (sym (short_file (Some bytes) bytes refl h)) (tree_read (schema_of bytes))

-- a load is out of memory only for a file that is read
pub short_loaded : (told : Option (List ℕ → Option (List ℕ))) (name : List ℕ) → OutOfMemory told name FILE_LIMIT (Err Memory) → LoadsChecked told name (Err NoMemory)
short_loaded told name h contents same = may_load (contents name) (h contents same refl)

-- ---- which file it was

-- so many loads after one more are one more than so many
loads_after_one : (n before : ℕ) → after_loads n (one_more before) ≡ after_loads (suc n) before
loads_after_one zero before = refl
loads_after_one (suc n) before = ap one_more (loads_after_one n before)

pub loads_more : (i first here now : ℕ) → here ≡ after_loads i first → now ≡ one_more here → now ≡ after_loads (i + 1) first
loads_more i first here now counted next =
    let number : suc i ≡ i + 1 = omega arith in
    next ∙ ap one_more counted ∙ ap (λ n. after_loads n first) number

-- a stop at the file in that role, as many loads after the first as its role says
pub named_last_by : (T : Type 0) (loads : FileRole → ℕ) (at : FileRole) (before now : ℕ) (why : LoadStop) → now ≡ after_loads (loads at) before →
    NamesLastBy {T = T} loads before now (Err (stop_of at why))
named_last_by T loads at before now (Refused why) h = h
named_last_by T loads at before now Fault h = h
named_last_by T loads at before now NoMemory h = tt

-- the same of a command without a mapping after its schema
pub named_last : (T : Type 0) (at : FileRole) (before now : ℕ) (why : LoadStop) → now ≡ after_loads (loads_up_to at) before → NamesLast {T = T} before now (Err (stop_of at why))
named_last T at before now why h = named_last_by T loads_up_to at before now why h

-- the same of a further file, which is loaded after the first and those before it
pub also_named : (T : Type 0) (i first here now : ℕ) (why : LoadStop) → here ≡ after_loads i first → now ≡ one_more here →
    (before : ℕ) → first ≡ one_more before → NamesLast {T = T} before now (Err (stop_of (role.Also (i + 1)) why))
also_named T i first here now why counted next before same =
    let number : suc i ≡ i + 1 = omega arith in
    named_last T (role.Also (i + 1)) before now why
    (next ∙ ap one_more (counted ∙ ap (after_loads i) same ∙ loads_after_one i before) ∙ ap (λ n. after_loads (suc n) before) number)

-- the same where a mapping was loaded after the first
pub also_named_with_map : (T : Type 0) (i first here now : ℕ) (why : LoadStop) → here ≡ after_loads i first → now ≡ one_more here →
    (before : ℕ) → first ≡ one_more (one_more before) → NamesLastBy {T = T} loads_with_map before now (Err (stop_of (role.Also (i + 1)) why))
also_named_with_map T i first here now why counted next before same =
    let number : suc i ≡ i + 1 = omega arith in
    let two : after_loads i (one_more (one_more before)) ≡ after_loads (suc (suc i)) before = loads_after_one i (one_more before) ∙ loads_after_one (suc i) before in
    named_last_by T loads_with_map (role.Also (i + 1)) before now why
    (next ∙ ap one_more (counted ∙ ap (after_loads i) same ∙ two) ∙ ap (λ n. after_loads (suc (suc n)) before) number)

-- ---- several schemas

joined_as : (schemas : Schemas) (r : Result WireSchema LoadStop) (file : Result WireSchema FileRefusal) (why : LoadStop) → r ≡ Err why → LoadsAs file r → JoinsAs schemas file (Err why)
joined_as schemas r file (Refused why) is h =
    let found : LoadsAs file (Err (Refused why)) = subst (LoadsAs file) is h in
    subst (λ f. JoinsFrom schemas f (Err why)) (sym found) refl
joined_as schemas r file Fault is h = tt
joined_as schemas r file NoMemory is h = tt

-- a file that isn't read in order doesn't join
pub not_joined : (told : Option (List ℕ → Option (List ℕ))) (schemas : Schemas) (name : List ℕ) (why : LoadStop) → LoadsChecked told name (Err why) → LoadsJoining told schemas name (Err why)
not_joined told schemas name why h contents same = joined_as schemas (Err why) (file_schema (contents name)) why refl (h contents same)

-- a schema in order is judged after the others
pub judged_joined : (told : Option (List ℕ → Option (List ℕ))) (schemas : Schemas) (name : List ℕ) (schema : WireSchema) (r : Result WireSchema FileRefusal) → LoadsChecked told name (Ok schema) →
    JoinsFrom schemas (Ok schema) r → (contents : List ℕ → Option (List ℕ)) → told ≡ Some contents → JoinsFrom schemas (file_schema (contents name)) r
judged_joined told schemas name schema r h joins contents same = subst (λ f. JoinsFrom schemas f r) (sym (h contents same)) joins

-- what is judged from here on is judged from the start
abbrev pub Onward : Option (List ℕ → Option (List ℕ)) → Schemas → Schemas → ℕ → List (List ℕ) → Type 0
Onward told start now i also =
    (contents : List ℕ → Option (List ℕ)) → told ≡ Some contents → (r : Result Schemas RefusedFile) → JudgesMore contents now (suc i) (drop i also) r → JudgesMore contents start 1 also r

pub onward_none : (told : Option (List ℕ → Option (List ℕ))) (start : Schemas) (also : List (List ℕ)) → Onward told start start 0 also
onward_none told start also contents same r h = h

pub onward_more : (told : Option (List ℕ → Option (List ℕ))) (start now : Schemas) (i : ℕ) (also : List (List ℕ)) (name : List ℕ) (schema : WireSchema) → Onward told start now i also → drop i also ≡ name ∷ drop (i + 1) also →
    LoadsJoining told now name (Ok schema) → Onward told start (with_one now schema) (i + 1) also
onward_more told start now i also name schema h front joins contents same r more =
    let next : suc (i + 1) ≡ suc (suc i) = omega arith in
    let after : JudgesMore contents (with_one now schema) (suc (suc i)) (drop (i + 1) also) r = subst (λ n. JudgesMore contents (with_one now schema) n (drop (i + 1) also) r) next more in
    h contents same r (subst (λ names. JudgesMore contents now (suc i) names r) (sym front) (Ok schema, joins contents same, after))

pub onward_ends : (told : Option (List ℕ → Option (List ℕ))) (start now : Schemas) (i : ℕ) (also : List (List ℕ)) → Onward told start now i also → drop i also ≡ [] → LoadsMore told start also (Ok now)
onward_ends told start now i also h none contents same = h contents same (Ok now) (subst (λ names. JudgesMore contents now (suc i) names (Ok now)) (sym none) refl)

pub onward_stops : (told : Option (List ℕ → Option (List ℕ))) (start now : Schemas) (i : ℕ) (also : List (List ℕ)) (name : List ℕ) (why : LoadStop) → Onward told start now i also → drop i also ≡ name ∷ drop (i + 1) also →
    LoadsJoining told now name (Err why) → LoadsMore told start also (Err (stop_of (role.Also (i + 1)) why))
onward_stops told start now i also name (Refused why) h front joins contents same =
    let number : suc i ≡ i + 1 = omega arith in
    h contents same (Err (refused_as (role.Also (i + 1)) why))
    (subst (λ names. JudgesMore contents now (suc i) names (Err (refused_as (role.Also (i + 1)) why))) (sym front)
    (Err why, joins contents same, ap (λ n. Err (refused_as (role.Also n) why)) (sym number)))
onward_stops told start now i also name Fault h front joins contents same = tt
onward_stops told start now i also name NoMemory h front joins contents same = tt

pub fails_at : (many i : ℕ) (why : LoadStop) → i < many → FailsAt many (Err (stop_of (role.Also (i + 1)) why))
fails_at many i (Refused why) h = tt
fails_at many i Fault h = (omega arith, omega arith)
fails_at many i NoMemory h = tt

-- the first file isn't taken
pub first_stopped : (told : Option (List ℕ → Option (List ℕ))) (name : List ℕ) (also : List (List ℕ)) (why : LoadStop) → LoadsChecked told name (Err why) → LoadsSchemas told name also (Err (stop_of role.Schema why))
first_stopped told name also (Refused why) h contents same =
    subst (λ f. GoesOn role.Schema f (λ schema. JudgesMore contents (alone schema) 1 also (Err (refused_as role.Schema why))) (Err (refused_as role.Schema why))) (sym (h contents same)) refl
first_stopped told name also Fault h contents same = tt
first_stopped told name also NoMemory h contents same = tt

pub first_fails_at : (many : ℕ) (why : LoadStop) → FailsAt many (Err (stop_of role.Schema why))
first_fails_at many (Refused why) = tt
first_fails_at many Fault = tt
first_fails_at many NoMemory = tt

-- after the first file the others are judged
pub behind_first : (told : Option (List ℕ → Option (List ℕ))) (name : List ℕ) (also : List (List ℕ)) (schema : WireSchema) (r : Result Schemas JobStop) → LoadsChecked told name (Ok schema) → LoadsMore told (alone schema) also r →
    LoadsSchemas told name also r
behind_first told name also schema (Ok all) h more contents same =
    subst (λ f. GoesOn role.Schema f (λ s. JudgesMore contents (alone s) 1 also (Ok all)) (Ok all)) (sym (h contents same)) (more contents same)
behind_first told name also schema (Err (stop.Refused file)) h more contents same =
    subst (λ f. GoesOn role.Schema f (λ s. JudgesMore contents (alone s) 1 also (Err file)) (Err file)) (sym (h contents same)) (more contents same)
behind_first told name also schema (Err (stop.Fault r)) h more contents same = tt
behind_first told name also schema (Err stop.NoMemory) h more contents same = tt
