-- The file of a mapping is loaded, and judged.
use Rattle.std.proofs.Common.{◌≡◌, ℕ, ◌≤◌, ◌<◌, true, List, length, Option, Some, Result, Ok, Err, refl, sym, ap, ◌∙◌, subst, arith}
use Rattle.std.proofs.lemmas.Bool.Decides.{nat_tests}
use Rattle.std.specs.Prelude.{nat_lt}
use Rattle.json_elements.specs.declared.file.TheConstants.{FILE_LIMIT}
use Rattle.json_elements.specs.declared.refusal.Cause.TheVariants.{Limit as over_limit}
use Rattle.json_elements.specs.Reading.{refuse}
use Rattle.json_elements.specs.Files.{value_of}
use Rattle.sbe_base.specs.Loads.{Loads as LoadsBytes, OutOfMemory}
use Rattle.sbe_base.specs.declared.files.LoadErr.TheVariants.{Absent as absent, TooLong, Memory}
use Rattle.map_types.specs.declared.tree.Repository.{Repository}
use Rattle.orchestra_map.specs.Mappings.{mapping_from}
use Rattle.map_elements.specs.Repositories.{repository_of}
use Rattle.schema_files.specs.declared.files.FileRefusal.TheVariants.{Absent}
use Rattle.schema_files.specs.declared.files.LoadStop.{LoadStop}
use Rattle.schema_files.specs.declared.files.LoadStop.TheVariants.{Refused, Fault, NoMemory}
use Rattle.map_files.specs.Maps.{in_file, file_map, too_long, ReadsMap, LoadsMapAs, LoadsMap}

-- a file over its limit holds no mapping
long_map : (bytes : List ℕ) → FILE_LIMIT < length bytes → file_map (Some bytes) ≡ Err too_long
long_map bytes over = ap (λ r. in_file (mapping_from r)) no_repository
  where
    no_value : value_of bytes ≡ refuse over_limit
    no_value = rw is_over refl
      where
        is_over : nat_lt FILE_LIMIT (length bytes) ≡ true
        is_over = grind (arith, nat_tests)

    no_repository : repository_of bytes ≡ refuse over_limit
    no_repository = rw no_value refl

read_as : (bytes : List ℕ) (r : Result Repository LoadStop) → length bytes ≤ FILE_LIMIT → ReadsMap bytes r → LoadsMapAs (Some bytes) r
read_as bytes (Ok repository) within h = h
read_as bytes (Err (Refused refusal)) within h = h
read_as bytes (Err Fault) within h = tt
read_as bytes (Err NoMemory) within h = within

module _ (told : Option (List ℕ → Option (List ℕ))) (name bytes : List ℕ) where
  pub map_loaded : (r : Result Repository LoadStop) → LoadsBytes told name FILE_LIMIT (Ok tt) bytes → ReadsMap bytes r → LoadsMap told name r
  map_loaded r h k contents same =
      let there = subst (λ t. LoadsBytes t name FILE_LIMIT (Ok tt) bytes) same h in
      subst (λ file. LoadsMapAs file r) (sym there.0) (read_as bytes r there.1 k)

  pub map_absent : LoadsBytes told name FILE_LIMIT (Err absent) bytes → LoadsMap told name (Err (Refused Absent))
  map_absent h contents same = ap file_map (subst (λ t. LoadsBytes t name FILE_LIMIT (Err absent) bytes) same h)

  pub map_too_long : LoadsBytes told name FILE_LIMIT (Err TooLong) bytes → LoadsMap told name (Err (Refused too_long))
  map_too_long h contents same =
      let there = subst (λ t. LoadsBytes t name FILE_LIMIT (Err TooLong) bytes) same h in
      ap file_map there.1 ∙ long_map there.0 there.2

  -- a load is out of memory only for a file that may be loaded
  pub map_wanting : OutOfMemory told name FILE_LIMIT (Err Memory) → LoadsMap told name (Err NoMemory)
  map_wanting h contents same = h contents same refl
