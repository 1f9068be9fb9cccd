-- The files of a schema and of a mapping are loaded.
use Rattle.std.proofs.Common.{◌≡◌, ℕ, List, Option, Some, None, Result, Ok, Err, refl, sym, ap, ◌∙◌, subst}
use Rattle.sbe_types.specs.declared.schema.WireSchema.{WireSchema}
use Rattle.json_elements.specs.Reading.{Reading}
use Rattle.map_types.specs.declared.tree.Repository.{Repository}
use Rattle.map_types.specs.Trees.{members_of}
use Rattle.map_elements.specs.Repositories.{repository_of}
use Rattle.map_rules.specs.Rules.{verdict}
use Rattle.map_rules.specs.Verdicts.{Verdict}
use Rattle.orchestra_map.specs.Headers.{IsKept}
use Rattle.orchestra_map.specs.Mappings.{mapping_from, kept, map_of, Mapping}
use Rattle.map_files.specs.Maps.{file_map, in_file, LoadsMap, WasRead}
use Rattle.field_types.proofs.ShortCodes.{codes_are_short, fields_mapped}
use Rattle.bridge_plan.specs.CheckedLevels.{HasShortCodes}
use Rattle.bridge_plan.proofs.SchemaGives.{table_short}
use Rattle.bridge_mapping.specs.Mapped.{mapping_of}
use Rattle.schema_files.specs.FileChecks.{file_schema}
use Rattle.schema_files.specs.Files.{stop_of, JobCause, LoadsChecked, NamesLastBy}
use Rattle.schema_files.specs.declared.files.FileRefusal.{FileRefusal}
use Rattle.schema_files.specs.declared.files.FileRole.{FileRole}
use Rattle.schema_files.specs.declared.files.FileRole.TheVariants as role
use Rattle.schema_files.specs.declared.files.JobStop.{JobStop}
use Rattle.schema_files.specs.declared.files.JobStop.TheVariants as stop
use Rattle.schema_files.specs.declared.files.LoadStop.{LoadStop}
use Rattle.schema_files.specs.declared.files.LoadStop.TheVariants.{Refused, Fault, NoMemory}
use Rattle.schema_files.specs.declared.files.RefusedFile.{RefusedFile}
use Rattle.schema_files.proofs.Judging.{file_checked}
use Rattle.command_files.specs.Files.{LoadsFiles}
use Rattle.tosbe_command.specs.Bridges.{bridge_check, tosbe_files, BackBridge, IsBackBridge, IsReadPair, JudgesBridge}
use Rattle.tosbe_command.specs.declared.files.BridgeFiles.{BridgeFiles}

-- ---- a mapping that was read

-- what was read, and that its members keep their rules
abbrev WasKept : Repository → List ℕ → Type 0
WasKept r bytes = (repository_of bytes ≡ Ok r) × IsKept r

kept_by : (r s : Repository) (bytes : List ℕ) (v : Verdict) → repository_of bytes ≡ Ok s → verdict (members_of s) ≡ v → ◌≡◌ {A = Mapping} (kept s v) (Ok r) → WasKept r bytes
kept_by r s bytes (Ok x) read is h = subst (λ t. WasKept t bytes) (ok_is h) (read, is)
  where
    ok_is : ◌≡◌ {A = Mapping} (Ok s) (Ok r) → s ≡ r
    ok_is e = cc
kept_by r s bytes (Err e) read is h = absurd (no_mapping h)
  where
    no_mapping : ◌≡◌ {A = Mapping} (Err e) (Ok r) → ⊥
    no_mapping q = cc

kept_from : (r : Repository) (bytes : List ℕ) (q : Reading Repository) → repository_of bytes ≡ q → ◌≡◌ {A = Mapping} (mapping_from q) (Ok r) → WasKept r bytes
kept_from r bytes (Ok s) e h = kept_by r s bytes (verdict (members_of s)) e refl h
kept_from r bytes (Err x) e h = absurd (no_mapping h)
  where
    no_mapping : ◌≡◌ {A = Mapping} (mapping_from (Err x)) (Ok r) → ⊥
    no_mapping q = cc

pub was_kept : (r : Repository) (bytes : List ℕ) → map_of bytes ≡ Ok r → WasKept r bytes
was_kept r bytes h = kept_from r bytes (repository_of bytes) refl h

-- the codes of a mapping that was loaded are short
pub loaded_short : (r : Repository) → WasRead r → HasShortCodes (mapping_of (members_of r))
loaded_short r h =
    let m = members_of r in
    table_short (mapping_of m) (fields_mapped m.code_sets m.fields (codes_are_short h.0 r (was_kept r h.0 h.1).0))

map_in : (r : Repository) (m : Mapping) → in_file m ≡ Ok r → m ≡ Ok r
map_in r (Ok s) h = ap Ok (same h)
  where
    same : ◌≡◌ {A = Result Repository FileRefusal} (Ok s) (Ok r) → s ≡ r
    same e = cc
map_in r (Err e) h = absurd (no_file h)
  where
    no_file : ◌≡◌ {A = Result Repository FileRefusal} (in_file (Err e)) (Ok r) → ⊥
    no_file q = cc

-- a mapping of a file was read of it
pub file_read : (r : Repository) (file : Option (List ℕ)) → file_map file ≡ Ok r → WasRead r
file_read r None h = absurd (no_file h)
  where
    no_file : ◌≡◌ {A = Result Repository FileRefusal} (file_map None) (Ok r) → ⊥
    no_file q = cc
file_read r (Some bytes) h = (bytes, map_in r (map_of bytes) h)

-- ---- accepted files

pub bridge_good : (schema map : List ℕ) (frame : ℕ) (contents : List ℕ → Option (List ℕ)) (b : BackBridge) → JudgesBridge schema map frame contents (Ok b) → IsBackBridge b
bridge_good schema map frame contents b h = by (file_schema (contents schema)) (file_map (contents map)) refl refl h
  where
    good : (s : WireSchema) (r : Repository) → file_schema (contents schema) ≡ Ok s → file_map (contents map) ≡ Ok r → IsBackBridge (record { schema = s; repository = r; frame = frame })
    good s r e f =
        let read = file_read r (contents map) f in
        record { checked = file_checked (contents schema) s e; kept = (was_kept r read.0 read.1).1; short = loaded_short r read }

    bridge_is : {s t : BackBridge} → ◌≡◌ {A = Result BackBridge RefusedFile} (Ok s) (Ok t) → s ≡ t
    bridge_is e = cc

    never : {t : BackBridge} {file : RefusedFile} → ◌≡◌ {A = Result BackBridge RefusedFile} (Ok t) (Err file) → ⊥
    never e = cc

    by : (x : Result WireSchema FileRefusal) (y : Result Repository FileRefusal) → file_schema (contents schema) ≡ x → file_map (contents map) ≡ y
        → ◌≡◌ {A = Result BackBridge RefusedFile} (Ok b) (bridge_check frame x y) → IsBackBridge b
    by (Ok s) (Ok r) e f k = subst IsBackBridge (sym (bridge_is k)) (good s r e f)
    by (Ok s) (Err why) e f k = absurd (never k)
    by (Err why) y e f k = absurd (never k)

-- ---- what loading answers

module _ (told : Option (List ℕ → Option (List ℕ))) (schema map : List ℕ) (frame : ℕ) where
  pub schema_stopped : (why : LoadStop) → LoadsChecked told schema (Err why) → LoadsFiles (tosbe_files schema map frame) told (Err (stop_of role.Schema why))
  schema_stopped (Refused why) h =
      record { judges = λ contents same. sym (ap (λ f. bridge_check frame f (file_map (contents map))) (h contents same)); fails = tt; good = tt }
  schema_stopped Fault h = record { judges = λ contents same. tt; fails = tt; good = tt }
  schema_stopped NoMemory h = record { judges = λ contents same. tt; fails = tt; good = tt }

  pub map_stopped : (first : WireSchema) (why : LoadStop) → LoadsChecked told schema (Ok first) → LoadsMap told map (Err why)
      → LoadsFiles (tosbe_files schema map frame) told (Err (stop_of role.Map why))
  map_stopped first (Refused why) h k = record {
    judges = λ contents same.
        sym (ap (λ f. bridge_check frame f (file_map (contents map))) (h contents same) ∙ ap (λ f. bridge_check frame (Ok first) f) (k contents same));
    fails = tt;
    good = tt;
  }
  map_stopped first Fault h k = record { judges = λ contents same. tt; fails = tt; good = tt }
  map_stopped first NoMemory h k = record { judges = λ contents same. tt; fails = tt; good = tt }

  pub both_loaded : (first : WireSchema) (second : Repository) → IsBackBridge (record { schema = first; repository = second; frame = frame })
      → LoadsChecked told schema (Ok first) → LoadsMap told map (Ok second)
      → LoadsFiles (tosbe_files schema map frame) told (Ok (record { schema = first; repository = second; frame = frame }))
  both_loaded first second good h k = record {
    judges = λ contents same.
        sym (ap (λ f. bridge_check frame f (file_map (contents map))) (h contents same) ∙ ap (λ f. bridge_check frame (Ok first) f) (k contents same));
    fails = tt;
    good = good;
  }

  pub bridge_wanting : LoadsFiles (tosbe_files schema map frame) told (Err stop.NoMemory)
  bridge_wanting = record { judges = λ contents same. tt; fails = tt; good = tt }

-- ---- a stop is the same, whatever was to be loaded

pub cause_kept : (S T : Type 0) (before now : ℕ) (why : JobStop) → JobCause {T = S} before now (Err why) → JobCause {T = T} before now (Err why)
cause_kept S T before now (stop.Refused file) h = h
cause_kept S T before now (stop.Fault at) h = h
cause_kept S T before now stop.NoMemory h = h

pub named_kept : (S T : Type 0) (loads : FileRole → ℕ) (before now : ℕ) (why : JobStop) → NamesLastBy {T = S} loads before now (Err why) → NamesLastBy {T = T} loads before now (Err why)
named_kept S T loads before now (stop.Refused file) h = h
named_kept S T loads before now (stop.Fault at) h = h
named_kept S T loads before now stop.NoMemory h = tt

-- what was loaded makes a bridge
pub pair_good : (files : BridgeFiles) (frame : ℕ) → IsReadPair files → IsBackBridge (record { schema = files.checked; repository = files.repository; frame = frame })
pair_good files frame is = record { checked = is.checked; kept = is.kept; short = loaded_short files.repository is.read }
