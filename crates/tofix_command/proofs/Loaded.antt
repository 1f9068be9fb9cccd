-- The files of the command are loaded.
use Rattle.std.proofs.Common.{◌≡◌, ℕ, ◌≤◌, List, length, Option, Some, Result, Ok, Err, refl, sym, ap, ◌∙◌, subst}
use Rattle.sbe_types.specs.declared.schema.WireSchema.{WireSchema}
use Rattle.map_types.specs.declared.tree.Repository.{Repository}
use Rattle.map_types.specs.Trees.{members_of}
use Rattle.map_elements.specs.Repositories.{repository_of}
use Rattle.map_rules.specs.Rules.{verdict}
use Rattle.map_rules.specs.Verdicts.{Verdict}
use Rattle.json_elements.specs.Reading.{Reading}
use Rattle.orchestra_map.specs.Mappings.{mapping_from, kept, map_of, Mapping}
use Rattle.bridge_mapping.specs.Mapped.{mapping_of}
use Rattle.fix_messages.specs.Heads.{Head}
use Rattle.fix_translation.specs.Translations.{HasKinds}
use Rattle.fix_translation.proofs.MsgTypes.{read_kinds}
use Rattle.map_files.specs.Maps.{file_map, LoadsMap, WasRead}
use Rattle.dump_lines.specs.Dumped.{AreInOrder}
use Rattle.dump_lines.specs.declared.schemas.Schemas.{Schemas}
use Rattle.schema_files.specs.FileChecks.{alone, file_schema, refused_as, IsWithin, Joins}
use Rattle.schema_files.specs.Files.{stop_of, FailsAt, JobCause, LoadsChecked, LoadsJoining, LoadsMore, NamesLastBy}
use Rattle.schema_files.specs.declared.files.FileRefusal.{FileRefusal}
use Rattle.schema_files.specs.declared.files.FileRole.{FileRole}
use Rattle.schema_files.specs.declared.files.FileRole.TheVariants as role
use Rattle.schema_files.specs.declared.files.RefusedFile.{RefusedFile}
use Rattle.schema_files.specs.declared.files.JobStop.{JobStop}
use Rattle.schema_files.specs.declared.files.JobStop.TheVariants as stop
use Rattle.schema_files.specs.declared.files.LoadStop.{LoadStop}
use Rattle.schema_files.specs.declared.files.LoadStop.TheVariants.{Refused, Fault, NoMemory}
use Rattle.schema_files.proofs.Loading.{judged_joined}
use Rattle.command_files.specs.Files.{JudgedSo, LoadsFiles}
use Rattle.tofix_command.specs.Bridges.{tofix_files, BridgeWords, GoesOnTo, IsBridgeRole, IsMade, JudgesMapped, JudgesRest, JudgesTranslating, LoadsMapped, MappedSo, Translating}

-- what follows an accepted file
goes_on : {X : Type 0} (at : FileRole) (r : Result X FileRefusal) (x : X) (Next : X → Type 0) (answer : Result Translating RefusedFile) → r ≡ Ok x → Next x → GoesOnTo at r Next answer
goes_on {X} at r x Next answer is next = subst (λ (f : Result X FileRefusal). GoesOnTo at f Next answer) (sym is) next

-- a refused file ends all
ends_all : {X : Type 0} (at : FileRole) (r : Result X FileRefusal) (why : FileRefusal) (Next : X → Type 0) → r ≡ Err why → GoesOnTo {Y = Translating} at r Next (Err (refused_as at why))
ends_all {X} at r why Next is = subst (λ (f : Result X FileRefusal). GoesOnTo {Y = Translating} at f Next (Err (refused_as at why))) (sym is) refl

-- a role among those of the first and so many further files
further_role : (many : ℕ) (at : FileRole) → IsWithin many at → IsBridgeRole many at
further_role many role.Schema h = tt
further_role many (role.Also n) h = h
further_role many role.Old h = h
further_role many role.New h = h
further_role many role.Map h = tt
further_role many role.From h = h
further_role many role.To h = h

-- what is accepted of these
abbrev pub the_translating : Schemas → Repository → Head → ℕ → Translating
the_translating schemas repository head frame = record { schemas = schemas; repository = repository; head = head; frame = frame }

module _ (told : Option (List ℕ → Option (List ℕ))) (words : BridgeWords) where
  -- ---- the schema isn't there

  pub schema_stopped : (why : LoadStop) → LoadsChecked told words.schema (Err why) → LoadsFiles (tofix_files words) told (Err (stop_of role.Schema why))
  schema_stopped (Refused why) h =
      record { judges = λ contents same. ends_all role.Schema (file_schema (contents words.schema)) why (JudgesMapped contents words (Err (refused_as role.Schema why))) (h contents same); fails = tt; good = tt }
  schema_stopped Fault h = record { judges = λ contents same. tt; fails = tt; good = tt }
  schema_stopped NoMemory h = record { judges = λ contents same. tt; fails = tt; good = tt }

  module _ (first : WireSchema) where
    -- ---- the schema is there

    module _ (there : LoadsChecked told words.schema (Ok first)) where
      all_judged : (contents : List ℕ → Option (List ℕ)) → told ≡ Some contents → (r : Result Translating JobStop) → MappedSo words first contents r → JudgedSo (JudgesTranslating words contents) r
      all_judged contents same (Ok t) h = goes_on role.Schema (file_schema (contents words.schema)) first (JudgesMapped contents words (Ok t)) (Ok t) (there contents same) h
      all_judged contents same (Err (stop.Refused file)) h =
          goes_on role.Schema (file_schema (contents words.schema)) first (JudgesMapped contents words (Err file)) (Err file) (there contents same) h
      all_judged contents same (Err (stop.Fault at)) h = tt
      all_judged contents same (Err stop.NoMemory) h = tt

      pub mapped_loaded : (r : Result Translating JobStop) → LoadsMapped words first told r → LoadsFiles (tofix_files words) told r
      mapped_loaded r h = record { judges = λ contents same. all_judged contents same r (h.judges contents same); fails = h.fails; good = h.good }

    -- ---- the mapping isn't there

    pub map_stopped : (why : LoadStop) → LoadsMap told words.map (Err why) → LoadsMapped words first told (Err (stop_of role.Map why))
    map_stopped (Refused why) h = record {
      judges = λ contents same. ends_all role.Map (file_map (contents words.map)) why (JudgesRest contents words first (Err (refused_as role.Map why))) (h contents same);
      fails = tt;
      good = tt;
    }
    map_stopped Fault h = record { judges = λ contents same. tt; fails = tt; good = tt }
    map_stopped NoMemory h = record { judges = λ contents same. tt; fails = tt; good = tt }

    -- ---- the mapping is there

    module _ (repository : Repository) (mapped : LoadsMap told words.map (Ok repository)) where
      rest_judged : (contents : List ℕ → Option (List ℕ)) → told ≡ Some contents → (answer : Result Translating RefusedFile) → JudgesRest contents words first answer repository
          → JudgesMapped contents words answer first
      rest_judged contents same answer rest = goes_on role.Map (file_map (contents words.map)) repository (JudgesRest contents words first answer) answer (mapped contents same) rest

      pub further_stopped : (why : JobStop) → LoadsMore told (alone first) words.also (Err why) → FailsAt (length words.also) (Err why) → LoadsMapped words first told (Err why)
      further_stopped (stop.Refused file) h fails =
          record { judges = λ contents same. rest_judged contents same (Err file) (Err file, h contents same, refl); fails = tt; good = tt }
      further_stopped (stop.Fault at) h fails = record { judges = λ contents same. tt; fails = further_role (length words.also) at fails; good = tt }
      further_stopped stop.NoMemory h fails = record { judges = λ contents same. tt; fails = tt; good = tt }

      pub all_mapped : (schemas : Schemas) (r : Result Translating JobStop) → LoadsMore told (alone first) words.also (Ok schemas) → AreInOrder schemas → IsMade words schemas repository r
          → LoadsMapped words first told r
      all_mapped schemas (Ok t) h order is = record {
        judges = λ contents same. rest_judged contents same (Ok t) (Ok schemas, h contents same, ap Ok is);
        fails = tt;
        good = subst (λ (u : Translating). AreInOrder u.schemas) (sym is) order;
      }
      all_mapped schemas (Err (stop.Refused file)) h order is = absurd is
      all_mapped schemas (Err (stop.Fault at)) h order is = absurd is
      all_mapped schemas (Err stop.NoMemory) h order is = record { judges = λ contents same. tt; fails = tt; good = tt }

-- ---- a translator is made

module _ (words : BridgeWords) (schemas : Schemas) (repository : Repository) where
  pub made_caused : (before now : ℕ) (r : Result Translating JobStop) → IsMade words schemas repository r → now ≡ before → JobCause before now r
  made_caused before now (Ok t) h same = same
  made_caused before now (Err (stop.Refused file)) h same = absurd h
  made_caused before now (Err (stop.Fault at)) h same = absurd h
  made_caused before now (Err stop.NoMemory) h same = same

  pub made_named : (loads : FileRole → ℕ) (before now : ℕ) (r : Result Translating JobStop) → IsMade words schemas repository r → NamesLastBy loads before now r
  made_named loads before now (Ok t) h = tt
  made_named loads before now (Err (stop.Refused file)) h = absurd h
  made_named loads before now (Err (stop.Fault at)) h = absurd h
  made_named loads before now (Err stop.NoMemory) h = tt

  pub made_with : (t : Translating) (head : Head) (frame : ℕ) → t ≡ the_translating schemas repository head frame → head ≡ words.head → frame ≡ words.frame → IsMade words schemas repository (Ok t)
  made_with t head frame is same_head same_frame =
      is ∙ ap (λ top. the_translating schemas repository top frame) same_head ∙ ap (λ n. the_translating schemas repository words.head n) same_frame

-- ---- what a mapping that was loaded was read of

module _ (r : Repository) where
  same_read : (s : Repository) (v : Verdict) → ◌≡◌ {A = Mapping} (kept s v) (Ok r) → s ≡ r
  same_read s (Ok x) h = ok_is h
    where
      ok_is : ◌≡◌ {A = Mapping} (Ok s) (Ok r) → s ≡ r
      ok_is e = cc
  same_read s (Err e) h = absurd (no_mapping h)
    where
      no_mapping : ◌≡◌ {A = Mapping} (Err e) (Ok r) → ⊥
      no_mapping q = cc

  read_so : (bytes : List ℕ) → map_of bytes ≡ Ok r → repository_of bytes ≡ Ok r
  read_so bytes h = by (repository_of bytes) refl h
    where
      by : (q : Reading Repository) → repository_of bytes ≡ q → ◌≡◌ {A = Mapping} (mapping_from q) (Ok r) → repository_of bytes ≡ Ok r
      by (Ok s) e k = e ∙ ap Ok (same_read s (verdict (members_of s)) k)
      by (Err x) e k = absurd (no_mapping k)
        where
          no_mapping : ◌≡◌ {A = Mapping} (mapping_from (Err x)) (Ok r) → ⊥
          no_mapping q = cc

  -- each MsgType of a mapping that was loaded may be the value of a field
  pub loaded_kinds : WasRead r → HasKinds (mapping_of (members_of r))
  loaded_kinds h = read_kinds h.0 r (read_so h.0 h.1)

-- ---- a stop is the same, whatever was to be loaded

pub cause_kept : (S T : Type 0) (before now : ℕ) (why : JobStop) → JobCause {T = S} before now (Err why) → JobCause {T = T} before now (Err why)
cause_kept S T before now (stop.Refused file) h = h
cause_kept S T before now (stop.Fault at) h = h
cause_kept S T before now stop.NoMemory h = h

pub named_kept : (S T : Type 0) (loads : FileRole → ℕ) (before now : ℕ) (why : JobStop) → NamesLastBy {T = S} loads before now (Err why) → NamesLastBy {T = T} loads before now (Err why)
named_kept S T loads before now (stop.Refused file) h = h
named_kept S T loads before now (stop.Fault at) h = h
named_kept S T loads before now stop.NoMemory h = tt

-- a schema that is taken, with its plans
pub joined_laid_out : (told : Option (List ℕ → Option (List ℕ))) (schemas : Schemas) (name : List ℕ) (schema its : WireSchema) → LoadsChecked told name (Ok schema) → Joins schemas schema (Ok schema)
    → its ≡ schema → LoadsJoining told schemas name (Ok its)
joined_laid_out told schemas name schema its h joins is =
    subst (λ (s : WireSchema). LoadsJoining told schemas name (Ok s)) (sym is) (judged_joined told schemas name schema (Ok schema) h joins)
