-- Both files are loaded.
use Rattle.std.proofs.Common.{◌≡◌, ℕ, List, Option, Some, Result, Ok, Err, refl, sym, ap, ◌∙◌, subst}
use Rattle.sbe_base.specs.Causes.{one_more}
use Rattle.sbe_types.specs.declared.schema.WireSchema.{WireSchema}
use Rattle.schema_facts.specs.IsChecked.{IsChecked}
use Rattle.schema_files.specs.FileChecks.{file_schema}
use Rattle.schema_files.specs.Files.{JobCause, LoadsChecked, NamesLast, stop_of}
use Rattle.schema_files.specs.declared.files.FileRefusal.{FileRefusal}
use Rattle.schema_files.specs.declared.files.FileRole.TheVariants as role
use Rattle.schema_files.specs.declared.files.JobStop.{JobStop}
use Rattle.schema_files.specs.declared.files.JobStop.TheVariants as stop
use Rattle.schema_files.specs.declared.files.LoadStop.{LoadStop}
use Rattle.schema_files.specs.declared.files.LoadStop.TheVariants.{Refused, Fault, NoMemory}
use Rattle.schema_files.specs.declared.files.RefusedFile.{RefusedFile}
use Rattle.schema_files.proofs.Judging.{file_checked}
use Rattle.command_files.specs.Files.{LoadsFiles}
use Rattle.regrade_laws.specs.declared.way.Way.{Way}
use Rattle.regrade_laws.specs.Regraded.{way_of}
use Rattle.regrade.specs.declared.ways.WayErr.{WayErr}
use Rattle.regrade.specs.declared.ways.WayErr.TheVariants as err
use Rattle.regrade.specs.Ways.{GivesWay}
use Rattle.regrade_command.specs.Regrade.{FromTo, Regrading, IsRegradable}
use Rattle.regrade_command.specs.Regrades.{paired, regrade_check, regraded_for, JudgesPair, JudgesPairAs, regrade_files, way_stop}

module _ (told : Option (List ℕ → Option (List ℕ))) (from to : List ℕ) (frame : ℕ) where
  pub from_stopped : (why : LoadStop) → LoadsChecked told from (Err why) → LoadsFiles (regrade_files from to frame) told (Err (stop_of role.From why))
  from_stopped (Refused why) h = record { judges = λ contents same. sym (ap (λ f. regraded_for frame (regrade_check f (file_schema (contents to)))) (h contents same)); fails = tt; good = tt }
  from_stopped Fault h = record { judges = λ contents same. tt; fails = tt; good = tt }
  from_stopped NoMemory h = record { judges = λ contents same. tt; fails = tt; good = tt }

  pub to_stopped : (first : WireSchema) (why : LoadStop) → LoadsChecked told from (Ok first) → LoadsChecked told to (Err why) →
      LoadsFiles (regrade_files from to frame) told (Err (stop_of role.To why))
  to_stopped first (Refused why) h k = record {
    judges = λ contents same.
        sym (ap (λ f. regraded_for frame (regrade_check f (file_schema (contents to)))) (h contents same) ∙ ap (λ f. regraded_for frame (regrade_check (Ok first) f)) (k contents same));
    fails = tt;
    good = tt;
  }
  to_stopped first Fault h k = record { judges = λ contents same. tt; fails = tt; good = tt }
  to_stopped first NoMemory h k = record { judges = λ contents same. tt; fails = tt; good = tt }

  module _ (first second : WireSchema) (h : LoadsChecked told from (Ok first)) (k : LoadsChecked told to (Ok second)) where
    abbrev pair : FromTo
    pair = record { from = first; to = second }

    both : (contents : List ℕ → Option (List ℕ)) → told ≡ Some contents →
        regrade_check (file_schema (contents from)) (file_schema (contents to)) ≡ paired pair (way_of first second)
    both contents same = ap (λ f. regrade_check f (file_schema (contents to))) (h contents same) ∙ ap (regrade_check (Ok first)) (k contents same)

    pub pair_loaded : (r : Result Regrading JobStop) → JudgesPairAs pair frame r → LoadsFiles (regrade_files from to frame) told r
    pair_loaded (Ok on) judged = record { judges = λ contents same. judged.0 ∙ sym (ap (regraded_for frame) (both contents same)); fails = tt; good = judged.1 }
    pair_loaded (Err (stop.Refused file)) judged = record { judges = λ contents same. ap (regraded_for frame) (judged ∙ sym (both contents same)); fails = tt; good = tt }
    pair_loaded (Err (stop.Fault role)) judged = absurd judged
    pair_loaded (Err stop.NoMemory) judged = record { judges = λ contents same. tt; fails = tt; good = tt }

-- ---- the judgement of a pair

module _ (pair : FromTo) (frame : ℕ) where
  pub pair_judges : (on : Regrading) (way : Way) → way_of pair.from pair.to ≡ Ok way → on ≡ record { pair = pair; frame = frame } →
      IsRegradable on.pair → JudgesPairAs pair frame (Ok on)
  pair_judges on way stands is good = (ap Ok is ∙ sym (ap (λ w. regraded_for frame (paired pair w)) stands), good)

  pub pair_stops : (why : WayErr) → GivesWay (Err why) (way_of pair.from pair.to) → JudgesPairAs pair frame (Err (way_stop why))
  pair_stops (err.NotAnExtension path) told = sym (ap (paired pair) told)
  pair_stops err.Memory told = tt

-- what a pair of files that were loaded is judged as tells of the files
module _ (pair : FromTo) (frame before now : ℕ) where
  pub pair_caused : (r : Result Regrading JobStop) → JudgesPairAs pair frame r → now ≡ before → JobCause before now r
  pair_caused (Ok on) judged same = same
  pair_caused (Err (stop.Refused file)) judged same = same
  pair_caused (Err (stop.Fault role)) judged same = absurd judged
  pair_caused (Err stop.NoMemory) judged same = same

  names_to : (file : RefusedFile) (way : Result Way (List ℕ)) → Err file ≡ paired pair way → now ≡ one_more (one_more before) →
      NamesLast {T = Regrading} before now (Err (stop.Refused file))
  names_to file (Ok way) e count = cc
  names_to file (Err path) e count = let same : file.role ≡ role.To = cc in rw same count

  pub pair_named : (r : Result Regrading JobStop) → JudgesPairAs pair frame r → now ≡ one_more (one_more before) → NamesLast before now r
  pair_named (Ok on) judged count = tt
  pair_named (Err (stop.Refused file)) judged count = names_to file (way_of pair.from pair.to) judged count
  pair_named (Err (stop.Fault role)) judged count = absurd judged
  pair_named (Err stop.NoMemory) judged count = tt

-- ---- accepted files

-- the schemas of accepted files are in order, and have a way
pub regrade_good : (from to : List ℕ) (frame : ℕ) (contents : List ℕ → Option (List ℕ)) (on : Regrading) → JudgesPair from to frame contents (Ok on) →
    IsRegradable on.pair
regrade_good from to frame contents on h = by (file_schema (contents from)) (file_schema (contents to)) refl refl h
  where
    by_way : (first second : WireSchema) → IsChecked first → IsChecked second → (way : Result Way (List ℕ)) → way_of first second ≡ way →
        Ok on ≡ regraded_for frame (paired (record { from = first; to = second }) way) → IsRegradable on.pair
    by_way first second one other (Ok way) e k =
        let pair : FromTo = record { from = first; to = second } in
        let same : on ≡ record { pair = pair; frame = frame } = cc in
        let good : IsRegradable pair = record { from = one; to = other; way = (way, e) } in
        subst IsRegradable (sym (ap (λ (o : Regrading). o.pair) same)) good
    by_way first second one other (Err path) e k = cc

    by : (a b : Result WireSchema FileRefusal) → file_schema (contents from) ≡ a → file_schema (contents to) ≡ b →
        Ok on ≡ regraded_for frame (regrade_check a b) → IsRegradable on.pair
    by (Ok first) (Ok second) e f k = by_way first second (file_checked (contents from) first e) (file_checked (contents to) second f) (way_of first second) refl k
    by (Ok first) (Err why) e f k = cc
    by (Err why) b e f k = cc
