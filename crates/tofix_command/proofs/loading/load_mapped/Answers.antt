use Rattle.std.proofs.Common.{◌∙◌, ℕ, List, length, Err, ap, subst}
use Rattle.sbe_base.specs.Causes.{one_more}
use Rattle.schema_files.specs.FileChecks.{alone}
use Rattle.schema_files.specs.Files.{loads_with_map, FailsAt, JobCause, LoadsMore}
use Rattle.schema_files.specs.declared.files.FileRole.TheVariants as role
use Rattle.schema_files.proofs.Loading.{named_last_by}
use Rattle.tofix_command.specs.Bridges.{words_in, Translating}
use Rattle.tofix_command.specs.Planned.{schemas_of}
use Rattle.tofix_command.specs.declared.translations.Translations.{Translations}
use Rattle.tofix_command.proofs.Loaded.{all_mapped, cause_kept, further_stopped, loaded_kinds, made_caused, made_named, map_stopped, named_kept}
use Rattle.tofix_command.proofs.loading.load_mapped.Goals as goal

-- ---- the mapping isn't accepted

pub returns-in-Err-clause-loads : goal.returns-in-Err-clause-loads
returns-in-Err-clause-loads g c =
    rw c.of.ensures (map_stopped (g.F.Files.state c.args.files.now).told (words_in c.args.words.now) c.args.first.now c.in-Err.stop c.in-Err.ensures.loads)

pub returns-in-Err-clause-names : goal.returns-in-Err-clause-names
returns-in-Err-clause-names g c = λ before same.
    rw c.of.ensures (named_last_by Translating loads_with_map role.Map before _ c.in-Err.stop (c.in-Err.ensures.count ∙ ap one_more same))

-- ---- a further schema isn't accepted

pub returns-in-Err-load_translations-clause-loads : goal.returns-in-Err-load_translations-clause-loads
returns-in-Err-load_translations-clause-loads g c =
    let told = (g.F.Files.state c.args.files.now).told in
    let start = alone c.args.first.now in
    let why = c.in-Err-load_translations.stop in
    let loads : LoadsMore (g.F.Files.state c.load_map.new.files).told start c.as_slice.result.now (Err why) = c.in-Err-load_translations.ensures.loads in
    let more = subst (λ ns. LoadsMore told start ns (Err why)) c.as_slice.ensures (subst (λ from. LoadsMore from start c.as_slice.result.now (Err why)) c.load_map.ensures.kept loads) in
    let fails = subst (λ (ns : List (List ℕ)). FailsAt (length ns) (Err why)) c.as_slice.ensures c.in-Err-load_translations.ensures.fails in
    further_stopped told (words_in c.args.words.now) c.args.first.now c.in-Ok.repository c.in-Ok.ensures.loads c.in-Err-load_translations.stop more fails

pub returns-in-Err-load_translations-clause-cause : goal.returns-in-Err-load_translations-clause-cause
returns-in-Err-load_translations-clause-cause g c =
    cause_kept Translations Translating (g.F.Files.state c.args.files.now).faults _ c.in-Err-load_translations.stop
    (subst (λ n. JobCause {T = Translations} n (g.F.Files.state c.load_translations.new.files).faults (Err c.in-Err-load_translations.stop)) c.in-Ok.ensures.cause
    c.in-Err-load_translations.ensures.cause)

pub returns-in-Err-load_translations-clause-names : goal.returns-in-Err-load_translations-clause-names
returns-in-Err-load_translations-clause-names g c = λ before same.
    named_kept Translations Translating loads_with_map before _ c.in-Err-load_translations.stop (c.in-Err-load_translations.ensures.names before (c.in-Ok.ensures.count ∙ ap one_more same))

-- ---- all are accepted

pub translator_of-requires-clause-kinds : goal.translator_of-requires-clause-kinds
translator_of-requires-clause-kinds g c = loaded_kinds c.in-Ok.repository c.in-Ok.ensures.read

pub returns-in-Ok-load_translations-clause-loads : goal.returns-in-Ok-load_translations-clause-loads
returns-in-Ok-load_translations-clause-loads g c =
    let more = rw (c.as_slice.ensures, c.load_map.ensures.kept) at c.in-Ok-load_translations.ensures.loads in
    all_mapped (g.F.Files.state c.args.files.now).told (words_in c.args.words.now) c.args.first.now c.in-Ok.repository c.in-Ok.ensures.loads (schemas_of c.in-Ok-load_translations.schemas)
    c.translator_of.result more c.in-Ok-load_translations.ensures.order c.translator_of.ensures

pub returns-in-Ok-load_translations-clause-cause : goal.returns-in-Ok-load_translations-clause-cause
returns-in-Ok-load_translations-clause-cause g c =
    made_caused (words_in c.args.words.now) (schemas_of c.in-Ok-load_translations.schemas) c.in-Ok.repository _ _ c.translator_of.result c.translator_of.ensures
    (c.in-Ok-load_translations.ensures.cause ∙ c.in-Ok.ensures.cause)

pub returns-in-Ok-load_translations-clause-names : goal.returns-in-Ok-load_translations-clause-names
returns-in-Ok-load_translations-clause-names g c = λ before same.
    made_named (words_in c.args.words.now) (schemas_of c.in-Ok-load_translations.schemas) c.in-Ok.repository loads_with_map before _ c.translator_of.result c.translator_of.ensures
