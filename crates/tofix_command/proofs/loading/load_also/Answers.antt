use Rattle.std.proofs.Common.{Ok, Err, ◌+◌, ◌∙◌, sym, ap, subst, arith}
use Rattle.map_types.specs.Trees.{members_of}
use Rattle.bridge_mapping.specs.Mapped.{mapping_of}
use Rattle.layout_tables.proofs.Items.{drop_is, all_dropped}
use Rattle.dump_lines.specs.declared.schemas.Schemas.{Schemas}
use Rattle.dump_lines.specs.Dumped.{AreInOrder}
use Rattle.schema_files.specs.Files.{LoadsJoining}
use Rattle.schema_files.proofs.Judging.{all_behind}
use Rattle.schema_files.proofs.Loading.{Onward, also_named_with_map, fails_at, loads_more, onward_more, onward_ends, onward_stops}
use Rattle.tofix_command.specs.declared.translations.Translations.{Translations}
use Rattle.tofix_command.specs.Planned.{schemas_of, ArePlannedBy}
use Rattle.tofix_command.proofs.Finding.{more_planned, schemas_more}
use Rattle.tofix_command.proofs.loading.load_also.Goals as goal

pub returns-in-Err-clause-loads : goal.returns-in-Err-clause-loads
returns-in-Err-clause-loads g c =
    let told = (g.F.Files.state c.args.files.now).told in
    let now = schemas_of c.loop-i.all in
    let loads = rw c.loop-i.invariant.kept at c.in-Err.ensures.loads in
    let front = drop_is c.args.also.now c.loop-i.i c.index-also-i.result (omega arith) c.index-also-i.is in
    rw c.of.ensures (onward_stops told (schemas_of c.args.schemas) now c.loop-i.i c.args.also.now c.index-also-i.result c.in-Err.stop c.loop-i.invariant.onward front
    (subst (λ n. LoadsJoining told now n (Err c.in-Err.stop)) c.as_str.ensures loads))

pub returns-in-Err-clause-fails : goal.returns-in-Err-clause-fails
returns-in-Err-clause-fails g c = rw c.of.ensures (fails_at _ c.loop-i.i c.in-Err.stop (omega arith))

pub returns-in-Err-clause-names : goal.returns-in-Err-clause-names
returns-in-Err-clause-names g c =
    rw c.of.ensures (also_named_with_map Translations c.loop-i.i (g.F.Files.load_count c.args.files.now) _ _ c.in-Err.stop c.loop-i.invariant.counted c.in-Err.ensures.count)

pub loop-i-preserved : goal.loop-i-preserved
loop-i-preserved g c =
    let told = (g.F.Files.state c.args.files.now).told in
    let now = schemas_of c.loop-i.all in
    let further = c.in-Ok.further in
    let loads = rw c.loop-i.invariant.kept at c.in-Ok.ensures.loads in
    let front = drop_is c.args.also.now c.loop-i.i c.index-also-i.result (omega arith) c.index-also-i.is in
    let start = schemas_of c.args.schemas in
    let more = onward_more told start now c.loop-i.i c.args.also.now c.index-also-i.result further.layout c.loop-i.invariant.onward front
    (subst (λ n. LoadsJoining told now n (Ok further.layout)) c.as_str.ensures loads) in
    let grown = schemas_more c.loop-i.all further in
    let added = c.in-Ok-push.ensures.added in
    let m = mapping_of (members_of c.args.repository.now) in
    record {
      kept = c.in-Ok.ensures.kept ∙ c.loop-i.invariant.kept;
      calm = c.in-Ok.ensures.cause ∙ c.loop-i.invariant.calm;
      counted = loads_more c.loop-i.i (g.F.Files.load_count c.args.files.now) _ _ c.loop-i.invariant.counted c.in-Ok.ensures.count;
      order = subst (λ (a : Translations). AreInOrder (schemas_of a)) (sym added)
          (subst AreInOrder (sym grown) (c.loop-i.invariant.order.0, all_behind now.also further.layout c.loop-i.invariant.order.1 c.schema-schema.ensures.order));
      planned = subst (ArePlannedBy m) (sym added) (more_planned m c.loop-i.all further c.loop-i.invariant.planned c.in-Ok.ensures.planned);
      first = c.loop-i.invariant.first ∙ ap (λ (a : Translations). a.first.layout) (sym added);
      onward = subst (λ (a : Translations). Onward told start (schemas_of a) (c.loop-i.i + 1) c.args.also.now) (sym added)
          (subst (λ (s : Schemas). Onward told start s (c.loop-i.i + 1) c.args.also.now) (sym grown) more);
    }

pub returns-clause-loads : goal.returns-clause-loads
returns-clause-loads g c =
    onward_ends (g.F.Files.state c.args.files.now).told (schemas_of c.args.schemas) (schemas_of c.loop-i.all) c.loop-i.i c.args.also.now c.loop-i.invariant.onward (all_dropped c.args.also.now c.loop-i.i (omega arith))
