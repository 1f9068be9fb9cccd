use Rattle.std.proofs.Common.{Ok, Err, ◌+◌, ◌∙◌, sym, ap, subst, arith}
use Rattle.layout_tables.proofs.Items.{drop_is, all_dropped}
use Rattle.dump_lines.specs.declared.schemas.Schemas.{Schemas}
use Rattle.schema_files.specs.Files.{LoadsJoining}
use Rattle.schema_files.proofs.Loading.{Onward, also_named, loads_more, onward_more, onward_ends, onward_stops}
use Rattle.schema_files.proofs.schemas.load_also.Goals as goal

pub returns-in-Err-clause-loads : goal.returns-in-Err-clause-loads
returns-in-Err-clause-loads g c =
    let loads = rw c.loop-i.invariant.kept at c.in-Err.ensures.loads in
    let front = drop_is c.args.also.now c.loop-i.i c.index-also-i.result (omega arith) c.index-also-i.is in
    rw c.of.ensures (onward_stops (g.F.Files.state c.args.files.now).told c.args.schemas c.loop-i.all c.loop-i.i c.args.also.now c.index-also-i.result c.in-Err.stop c.loop-i.invariant.onward front
    (subst (λ n. LoadsJoining (g.F.Files.state c.args.files.now).told c.loop-i.all n (Err c.in-Err.stop)) c.as_str.ensures loads))

pub returns-in-Err-clause-names : goal.returns-in-Err-clause-names
returns-in-Err-clause-names g c =
    rw c.of.ensures (also_named Schemas c.loop-i.i (g.F.Files.load_count c.args.files.now) _ _ c.in-Err.stop c.loop-i.invariant.counted c.in-Err.ensures.count)

pub loop-i-preserved : goal.loop-i-preserved
loop-i-preserved g c =
    let told = (g.F.Files.state c.args.files.now).told in
    let loads = rw c.loop-i.invariant.kept at c.in-Ok.ensures.loads in
    let front = drop_is c.args.also.now c.loop-i.i c.index-also-i.result (omega arith) c.index-also-i.is in
    let more = onward_more told c.args.schemas c.loop-i.all c.loop-i.i c.args.also.now c.index-also-i.result c.in-Ok.layout c.loop-i.invariant.onward front
    (subst (λ n. LoadsJoining told c.loop-i.all n (Ok c.in-Ok.layout)) c.as_str.ensures loads) in
    record {
      kept = c.in-Ok.ensures.kept ∙ c.loop-i.invariant.kept;
      calm = c.in-Ok.ensures.cause ∙ c.loop-i.invariant.calm;
      counted = loads_more c.loop-i.i (g.F.Files.load_count c.args.files.now) _ _ c.loop-i.invariant.counted c.in-Ok.ensures.count;
      order = c.in-Ok-push.ensures.order;
      first = c.loop-i.invariant.first ∙ ap (λ (s : Schemas). s.first) (sym c.in-Ok-push.ensures.schemas);
      onward = subst (λ (s : Schemas). Onward told c.args.schemas s (c.loop-i.i + 1) c.args.also.now) (sym c.in-Ok-push.ensures.schemas) more;
    }

pub returns-clause-loads : goal.returns-clause-loads
returns-clause-loads g c =
    onward_ends (g.F.Files.state c.args.files.now).told c.args.schemas c.loop-i.all c.loop-i.i c.args.also.now c.loop-i.invariant.onward (all_dropped c.args.also.now c.loop-i.i (omega arith))
