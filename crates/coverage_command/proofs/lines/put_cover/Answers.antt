use Rattle.std.proofs.Common.{sym, subst}
use Rattle.schema_lines.specs.Texts.{Puts}
use Rattle.bridge_plan.specs.Covers.{Cover as CoverOf}
use Rattle.value_texts.specs.Rows.{Spells}
use Rattle.message_plans.specs.Plans.{IsCover}
use Rattle.coverage_command.specs.Coverage.{cover_line}
use Rattle.coverage_command.proofs.lines.put_cover.Goals as goal

pub returns-in-Mapped : goal.returns-in-Mapped
returns-in-Mapped c = λ m is.
    let level = c.args.level.now in
    let own = subst (IsCover Spells m level) c.in-Mapped.is is in
    subst (λ (cover : CoverOf). Puts c.put_mapped.result c.args.out.now.items c.put_mapped.new.out.items (cover_line level cover)) (sym own.cover) c.put_mapped.ensures

pub returns-in-NoMessage : goal.returns-in-NoMessage
returns-in-NoMessage c = λ m is.
    let level = c.args.level.now in
    let own = subst (IsCover Spells m level) c.in-NoMessage.is is in
    subst (λ (cover : CoverOf). Puts c.put_refused.result c.args.out.now.items c.put_refused.new.out.items (cover_line level cover)) (sym own) c.put_refused.ensures

pub returns-in-Unmapped : goal.returns-in-Unmapped
returns-in-Unmapped c = λ m is.
    let level = c.args.level.now in
    let own = subst (IsCover Spells m level) c.in-Unmapped.is is in
    subst (λ (cover : CoverOf). Puts c.put_refused-in-Unmapped.result c.args.out.now.items c.put_refused-in-Unmapped.new.out.items (cover_line level cover)) (sym own)
    (rw c.as_slice.ensures at c.put_refused-in-Unmapped.ensures)
