use Rattle.sbe_types.specs.declared.message.DataVal.{DataVal}
use Rattle.std.proofs.Common.{◌≡◌, ◌≤◌, ◌<◌, ◌+◌, ◌*◌, ◌^◌, ℕ, suc, List, [], Result, Ok, Err, length, drop, sym, ap, ◌∙◌, subst, arith}
use Rattle.std.specs.Vec.Iter.{into_iter_items}
use Rattle.sbe_types.specs.declared.message.Block.{Block, out-Block}
use Rattle.sbe_types.specs.declared.message.GroupVal.{GroupVal}
use Rattle.sbe_types.specs.declared.message.GroupVal.TheVariants as groupval
use Rattle.sbe_types.specs.declared.path.Step.TheVariants as way
use Rattle.sbe_types.specs.declared.schema.Group.{out-Group}
use Rattle.sbe_types.specs.declared.schema.Level.{out-Level}
use Rattle.schema_facts.specs.CheckedLevels.{groups_deep}
use Rattle.schema_facts.specs.Counted.{total}
use Rattle.body_walk.proofs.LevelsReady.{group_shallow}
use Rattle.regrade_laws.specs.Fill.{Fills, part_or_fill}
use Rattle.regrade_laws.specs.Filled.{filled_block, filled_entries, filled_group, filled_list}
use Rattle.regrade_laws.specs.Counts.{count_pairs, filled_count, filled_group_count, fills_part, sum_pairs}
use Rattle.regrade.specs.declared.filler.Unfilled.{Unfilled}
use Rattle.regrade.specs.Fillings.{IsFilled, IsLow}
use Rattle.regrade.proofs.Items.{no_items}
use Rattle.regrade.proofs.Levels.{few_here, few_group}
use Rattle.regrade.proofs.FillOne.{group_filled, group_lacks, group_counts}
use Rattle.regrade.proofs.FillWalk.{with_all, list_goes, list_none, list_refused, sum_goes, sum_none, entries_go, entries_none, entries_refused, goes_low, low_most, is_short}
use Rattle.regrade.proofs.FillWhole.{entries_filled, entries_not_filled, fields_refused, groups_refused, parts_refused, block_filled}
use Rattle.regrade.proofs.Rows.{counted_is, counted_entries_are}
use Rattle.regrade.proofs.filling.+fill_parts.Goals as goal

-- ---- groups

pub fill_groups-fill_group-requires : goal.fill_groups-fill_group-requires
fill_groups-fill_group-requires t c =
    let at = c.loop-value in
    let step = ap (sum_pairs filled_group_count (drop at.i (out-Level c.args.level.now).groups)) c.in-Some.ensures.steps.0 ∙ sum_goes filled_group filled_group_count (out-Level c.args.level.now).groups at.i c.at.result.now c.in-Some.value (into_iter_items c.next.new.self) c.at.ensures in
    let shallow = group_shallow c.args.level.now at.i c.at.result.now c.at.ensures in (
      omega (arith, shallow, c.decreases),
      (few_group c.args.level.now at.i c.at.result.now c.requires.few c.at.ensures, (omega (arith, shallow, c.requires.shallow), omega (arith, step, at.invariant.count, c.requires.room))),
    )

pub fill_groups-inside-requires : goal.fill_groups-inside-requires
fill_groups-inside-requires t c =
    let shallow = group_shallow c.args.level.now c.loop-value.i c.at.result.now c.at.ensures in
    is_short GroupVal (2 * groups_deep (out-Group c.at.result.now).level + 2) c.in-Err.why c.fill_group.new.filler c.in-Err.ensures.low (omega (arith, shallow, c.requires.shallow))

pub fill_groups-returns-in-Err-clause-filled : goal.fill_groups-returns-in-Err-clause-filled
fill_groups-returns-in-Err-clause-filled t c =
    let at = c.loop-value in
    let so_far = ap (λ vs. with_all at.written (filled_list filled_group (c.len-first.result + at.i) (drop at.i (out-Level c.args.level.now).groups) vs)) (sym c.in-Some.ensures.steps.0) ∙ at.invariant.told in
    subst (λ (why : Unfilled). IsFilled (filled_list filled_group (length (out-Level c.args.level.now).fields) (out-Level c.args.level.now).groups c.args.values) (sum_pairs filled_group_count (out-Level c.args.level.now).groups c.args.values) c.args.filler.now c.inside.new.self (Err why)) (sym c.inside.ensures.why)
    (list_refused filled_group filled_group_count (out-Level c.args.level.now).groups (filled_list filled_group (length (out-Level c.args.level.now).fields) (out-Level c.args.level.now).groups c.args.values) (sum_pairs filled_group_count (out-Level c.args.level.now).groups c.args.values) at.written at.i (c.len-first.result + at.i) c.at.result.now c.in-Some.value (into_iter_items c.next.new.self) c.in-Err.why
    c.args.filler.now at.filler c.fill_group.new.filler c.inside.new.self c.at.ensures c.in-Err.ensures.filled c.inside.ensures.lack so_far)

pub fill_groups-returns-in-Err-clause-low : goal.fill_groups-returns-in-Err-clause-low
fill_groups-returns-in-Err-clause-low t c =
    let at = c.loop-value in
    let shallow = group_shallow c.args.level.now at.i c.at.result.now c.at.ensures in
    let m = 2 * groups_deep (out-Group c.at.result.now).level + 2 in
    let low : IsLow {X = List GroupVal} (suc m) c.inside.new.self (Err c.in-Err.why) = goes_low GroupVal (List GroupVal) m (way.Part (c.len-first.result + at.i)) c.in-Err.why c.fill_group.new.filler c.inside.new.self c.in-Err.ensures.low c.inside.ensures.lack in
    subst (λ (why : Unfilled). IsLow {X = List GroupVal} (2 * groups_deep c.args.level.now + 1) c.inside.new.self (Err why)) (sym c.inside.ensures.why)
    (low_most (List GroupVal) (suc m) (2 * groups_deep c.args.level.now + 1) c.inside.new.self (Err c.in-Err.why) (omega (arith, shallow)) low)

pub fill_groups-loop-value-preserved : goal.fill_groups-loop-value-preserved
fill_groups-loop-value-preserved t c =
    let at = c.loop-value in
    let left = into_iter_items c.next.new.self in
    let steps = c.in-Some.ensures.steps.0 in
    let on : c.len-first.result + (at.i + 1) ≡ suc (c.len-first.result + at.i) = omega arith in
    let step = ap (sum_pairs filled_group_count (drop at.i (out-Level c.args.level.now).groups)) steps ∙ sum_goes filled_group filled_group_count (out-Level c.args.level.now).groups at.i c.at.result.now c.in-Some.value left c.at.ensures in
    let written = ap (λ xs. with_all xs (filled_list filled_group (c.len-first.result + (at.i + 1)) (drop (at.i + 1) (out-Level c.args.level.now).groups) left)) c.in-Ok-push.ensures.ok in
    let goes = list_goes filled_group filled_group_count (out-Level c.args.level.now).groups at.written at.i (c.len-first.result + at.i) (c.len-first.result + (at.i + 1)) c.at.result.now c.in-Some.value c.in-Ok.value left c.at.ensures c.in-Ok.ensures.filled.0 on in
    record {
      told = written ∙ goes ∙ ap (λ vs. with_all at.written (filled_list filled_group (c.len-first.result + at.i) (drop at.i (out-Level c.args.level.now).groups) vs)) (sym steps) ∙ at.invariant.told;
      count = omega (arith, step, c.in-Ok.ensures.filled.1, at.invariant.count);
      left = let gone = c.in-Some.ensures.steps.1 in let was = at.invariant.left in let short = ap length steps in omega arith;
      within = omega (arith, c.if-i-len.false, c.len.ensures);
    }

pub fill_groups-returns-clause-filled : goal.fill_groups-returns-clause-filled
fill_groups-returns-clause-filled t c =
    let at = c.loop-value in
    let none = no_items (into_iter_items at.value-iterator) (sym at.invariant.left ∙ c.in-None.ensures.steps.0) in (
      sym at.invariant.told ∙ list_none filled_group filled_group_count (out-Level c.args.level.now).groups at.written at.i (c.len-first.result + at.i) (into_iter_items at.value-iterator) none,
      omega (arith, at.invariant.count, sum_none filled_group filled_group_count (out-Level c.args.level.now).groups at.i (into_iter_items at.value-iterator) none),
    )

-- ---- a group

pub fill_group-fill_entries-requires : goal.fill_group-fill_entries-requires
fill_group-fill_entries-requires t c =
    let g = c.args.group.now in
    let counts = ap (filled_group_count g) c.in-Entries.is ∙ counted_entries_are g c.in-Entries.entries in
    (omega (arith, c.decreases), (c.requires.few, (c.requires.shallow, omega (arith, counts, c.requires.room))))

pub fill_group-returns-in-Ok-clause-filled : goal.fill_group-returns-in-Ok-clause-filled
fill_group-returns-in-Ok-clause-filled t c =
    entries_filled c.args.group.now c.args.value c.in-Entries.entries c.in-Entries.is c.args.filler.now c.fill_entries.new.filler c.in-Ok.entries c.in-Ok.ensures.filled

pub fill_group-returns-in-Err-clause-filled : goal.fill_group-returns-in-Err-clause-filled
fill_group-returns-in-Err-clause-filled t c =
    entries_not_filled c.args.group.now c.args.value c.in-Entries.entries c.in-Entries.is c.args.filler.now c.fill_entries.new.filler c.in-Err.why c.in-Err.ensures.filled

-- ---- entries

pub fill_entries-fill_block-requires : goal.fill_entries-fill_block-requires
fill_entries-fill_block-requires t c =
    let at = c.loop-entry in
    let step = ap (total (filled_count c.args.level.now)) c.in-Some.ensures.steps.0 in
    (omega (arith, c.decreases), (c.requires.few, (omega (arith, c.requires.shallow), omega (arith, step, at.invariant.count, c.requires.room))))

pub fill_entries-inside-requires : goal.fill_entries-inside-requires
fill_entries-inside-requires t c =
    is_short Block (2 * groups_deep c.args.level.now + 1) c.in-Err.why c.fill_block.new.filler c.in-Err.ensures.low (omega (arith, c.requires.shallow))

pub fill_entries-returns-in-Err-clause-filled : goal.fill_entries-returns-in-Err-clause-filled
fill_entries-returns-in-Err-clause-filled t c =
    let at = c.loop-entry in
    let w : Block → Fills Block = λ entry. filled_block c.args.level.now entry in
    let n : Block → ℕ = λ entry. filled_count c.args.level.now entry in
    let so_far = ap (λ es. with_all at.written (filled_entries w at.i es)) (sym c.in-Some.ensures.steps.0) ∙ at.invariant.told in
    subst (λ (why : Unfilled). IsFilled (filled_entries w 0 c.args.entries) (total n c.args.entries) c.args.filler.now c.inside.new.self (Err why)) (sym c.inside.ensures.why)
    (entries_refused w n (filled_entries w 0 c.args.entries) (total n c.args.entries) at.written at.i c.in-Some.entry (into_iter_items c.next.new.self) c.in-Err.why
    c.args.filler.now at.filler c.fill_block.new.filler c.inside.new.self c.in-Err.ensures.filled c.inside.ensures.lack so_far)

pub fill_entries-returns-in-Err-clause-low : goal.fill_entries-returns-in-Err-clause-low
fill_entries-returns-in-Err-clause-low t c =
    let at = c.loop-entry in
    let m = 2 * groups_deep c.args.level.now + 1 in
    let low : IsLow {X = List Block} (suc m) c.inside.new.self (Err c.in-Err.why) = goes_low Block (List Block) m (way.Entry at.i) c.in-Err.why c.fill_block.new.filler c.inside.new.self c.in-Err.ensures.low c.inside.ensures.lack in
    subst (λ (why : Unfilled). IsLow {X = List Block} (2 * groups_deep c.args.level.now + 2) c.inside.new.self (Err why)) (sym c.inside.ensures.why)
    (low_most (List Block) (suc m) (2 * groups_deep c.args.level.now + 2) c.inside.new.self (Err c.in-Err.why) (omega arith) low)

pub fill_entries-loop-entry-preserved : goal.fill_entries-loop-entry-preserved
fill_entries-loop-entry-preserved t c =
    let at = c.loop-entry in
    let w : Block → Fills Block = λ entry. filled_block c.args.level.now entry in
    let n : Block → ℕ = λ entry. filled_count c.args.level.now entry in
    let left = into_iter_items c.next.new.self in
    let steps = c.in-Some.ensures.steps.0 in
    let on : at.i + 1 ≡ suc at.i = omega arith in
    let step = ap (total n) steps in
    let written = ap (λ xs. with_all xs (filled_entries w (at.i + 1) left)) c.in-Ok-push.ensures.ok in
    let goes = entries_go w n at.written at.i (at.i + 1) c.in-Some.entry c.in-Ok.entry left c.in-Ok.ensures.filled.0 on in
    record {
      told = written ∙ goes ∙ ap (λ es. with_all at.written (filled_entries w at.i es)) (sym steps) ∙ at.invariant.told;
      count = omega (arith, step, c.in-Ok.ensures.filled.1, at.invariant.count);
      left = let gone = c.in-Some.ensures.steps.1 in let was = at.invariant.left in let short = ap length steps in omega arith;
      within = let short = ap length steps in let was = at.invariant.within in omega arith;
    }

pub fill_entries-returns-clause-filled : goal.fill_entries-returns-clause-filled
fill_entries-returns-clause-filled t c =
    let at = c.loop-entry in
    let w : Block → Fills Block = λ entry. filled_block c.args.level.now entry in
    let n : Block → ℕ = λ entry. filled_count c.args.level.now entry in
    let none = no_items (into_iter_items at.entry-iterator) (sym at.invariant.left ∙ c.in-None.ensures.steps.0) in
    let no_more = ap (total n) none in
    (sym at.invariant.told ∙ entries_none w n at.written at.i (into_iter_items at.entry-iterator) none, omega (arith, at.invariant.count, no_more))

-- ---- a block

pub fill_block-fill_fields-requires : goal.fill_block-fill_fields-requires
fill_block-fill_fields-requires t c =
    record { few = omega (arith, few_here c.args.level.now c.requires.few); room = omega (arith, counted_is c.args.level.now c.args.block, c.requires.room) }

pub fill_block-fill_groups-requires : goal.fill_block-fill_groups-requires
fill_block-fill_groups-requires t c =
    (omega (arith, c.decreases), (c.requires.few, (c.requires.shallow, omega (arith, counted_is c.args.level.now c.args.block, c.requires.room, c.in-Ok.ensures.filled.1))))

pub fill_block-fill_parts-requires : goal.fill_block-fill_parts-requires
fill_block-fill_parts-requires t c =
    record { few = omega (arith, few_here c.args.level.now c.requires.few); room = omega (arith, counted_is c.args.level.now c.args.block, c.requires.room, c.in-Ok.ensures.filled.1, c.in-Ok-fill_groups.ensures.filled.1) }

pub fill_block-overflow_add-first : goal.fill_block-overflow_add-first
fill_block-overflow_add-first t c = omega (arith, few_here c.args.level.now c.requires.few, c.len.ensures, c.len-2.ensures)

pub fill_block-returns-in-Err-clause-filled : goal.fill_block-returns-in-Err-clause-filled
fill_block-returns-in-Err-clause-filled t c = fields_refused c.args.level.now c.args.block c.args.filler.now c.fill_fields.new.filler c.in-Err.why c.in-Err.ensures.filled

pub fill_block-returns-in-Err-fill_groups-clause-filled : goal.fill_block-returns-in-Err-fill_groups-clause-filled
fill_block-returns-in-Err-fill_groups-clause-filled t c =
    groups_refused c.args.level.now c.args.block c.args.filler.now c.args.filler.now c.fill_fields.new.filler c.fill_groups.new.filler c.in-Ok.fields c.in-Err-fill_groups.why c.in-Ok.ensures.filled c.in-Err-fill_groups.ensures.filled

pub fill_groups-overflow_add-first : goal.fill_groups-overflow_add-first
fill_groups-overflow_add-first t c = omega (arith, few_here c.args.level.now c.requires.few, c.len-first.ensures, c.if-i-len.false, c.len.ensures)

pub fill_groups-overflow_cast-first : goal.fill_groups-overflow_cast-first
fill_groups-overflow_cast-first t c = omega (arith, few_here c.args.level.now c.requires.few, c.len-first.ensures, c.if-i-len.false, c.len.ensures)

pub fill_entries-overflow_cast-i : goal.fill_entries-overflow_cast-i
fill_entries-overflow_cast-i t c =
    let steps = ap (λ (es : List Block). length es) c.in-Some.ensures.steps.0 in
    omega (arith, steps, c.loop-entry.invariant.within, c.if-len.false, c.len.ensures)

pub fill_entries-overflow_add-i : goal.fill_entries-overflow_add-i
fill_entries-overflow_add-i t c =
    let steps = ap (λ (es : List Block). length es) c.in-Some.ensures.steps.0 in
    omega (arith, steps, c.loop-entry.invariant.within, c.if-len.false, c.len.ensures)

pub fill_block-returns-in-Err-fill_parts-clause-filled : goal.fill_block-returns-in-Err-fill_parts-clause-filled
fill_block-returns-in-Err-fill_parts-clause-filled t c =
    let level = out-Level c.args.level.now in
    let parts = (out-Block c.args.block).parts in
    let at : c.len.result + c.len-2.result ≡ length level.fields + length level.groups = omega (arith, c.len.ensures, c.len-2.ensures) in
    let here = subst (λ k. IsFilled {X = List DataVal} (filled_list part_or_fill k level.parts parts) (count_pairs fills_part level.parts parts) c.fill_groups.new.filler c.fill_parts.new.filler (Err c.in-Err-fill_parts.why)) at c.in-Err-fill_parts.ensures.filled in
    parts_refused c.args.level.now c.args.block c.args.filler.now c.args.filler.now c.fill_fields.new.filler c.fill_groups.new.filler c.fill_parts.new.filler c.in-Ok.fields c.in-Ok-fill_groups.groups c.in-Err-fill_parts.why
    c.in-Ok.ensures.filled c.in-Ok-fill_groups.ensures.filled here

pub fill_block-returns-clause-filled : goal.fill_block-returns-clause-filled
fill_block-returns-clause-filled t c =
    let level = out-Level c.args.level.now in
    let parts = (out-Block c.args.block).parts in
    let at : c.len.result + c.len-2.result ≡ length level.fields + length level.groups = omega (arith, c.len.ensures, c.len-2.ensures) in
    let here = subst (λ k. IsFilled {X = List DataVal} (filled_list part_or_fill k level.parts parts) (count_pairs fills_part level.parts parts) c.fill_groups.new.filler c.fill_parts.new.filler (Ok c.in-Ok-fill_parts.parts)) at c.in-Ok-fill_parts.ensures.filled in
    block_filled c.args.level.now c.args.block c.args.filler.now c.fill_fields.new.filler c.fill_groups.new.filler c.fill_parts.new.filler c.in-Ok.fields c.in-Ok-fill_groups.groups c.in-Ok-fill_parts.parts
    c.in-Ok.ensures.filled c.in-Ok-fill_groups.ensures.filled here

pub fill_group-returns-then-not-admits_no_entries-clause-filled : goal.fill_group-returns-then-not-admits_no_entries-clause-filled
fill_group-returns-then-not-admits_no_entries-clause-filled t c =
    let g = c.args.group.now in
    subst (λ (why : Unfilled). IsFilled {X = GroupVal} (filled_group g c.args.value) (filled_group_count g c.args.value) c.args.filler.now c.lacks.new.self (Err why)) (sym c.lacks.ensures.why)
    (group_lacks g c.args.value c.in-Absent.is (sym c.if-not-admits_no_entries.ensures) ∙ ap Err (sym c.lacks.ensures.lack))

pub fill_group-overflow_add-filler : goal.fill_group-overflow_add-filler
fill_group-overflow_add-filler t c = omega (arith, group_counts c.args.group.now c.args.value c.in-Absent.is, c.requires.room)

pub fill_group-returns-else-not-admits_no_entries-clause-filled : goal.fill_group-returns-else-not-admits_no_entries-clause-filled
fill_group-returns-else-not-admits_no_entries-clause-filled t c =
    (group_filled c.args.group.now c.args.value c.in-Absent.is (sym c.if-not-admits_no_entries.ensures) ∙ ap (λ es. Ok (groupval.Entries es)) (sym c.new.ensures), omega (arith, group_counts c.args.group.now c.args.value c.in-Absent.is))
