use Rattle.std.proofs.Common.{◌≡◌, ◌+◌, ◌∷◌, [], ◌++◌, sym, ap, ◌∙◌, subst, arith, take}
use Rattle.std.specs.List.{AllByRecursion}
use Rattle.sbe_types.specs.declared.schema.Field.{Field}
use Rattle.sbe_types.specs.declared.schema.Group.{Group, out-Group}
use Rattle.sbe_types.specs.declared.schema.Level.{out-Level}
use Rattle.schema_facts.specs.InOrder.{IsKindInOrder}
use Rattle.schema_facts.specs.Measured.{AreNarrowFields}
use Rattle.json_rows.specs.Pieces.{pieces_between}
use Rattle.json_rows.specs.Tables.{HasPieces}
use Rattle.tree_json.specs.Texts.{text_before, text_behind, AreGroupsPrintable, HaveTexts, IsPrintable}
use Rattle.flat_rows.proofs.RowsJudged.{first_of}
use Rattle.layout_tables.proofs.Items.{take_one, all_taken}
use Rattle.flyweight_view.specs.Deep.{deepest}
use Rattle.flyweight_view.proofs.Depth.{item_deep, level_is}
use Rattle.tree_json.proofs.LevelTextsOf.{groups_more, level_made}
use Rattle.tree_json.proofs.Printable.{level_parts}
use Rattle.tree_json.proofs.texts.+make.Goals as goal

pub level_texts-text_rows_of-requires-clause-order : goal.level_texts-text_rows_of-requires-clause-order
level_texts-text_rows_of-requires-clause-order t c = subst (AllByRecursion (λ (f : Field). IsKindInOrder f.kind)) (sym c.as_slice.ensures) (level_parts c.args.level.now c.requires).kinds

pub level_texts-text_rows_of-requires-clause-narrow : goal.level_texts-text_rows_of-requires-clause-narrow
level_texts-text_rows_of-requires-clause-narrow t c = subst (AreNarrowFields 0) (sym c.as_slice.ensures) (level_parts c.args.level.now c.requires).narrow

pub level_texts-group_texts-requires : goal.level_texts-group_texts-requires
level_texts-group_texts-requires t c = (
  omega (arith, ap deepest c.as_slice-2.ensures, level_is c.args.level.now, c.decreases),
  subst AreGroupsPrintable (sym c.as_slice-2.ensures) (level_parts c.args.level.now c.requires).groups,
)

pub level_texts-returns : goal.level_texts-returns
level_texts-returns t c =
    let level = c.args.level.now in
    let fields = (out-Level level).fields in
    let pieces = ap (λ fs. pieces_between c.before_fields-before.result.now c.after_fields-after.result.now fs) c.as_slice.ensures
    ∙ ap (λ b. pieces_between b c.after_fields-after.result.now fields) c.before_fields-before.ensures
    ∙ ap (λ b. pieces_between (text_before (out-Level level).parts) b fields) c.after_fields-after.ensures in
    level_made level c.in_ok-fields.fields c.in_ok-groups.groups (subst (λ ps. HasPieces ps c.in_ok-fields.fields) pieces c.in_ok-fields.ensures)
    (subst (λ gs. HaveTexts gs c.in_ok-groups.groups) c.as_slice-2.ensures c.in_ok-groups.ensures)

pub group_texts-loop-group-init : goal.group_texts-loop-group-init
group_texts-loop-group-init t c = record { printable = c.requires; texts = subst (HaveTexts []) (sym c.new-texts.ensures) tt }

pub group_texts-level_texts-requires : goal.group_texts-level_texts-requires
group_texts-level_texts-requires t c =
    let all = c.args.groups.now in
    let i = c.loop-group.group-index in
    let g = c.group-item.result in (
      omega (arith, item_deep all i g (omega arith) c.group-item.is, c.decreases),
      (first_of (λ (g : Group). IsPrintable (out-Group g).level) all i g (omega arith) c.group-item.is c.loop-group.invariant.printable).0,
    )

pub group_texts-loop-group-preserved : goal.group_texts-loop-group-preserved
group_texts-loop-group-preserved t c =
    let all = c.args.groups.now in
    let i = c.loop-group.group-index in
    let g = c.group-item.result in
    let so_far = c.loop-group.invariant in
    let more = groups_more (take i all) c.loop-group.texts g _ so_far.texts c.in_ok-level_texts.ensures in
    record {
      printable = (first_of (λ (g : Group). IsPrintable (out-Group g).level) all i g (omega arith) c.group-item.is so_far.printable).1;
      texts = subst (HaveTexts (take (i + 1) all)) (sym c.in_ok-push.ensures.ok) (subst (λ gs. HaveTexts gs (c.loop-group.texts ++ c.in_ok-level_texts.field-0 ∷ [])) (sym (take_one all i g (omega arith) c.group-item.is)) more);
    }

pub group_texts-returns : goal.group_texts-returns
group_texts-returns t c = subst (λ gs. HaveTexts gs c.loop-group.texts) (all_taken c.loop-group.group-index c.args.groups.now (omega arith)) c.loop-group.invariant.texts
