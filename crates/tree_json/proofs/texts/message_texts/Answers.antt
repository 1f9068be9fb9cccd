use Rattle.std.proofs.Common.{◌≡◌, ◌+◌, ◌∷◌, [], ◌++◌, sym, ap, ◌∙◌, subst, arith, take}
use Rattle.std.specs.Prelude.{length}
use Rattle.tree_json.specs.Texts.{AreMessageTexts, IsPrintable}
use Rattle.flat_rows.proofs.RowsJudged.{first_of}
use Rattle.layout_tables.proofs.Items.{take_one, all_taken}
use Rattle.tree_json.proofs.LevelTextsOf.{messages_more}
use Rattle.tree_json.proofs.texts.message_texts.Goals as goal

pub loop-level-init : goal.loop-level-init
loop-level-init c = record { printable = c.requires; texts = subst (AreMessageTexts []) (sym c.new-texts.ensures) tt }

pub level_texts-requires : goal.level_texts-requires
level_texts-requires c = (first_of IsPrintable c.args.messages.now c.loop-level.level-index c.level-item.result (omega arith) c.level-item.is c.loop-level.invariant.printable).0

pub loop-level-preserved : goal.loop-level-preserved
loop-level-preserved c =
    let all = c.args.messages.now in
    let i = c.loop-level.level-index in
    let level = c.level-item.result in
    let so_far = c.loop-level.invariant in
    let more = messages_more (take i all) c.loop-level.texts level _ so_far.texts c.in_ok-level_texts.ensures in
    record {
      printable = (first_of IsPrintable all i level (omega arith) c.level-item.is so_far.printable).1;
      texts = subst (AreMessageTexts (take (i + 1) all)) (sym c.in_ok-push.ensures.ok) (subst (λ ls. AreMessageTexts ls (c.loop-level.texts ++ c.in_ok-level_texts.field-0 ∷ [])) (sym (take_one all i level (omega arith) c.level-item.is)) more);
    }

pub returns : goal.returns
returns c = subst (λ ls. AreMessageTexts ls c.loop-level.texts) (all_taken c.loop-level.level-index c.args.messages.now (omega arith)) c.loop-level.invariant.texts
