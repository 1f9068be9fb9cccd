use Rattle.std.proofs.Common.{◌≡◌, ◌+◌, List, [], ◌∷◌, ◌++◌, take, drop, length, length-drop, slice_get, Some, refl, sym, ap, ◌∙◌, subst, arith}
use Rattle.sbe_types.specs.declared.message.Value.{Value}
use Rattle.bridge_terms.specs.Blocks.{AreHeld}
use Rattle.bridge_terms.specs.Gathering.{each, values_of_fields}
use Rattle.bridge_terms.specs.Parts.{pieces_of}
use Rattle.bridge_terms.specs.Plans.{Tree}
use Rattle.field_judge.specs.Fields.{fields_of}
use Rattle.field_judge.specs.declared.level.BackGroup.{BackGroup}
use Rattle.field_judge.specs.Heads.{group_head, located, AreLocated}
use Rattle.field_judge.specs.Levels.{IsGroupRow, IsLevel}
use Rattle.field_judge.proofs.Cutting.{piece_next, IsFront}
use Rattle.field_judge.proofs.Judging.{drop_both, if_ok}
use Rattle.field_judge.proofs.SliceLemmas.{got}
use Rattle.field_blocks.specs.Blocks.{AreEntries, IsBlockOf}
use Rattle.field_blocks.specs.Found.{parts_in, run_found, AreFound, HoldsGroups, IsGroupLevel}
use Rattle.field_blocks.specs.Wired.{IsWired}
use Rattle.field_blocks.proofs.Entries.{none_cut, none_left, none_yet, one_more, AreSoFar}
use Rattle.field_blocks.proofs.Gathered.{gathered, gathered_parts, holds_all}
use Rattle.field_blocks.proofs.Lists.{one_longer}
use Rattle.field_blocks.proofs.Rows.{group_is, none_row, some_held, some_row, value_group}
use Rattle.field_blocks.proofs.Runs.{no_run, run_pieces}
use Rattle.field_blocks.proofs.Steps.{group_next, no_group}
use Rattle.field_blocks.proofs.blocks.+blocks.Goals as goal

-- ---- a block

pub block_of_fields-returns : goal.block_of_fields-returns
block_of_fields-returns t c = λ p values level numbered wired held is.
    let fields = c.args.fields.now in
    let levels = c.args.levels.now in
    let places = sym (c.as_slice-places.ensures.value) in
    let found : AreFound levels p c.args.back.now c.as_slice-places.result.now fields = record {
      rows = record { level = level; numbered = numbered };
      located = subst (λ ps. AreLocated p ps fields) places (c.in_ok-found.ensures.located levels p level numbered);
    } in
    let parts = parts_in p fields in
    let own = c.in_ok-own.own in
    let more = c.in_ok-parts.parts in
    let groups = c.in_ok-groups.groups in
    let all = gathered p parts (record { fields = own; groups = groups; parts = more }) values
    (holds_all c.args.level.now p parts (record { fields = own; groups = groups; parts = more }) own groups more (record { fields = refl; groups = refl; parts = refl }) wired
    (c.in_ok-own.ensures.held levels p found) (c.in_ok-groups.ensures.held p found) (c.in_ok-parts.ensures.held levels p found)
    c.in_ok-own.ensures.size c.in_ok-groups.ensures.size c.in_ok-parts.ensures.size) held (gathered_parts p (fields_of fields) values is) in
    record {
      lengths = record { fields = c.in_ok-own.ensures.size; groups = c.in_ok-groups.ensures.size; parts = c.in_ok-parts.ensures.size };
      entries = all.1;
      values = all.0;
    }

-- ---- groups

pub group_values-loop-i-init : goal.group_values-loop-i-init
group_values-loop-i-init t c = record {
  size = ap length c.new-values.ensures;
  within = omega arith;
  held = λ p found. subst (HoldsGroups p (parts_in p c.args.fields.now) c.args.own.now) (sym c.new-values.ensures) (no_group p (parts_in p c.args.fields.now) c.args.own.now);
}

pub group_values-loop-i-preserved : goal.group_values-loop-i-preserved
group_values-loop-i-preserved t c =
    let at = c.loop-i in
    let value = c.in_ok-value.value in
    record {
      size = ap length c.in_ok-push.ensures.ok ∙ one_longer at.values value ∙ ap (λ n. n + 1) at.invariant.size;
      within = omega (arith, c.loop-i-test.true, c.len-i-end.ensures);
      held = λ p found.
          subst (HoldsGroups p (parts_in p c.args.fields.now) c.args.own.now) (sym c.in_ok-push.ensures.ok)
          (group_next p (parts_in p c.args.fields.now) c.args.own.now at.values value at.i c.at.result.now at.invariant.size c.at.ensures
          (λ k g inner es here same all is. c.in_ok-value.ensures p k g inner es found here same all is) (at.invariant.held p found));
    }

pub group_values-returns-clause-size : goal.group_values-returns-clause-size
group_values-returns-clause-size t c = omega (arith, c.loop-i.invariant.size, c.loop-i.invariant.within, c.loop-i-test.false, c.len-i-end.ensures)

pub group_values-returns-clause-held : goal.group_values-returns-clause-held
group_values-returns-clause-held t c = c.loop-i.invariant.held

pub group_value-returns-in_default : goal.group_value-returns-in_default
group_value-returns-in_default t c = λ p k g inner es found at same all is. none_row c.row_of.result _ c.in_default.is (c.row_of.ensures.row c.args.levels.now p k (group_head g inner) found.rows at same.id)

pub group_value-returns-in-Value : goal.group_value-returns-in-Value
group_value-returns-in-Value t c = λ p k g inner es found at same all is.
    let row = some_row c.row_of.result _ c.in-Some.found c.in-Some.is (c.row_of.ensures.row c.args.levels.now p k (group_head g inner) found.rows at same.id) in
    value_group (sym c.in-Value.is ∙ row.0.2.is)

pub group_value-group_entries-requires : goal.group_value-group_entries-requires
group_value-group_entries-requires t c =
    let at = some_held c.row_of.result _ c.in-Some.found c.in-Some.is c.row_of.ensures.place in
    omega (arith, at.1, c.requires.within at.0)

pub group_value-returns-in_ok-group_entries-in-Group : goal.group_value-returns-in_ok-group_entries-in-Group
group_value-returns-in_ok-group_entries-in-Group t c = λ p k g inner es found at same all is.
    let fields = c.args.fields.now in
    let levels = c.args.levels.now in
    let own = c.in-Group.own in
    let entries = c.in_ok-group_entries-in-Group.field-0 in
    let row = some_row c.row_of.result _ c.in-Some.found c.in-Some.is (c.row_of.ensures.row levels p k (group_head g inner) found.rows at same.id) in
    let here : row.0.0 ≡ own = group_is (sym row.0.2.is ∙ c.in-Group.is) in
    let inside : IsGroupLevel levels own inner = record {
      own = row.0.1;
      there = ap (λ (b : BackGroup). slice_get levels b.level) (sym here) ∙ row.0.3;
      rows = record { level = row.0.4; numbered = row.0.5 };
    } in
    let place = ap (located (group_head g inner) fields) row.1 ∙ found.located k (group_head g inner) at in
    record {
      entries = entries;
      is = refl;
      are = subst (λ l. AreEntries l inner es entries) same.level
          (c.in_ok-group_entries-in-Group.ensures g inner c.in-Some.found.row.now es (subst (λ b. IsGroupRow g b c.in-Some.found.row.now) here row.0.2) inside
          (subst (λ l. IsWired l inner) (sym same.level) same.wired) all (ap (run_found g inner) place ∙ is));
    }

-- ---- entries

pub group_entries-returns-then-place-eq0 : goal.group_entries-returns-then-place-eq0
group_entries-returns-then-place-eq0 t c = λ g inner r es row inside wired all is.
    subst (AreEntries c.args.level.now inner es) (sym c.new.ensures) (no_run c.args.level.now g inner c.args.fields.now c.args.place es c.if-place-eq0.true is)

pub group_entries-returns : goal.group_entries-returns
group_entries-returns t c = if_ok c.entries_of.result _ _ (λ entries tells g inner r es row inside wired all is.
    tells inner es inside wired all
    (run_pieces g inner c.args.own.now r c.args.fields.now c.rest_from-rest.result.now c.front.result.now c.args.place c.owned_len-many.result es row
    (omega (arith, c.if-place-eq0.false)) c.requires.within c.rest_from-rest.ensures c.front.ensures c.owned_len-many.ensures.run is)) c.entries_of.ensures

pub entries_of-returns-in_default : goal.entries_of-returns-in_default
entries_of-returns-in_default t c = λ inner es inside wired all is.
    none_row c.level_at.result _ c.in_default.is (c.level_at.ensures inside.own inside.there)

pub entries_of-pieces-init : goal.entries_of-pieces-init
entries_of-pieces-init t c =
    let run = c.args.run.now in
    let d = c.args.group.now.delimiter in
    let first = c.rest_from-first.result.now in
    record {
      shorter = omega (arith, ap length c.rest_from-first.ensures, length-drop c.piece_len-begin.result run);
      front = ap (λ ys. (pieces_of d (fields_of ys)).front) c.rest_from-first.ensures ∙ c.piece_len-begin.ensures.next;
      told = λ inner es inside wired all is.
          subst (λ entries. AreSoFar c.args.level.now inner es entries (pieces_of d (fields_of first)).pieces) (sym c.new-entries.ensures)
          (none_yet c.args.level.now inner es (pieces_of d (fields_of first)).pieces all
          (ap (λ ys. each (values_of_fields inner) (pieces_of d (fields_of ys)).pieces) c.rest_from-first.ensures
          ∙ ap (each (values_of_fields inner)) (sym c.piece_len-begin.ensures.pieces) ∙ is));
    }

pub entries_of-pieces-preserved : goal.entries_of-pieces-preserved
entries_of-pieces-preserved t c =
    let left = c.pieces.left.now in
    let d = c.args.group.now.delimiter in
    let n = c.piece_len-many.result in
    let levels = c.args.levels.now in
    let level = c.args.level.now in
    let is : IsFront d (drop 1 left) n = subst (λ r. IsFront d r n) c.rest_from.ensures (c.piece_len-many.ensures.front, c.piece_len-many.ensures.pieces, c.piece_len-many.ensures.next) in
    record {
      shorter = omega (arith, c.pieces.invariant.shorter, ap length c.rest_from-left.ensures, length-drop (1 + n) left);
      front = ap (λ r. (pieces_of d (fields_of r)).front) (c.rest_from-left.ensures ∙ sym (drop_both n left)) ∙ is.2;
      told = λ inner es inside wired all is_some.
          let x = got left 0 (omega (arith, c.pieces-test.true)) in
          let same = c.in-Some.ensures inside.own inside.there in
          let so_far = c.pieces.invariant.told inner es inside wired all is_some in
          let piece = fields_of (take (1 + n) left) in
          let pieces = (pieces_of d (fields_of (drop (1 + n) left))).pieces in
          let step = piece_next d left x.0 n x.1 c.pieces.invariant.front is in
          let built : (values : Tree Value inner) → AreHeld inner values → values_of_fields inner piece ≡ Some values → IsBlockOf level inner values c.in_ok-block.block =
          λ values held found.
          c.in_ok-block.ensures inner values (subst (IsLevel levels inner) (sym same) inside.rows.level) inside.rows.numbered wired held
          (ap (λ r. values_of_fields inner (fields_of r)) c.front.ensures ∙ found) in
          let more = one_more level inner es c.pieces.entries piece pieces c.in_ok-block.block (subst (AreSoFar level inner es c.pieces.entries) step so_far) built in
          subst (λ entries. AreSoFar level inner es entries (pieces_of d (fields_of c.rest_from-left.result.now)).pieces) (sym c.in_ok-push.ensures.ok)
          (subst (λ ys. AreSoFar level inner es (c.pieces.entries ++ c.in_ok-block.block ∷ []) (pieces_of d (fields_of ys)).pieces) (sym c.rest_from-left.ensures) more);
    }

pub entries_of-returns : goal.entries_of-returns
entries_of-returns t c = λ inner es inside wired all is.
    none_left c.args.level.now inner es c.pieces.entries (pieces_of c.args.group.now.delimiter (fields_of c.pieces.left.now)).pieces
    (none_cut c.args.group.now.delimiter c.pieces.left.now (omega (arith, c.pieces-test.false))) (c.pieces.invariant.told inner es inside wired all is)
