use Rattle.std.proofs.Common.{◌≡◌, ◌<◌, ◌++◌, ◌∷◌, List, [], Some, None, Bor, get_or, length, slice_get, refl, sym, ap, ◌∙◌, subst, arith}
use Rattle.std.specs.Prelude.{codes, map, option_map}
use Rattle.sbe_types.specs.declared.schema.Group.{out-Group}
use Rattle.sbe_wire.specs.Named.{Spot, spot_named}
use Rattle.reference_graph.specs.Expansion.{Structure}
use Rattle.structure_rows.specs.declared.row.PlaceRow.{PlaceRow}
use Rattle.structure_rows.specs.Rows.{rows_of}
use Rattle.level_places.specs.Places.{FirstPlace}
use Rattle.level_places.proofs.Gathering.{first_and_rest}
use Rattle.bridge_plan.specs.Mappings.{delimiter_of, Mapping}
use Rattle.bridge_plan.specs.Covers.{level_in, plan_of, slot_of}
use Rattle.bridge_cover.specs.Tables.{AreTables}
use Rattle.field_judge.proofs.Judging.{if_ok}
use Rattle.field_judge.specs.Levels.{IsLevel}
use Rattle.field_judge.specs.declared.level.BackGroup.{BackGroup}
use Rattle.field_judge.specs.declared.level.BackLevel.{BackLevel}
use Rattle.field_judge.specs.declared.level.BackPart.TheVariants as part
use Rattle.field_judge.specs.declared.level.BackRow.{BackRow}
use Rattle.back_levels.specs.declared.found.Found.TheVariants as found
use Rattle.field_blocks.proofs.Rows.{some_held}
use Rattle.plan_rows.specs.Found.{group_front}
use Rattle.plan_rows.proofs.Finding.{group_at, group_order, level_same, no_group_at}
use Rattle.back_levels.specs.Found.{AreFront, AreKept, Goes, GoesFound}
use Rattle.back_levels.proofs.Grouped.{count_told, tags_of_rows}
use Rattle.back_levels.proofs.Fronts.{on_ok_kept, at_end, goes_on, no_rows, group_there, kept_all, kept_more, kept_on, leads_group, leads_slot, no_count, no_delimiter, no_group, no_repeat, rows_kept, slot_front, whole_level}
use Rattle.back_levels.proofs.level.+levels.Goals as goal

pub level_by-places-init : goal.level_by-places-init
level_by-places-init t c = record {
  shorter = omega arith;
  kept = kept_all c.args.levels.now.items;
  rows = λ m s h k.
      let p = plan_of m s c.args.level.now in
      (s, k, subst (Goes c.args.levels.now.items p p) (sym c.new-rows.ensures) (no_rows c.args.levels.now.items p));
}

pub level_by-places-preserved : goal.level_by-places-preserved
level_by-places-preserved t c =
    let level = c.args.level.now in
    let none : PlaceRow = record { tag = 0; entries = None } in
    let left = c.places.left.now in
    let whole = first_and_rest none left c.in-len1-up.len_at_least in
    let before = c.places.levels.items in
    let after = c.place_row.new.levels.items in
    let kept = c.in_ok-found.ensures.kept in
    record {
      shorter = omega (arith, c.first_place.ensures.shorter, ap length whole, c.places.invariant.shorter);
      kept = kept_on c.args.levels.now.items before after c.places.invariant.kept kept;
      rows = λ m s h k.
          let q = c.places.invariant.rows m s h k in
          let lead = c.in_ok-found.ensures.goes m q.0 c.first_place.result.1.now h (c.first_place.ensures.place q.0 (whole ∙ q.1)) in (
            lead.0,
            lead.1,
            subst (Goes after (plan_of m s level) (plan_of m lead.0 level)) (sym c.in_ok-put_found.ensures.rows)
                (goes_on before after (plan_of m s level) (plan_of m q.0 level) (plan_of m lead.0 level) c.places.rows _ kept q.2 (lead.2 (sym c.in_ok-put_found.ensures.made ∙ c.if-not-branch.false))),
          );
    }

pub level_by-returns-clause-level : goal.level_by-returns-clause-level
level_by-returns-clause-level t c = λ m s h k.
    let q = c.places.invariant.rows m s h k in
    whole_level c.places.levels.items m c.args.level.now (plan_of m s c.args.level.now) q.0 _ c.places.rows
    (subst (λ (rows : List PlaceRow). length rows < 1) q.1 c.in_default.len_below)
    (c.in_ok-tags_of_rows.ensures ∙ ap (map (λ (r : BackRow). r.tag)) c.as_slice.ensures) q.2

pub place_row-returns-in-None-clause-goes : goal.place_row-returns-in-None-clause-goes
place_row-returns-in-None-clause-goes t c =
    let tag = c.args.tag in
    let level = c.args.level.now in
    let own = ap (option_map (λ (places : Bor (List PlaceRow)). places.now)) c.in-None.is in
    if_ok c.slot_row.result _ _ (λ f is m s after h place.
    leads_slot c.args.levels.now.items m s level tag after f (subst (λ o. FirstPlace s tag o after) own place) (slot_front c.args.levels.now.items (slot_of m tag level) f (is m h))) c.slot_row.ensures

pub place_row-returns-in-Some-clause-goes : goal.place_row-returns-in-Some-clause-goes
place_row-returns-in-Some-clause-goes t c =
    let tag = c.args.tag in
    let level = c.args.level.now in
    let own = ap (option_map (λ (places : Bor (List PlaceRow)). places.now)) c.in-Some.is in
    if_ok c.group_row.result _ _ (λ f front m s after h place.
    leads_group c.group_row.new.levels.items m s level tag c.in-Some.places.now after f (subst (λ o. FirstPlace s tag o after) own place) (λ inner k. front m inner h k)) c.group_row.ensures.front

-- ---- groups

pub group_row-returns-in_default-clause-front : goal.group_row-returns-in_default-clause-front
group_row-returns-in_default-clause-front t c = λ m inner h k.
    let tag = c.args.tag in
    let level = c.args.level.now in
    no_group c.args.levels.now.items m tag inner level (no_group_at tag level c.args.ids.now.groups c.place.result c.place.ensures.is c.requires.ids.groups c.in_default.is)

pub group_row-returns-in_default-delimiter_of-clause-front : goal.group_row-returns-in_default-delimiter_of-clause-front
group_row-returns-in_default-delimiter_of-clause-front t c = λ m inner h k.
    let tag = c.args.tag in
    let level = c.args.level.now in
    let own = c.at-group.result.now in
    let there = group_at tag c.in-Some.i level c.args.ids.now.groups c.place.result own c.place.ensures.is c.requires.ids.groups c.in-Some.is c.at-group.ensures in
    no_repeat c.args.levels.now.items m tag inner level c.in-Some.i own there (no_delimiter tag c.in-Some.i inner own (sym (c.delimiter_of.ensures inner k) ∙ c.in_default-delimiter_of.is))

pub group_row-returns-in_default-count_of-clause-front : goal.group_row-returns-in_default-count_of-clause-front
group_row-returns-in_default-count_of-clause-front t c = λ m inner h k.
    let tag = c.args.tag in
    let level = c.args.level.now in
    let own = c.at-group.result.now in
    let there = group_at tag c.in-Some.i level c.args.ids.now.groups c.place.result own c.place.ensures.is c.requires.ids.groups c.in-Some.is c.at-group.ensures in
    let begins = sym (c.delimiter_of.ensures inner k) ∙ c.in-Some-delimiter_of.is in
    let none = count_told own ∙ ap (λ d. option_map (λ (s : Spot). s.leaf) (spot_named 0 (codes "numInGroup") d)) (sym c.as_slice.ensures) ∙ sym (c.count_of.ensures 0) ∙ c.in_default-count_of.is in
    no_repeat c.args.levels.now.items m tag inner level c.in-Some.i own there (no_count tag c.in-Some.i c.in-Some-delimiter_of.delimiter inner own begins none)

pub group_row-level_of-requires : goal.group_row-level_of-requires
group_row-level_of-requires t c = (omega arith, group_order c.args.level.now c.in-Some.i c.at-group.result.now c.requires.order c.at-group.ensures)

pub group_row-returns-clause-kept : goal.group_row-returns-clause-kept
group_row-returns-clause-kept t c =
    let before = c.args.levels.now.items in
    let middle = c.level_of.new.levels.items in
    subst (AreKept before) (sym c.in_ok-push.ensures.items) (kept_on before middle _ c.in_ok-own.ensures.kept (kept_more middle c.in-Some-2.own))

pub group_row-returns-clause-front : goal.group_row-returns-clause-front
group_row-returns-clause-front t c = λ m inner h k.
    let tag = c.args.tag in
    let level = c.args.level.now in
    let own = c.at-group.result.now in
    let middle = c.level_of.new.levels.items in
    let there = group_at tag c.in-Some.i level c.args.ids.now.groups c.place.result own c.place.ensures.is c.requires.ids.groups c.in-Some.is c.at-group.ensures in
    let begins = sym (c.delimiter_of.ensures inner k) ∙ c.in-Some-delimiter_of.is in
    let counts = count_told own ∙ ap (λ d. option_map (λ (s : Spot). s.leaf) (spot_named 0 (codes "numInGroup") d)) (sym c.as_slice.ensures) ∙ sym (c.count_of.ensures 0) ∙ c.in-Some-count_of.is in
    let made = some_held c.in_ok-own.field-0 _ c.in-Some-2.own c.in-Some-2.is c.in_ok-own.ensures.level in
    let is = subst (λ l. IsLevel middle (plan_of m inner l) c.in-Some-2.own) (level_same own) (made m inner h k) in
    let after = middle ++ c.in-Some-2.own ∷ [] in
    let inside : IsLevel after (plan_of m inner (level_in own)) c.in-Some-2.own = record {
      tags = is.tags;
      rows = rows_kept middle after (kept_more middle c.in-Some-2.own) (plan_of m inner (level_in own)) c.in-Some-2.own.rows is.rows;
    } in
    let number : c.len-number.result ≡ length middle = omega (arith, c.len-number.ensures) in
    let placed = ap (slice_get after) number ∙ at_end middle c.in-Some-2.own in
    let group : BackGroup = record { delimiter = c.in-Some-delimiter_of.delimiter; count = c.in-Some-count_of.count; owned = c.in_ok-owned.owned; level = c.len-number.result } in
    let row : BackRow = record { tag = tag; part = part.Group group } in
    subst (λ (levels : List BackLevel). AreFront levels (group_front m tag inner level) (found.Row row)) (sym c.in_ok-push.ensures.items)
    (group_there after m tag inner level c.in-Some.i c.in-Some-delimiter_of.delimiter own c.in-Some-count_of.count group c.in-Some-2.own
    there begins counts refl refl (c.in_ok-owned.ensures ∙ ap (map (λ (p : PlaceRow). p.tag)) k ∙ tags_of_rows inner) placed inside)

-- ---- the levels that are there stay

pub group_row-returns-in_default-clause-kept : goal.group_row-returns-in_default-clause-kept
group_row-returns-in_default-clause-kept t c = kept_all c.args.levels.now.items

pub group_row-returns-in_default-delimiter_of-clause-kept : goal.group_row-returns-in_default-delimiter_of-clause-kept
group_row-returns-in_default-delimiter_of-clause-kept t c = kept_all c.args.levels.now.items

pub group_row-returns-in_default-count_of-clause-kept : goal.group_row-returns-in_default-count_of-clause-kept
group_row-returns-in_default-count_of-clause-kept t c = kept_all c.args.levels.now.items

pub level_by-returns-clause-kept : goal.level_by-returns-clause-kept
level_by-returns-clause-kept t c = c.places.invariant.kept

pub level_by-returns-then-not-branch-clause-kept : goal.level_by-returns-then-not-branch-clause-kept
level_by-returns-then-not-branch-clause-kept t c =
    kept_on c.args.levels.now.items c.places.levels.items c.place_row.new.levels.items c.places.invariant.kept c.in_ok-found.ensures.kept

pub place_row-returns-in-None-clause-kept : goal.place_row-returns-in-None-clause-kept
place_row-returns-in-None-clause-kept t c = on_ok_kept c.slot_row.result c.args.levels.now.items

pub place_row-returns-in-Some-clause-kept : goal.place_row-returns-in-Some-clause-kept
place_row-returns-in-Some-clause-kept t c = c.group_row.ensures.kept
