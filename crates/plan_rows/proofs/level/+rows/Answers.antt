use Rattle.std.proofs.Common.{◌≡◌, ◌<◌, List, Some, None, Bor, get_or, length, is_some, true, false, sym, ap, ◌∙◌, subst, arith}
use Rattle.std.specs.Prelude.{codes, option_map}
use Rattle.sbe_types.specs.declared.schema.Group.{out-Group}
use Rattle.sbe_wire.specs.Named.{spot_named}
use Rattle.reference_graph.specs.Expansion.{Structure}
use Rattle.structure_rows.specs.declared.row.PlaceRow.{PlaceRow}
use Rattle.structure_rows.specs.Rows.{rows_of}
use Rattle.level_places.specs.Places.{FirstPlace}
use Rattle.level_places.proofs.Gathering.{first_and_rest}
use Rattle.bridge_plan.specs.Mappings.{delimiter_of, Mapping}
use Rattle.bridge_plan.specs.Covers.{count_leaf, plan_of, slot_of}
use Rattle.bridge_cover.specs.Tables.{AreTables}
use Rattle.message_walk.specs.Rows.{AreRows}
use Rattle.plan_rows.specs.Found.{found_rows, group_front, AreFront, Goes}
use Rattle.plan_rows.proofs.Finding.{group_at, level_same, no_group_at}
use Rattle.plan_rows.proofs.Fronts.{all_rows, count_there, goes_on, group_there, leads_group, leads_slot, no_group, slot_front, uncounted}
use Rattle.plan_rows.proofs.Ruling.{made_rows, some_of, turned_ok, turned_some}
use Rattle.plan_rows.proofs.level.+rows.Goals as goal

pub group_rows-returns-in_default : goal.group_rows-returns-in_default
group_rows-returns-in_default g t c = λ m inner h k.
    let tag = c.args.tag in
    let level = c.args.level.now in
    let follows = g.R.RuleRow.follows_rule in
    subst (AreFront follows m.lists (group_front m tag inner level)) (sym c.new.ensures.items)
    (no_group follows m tag inner level (no_group_at tag level c.args.ids.now.groups c.place.result c.place.ensures.is c.requires.ids.groups c.in_default.is))

pub group_rows-returns-then-not-has_count : goal.group_rows-returns-then-not-has_count
group_rows-returns-then-not-has_count g t c = λ m inner h k.
    let tag = c.args.tag in
    let level = c.args.level.now in
    let own = c.at-group.result.now in
    let follows = g.R.RuleRow.follows_rule in
    let there = group_at tag c.in-Some.i level c.args.ids.now.groups c.place.result own c.place.ensures.is c.requires.ids.groups c.in-Some.is c.at-group.ensures in
    let none : is_some (count_leaf own) ≡ false =
    count_there own ∙ ap (λ d. is_some (spot_named 0 (codes "numInGroup") d)) (sym c.as_slice.ensures) ∙ sym (c.has_count.ensures 0) ∙ c.if-not-has_count.true in
    subst (AreFront follows m.lists (group_front m tag inner level)) (sym c.new-then-not-has_count.ensures.items) (uncounted follows m tag inner level c.in-Some.i own there none)

pub group_rows-returns-in-Some-2 : goal.group_rows-returns-in-Some-2
group_rows-returns-in-Some-2 g t c =
    let tag = c.args.tag in
    let level = c.args.level.now in
    let own = c.at-group.result.now in
    let follows = g.R.RuleRow.follows_rule in
    let there = group_at tag c.in-Some.i level c.args.ids.now.groups c.place.result own c.place.ensures.is c.requires.ids.groups c.in-Some.is c.at-group.ensures in
    let counts : is_some (count_leaf own) ≡ true =
    count_there own ∙ ap (λ d. is_some (spot_named 0 (codes "numInGroup") d)) (sym c.as_slice.ensures) ∙ sym (c.has_count.ensures 0) ∙ c.if-not-has_count.false in
    let inside =
    some_of (λ rows. (m : Mapping) (s : Structure) → AreTables m c.args.tables.now → c.args.places.now ≡ rows_of s → AreRows follows m.lists (plan_of m s (out-Group own).level) rows.items)
    c.in_ok-level_rows.field-0 c.in-Some-2.entries c.in_ok-level_rows.ensures c.in-Some-2.is in
    turned_ok c.with_group.result c.with_group.ensures (λ made is. turned_some made is (λ rows are m inner h k.
    let delimited : is_some (delimiter_of inner) ≡ true = sym (c.begins_with_field.ensures inner k) ∙ c.if-not-begins_with_field.false in
    group_there follows m tag inner level c.in-Some.i own c.in-Some-2.entries.items rows.items there delimited counts (are m.lists h.tags)
    (subst (λ l. AreRows follows m.lists (plan_of m inner l) c.in-Some-2.entries.items) (level_same own) (inside m inner h k))))

pub level_rows-places-preserved : goal.level_rows-places-preserved
level_rows-places-preserved g t c =
    let level = c.args.level.now in
    let follows = g.R.RuleRow.follows_rule in
    let none : PlaceRow = record { tag = 0; entries = None } in
    let left = c.places.left.now in
    let after = c.first_place.result.1.now in
    let whole = first_and_rest none left c.in-len1-up.len_at_least in
    let goes =
    some_of
    (λ rows. (m : Mapping) (s : Structure) (after : List PlaceRow) → AreTables m c.args.tables.now → FirstPlace s (get_or left 0 none).tag (option_map (λ (own : Bor (List PlaceRow)). own.now) c.first_place.result.0) after →
    (more : Structure) × (after ≡ rows_of more) × Goes follows m.lists (plan_of m s level) (plan_of m more level) rows.items)
    c.in_ok-place_rows.field-0 c.in-Some.more c.in_ok-place_rows.ensures c.in-Some.is in
    record {
      shorter = omega (arith, c.first_place.ensures.shorter, ap length whole, c.places.invariant.shorter);
      rows = λ m s h k.
          let q = c.places.invariant.rows m s h k in
          let lead = goes m q.0 after h (c.first_place.ensures.place q.0 (whole ∙ q.1)) in (
            lead.0,
            lead.1,
            subst (Goes follows m.lists (plan_of m s level) (plan_of m lead.0 level)) (sym c.in_ok-put_rows-in-Some.ensures)
                (goes_on follows m.lists (plan_of m s level) (plan_of m q.0 level) (plan_of m lead.0 level) c.places.rows.items c.in-Some.more.items q.2 lead.2),
          );
    }

pub level_rows-returns : goal.level_rows-returns
level_rows-returns g t c = λ m s h k.
    let q = c.places.invariant.rows m s h k in
    all_rows g.R.RuleRow.follows_rule m c.args.level.now (plan_of m s c.args.level.now) q.0 c.places.rows.items
    (subst (λ (rows : List PlaceRow). length rows < 1) q.1 c.in_default.len_below) q.2

pub place_rows-returns-in_ok-slot_row-in-None : goal.place_rows-returns-in_ok-slot_row-in-None
place_rows-returns-in_ok-slot_row-in-None g t c =
    let tag = c.args.tag in
    let level = c.args.level.now in
    let follows = g.R.RuleRow.follows_rule in
    let found = c.in_ok-slot_row-in-None.field-0 in
    let own : option_map (λ (places : Bor (List PlaceRow)). places.now) c.args.own ≡ None = ap (option_map (λ (places : Bor (List PlaceRow)). places.now)) c.in-None.is in
    turned_ok c.single_row.result c.single_row.ensures (λ made told.
    made_rows made (λ v. v.items)
    (λ rows. (m : Mapping) (s : Structure) (after : List PlaceRow) → AreTables m c.args.tables.now → FirstPlace s tag (option_map (λ (places : Bor (List PlaceRow)). places.now) c.args.own) after →
    (more : Structure) × (after ≡ rows_of more) × Goes follows m.lists (plan_of m s level) (plan_of m more level) rows)
    (found_rows found) told
    (λ rows is m s after h place.
    leads_slot follows m s level tag after rows (subst (λ o. FirstPlace s tag o after) own place)
    (slot_front follows m.lists (slot_of m tag level) found rows (c.in_ok-slot_row-in-None.ensures m h) is)))

pub place_rows-returns-in-Some : goal.place_rows-returns-in-Some
place_rows-returns-in-Some g t c =
    let tag = c.args.tag in
    let level = c.args.level.now in
    let follows = g.R.RuleRow.follows_rule in
    let own : option_map (λ (places : Bor (List PlaceRow)). places.now) c.args.own ≡ Some c.in-Some.places.now = ap (option_map (λ (places : Bor (List PlaceRow)). places.now)) c.in-Some.is in
    turned_ok c.group_rows.result c.group_rows.ensures (λ made is. turned_some made is (λ rows front m s after h place.
    leads_group follows m s level tag after rows.items c.in-Some.places.now (subst (λ o. FirstPlace s tag o after) own place) (λ inner k. front m inner h k)))
