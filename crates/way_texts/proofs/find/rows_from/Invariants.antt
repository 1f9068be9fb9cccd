use Rattle.std.proofs.Common.{◌≡◌, List, length}
use Rattle.sbe_types.specs.declared.schema.Level.{Level}
use Rattle.bridge_terms.specs.Parts.{TagLists}
use Rattle.bridge_terms.specs.Places.{Way}
use Rattle.bridge_terms.specs.Plans.{Plan}
use Rattle.message_walk.specs.Rows.{AreRows}
use Rattle.way_texts.specs.WayTexts.{part_text}
use Rattle.way_texts.proofs.find.rows_from.Given as goal

abbrev pub invariant-rows : goal.invariant-rows
invariant-rows g l =
    (lists : TagLists) (p : Plan) → AreRows g.R.PutValue.spells lists p l.fn.rows
    → (q : Plan) × AreRows g.R.PutValue.spells lists q l.left × ((level : Level) (way : List Way) → part_text p level l.tag way ≡ part_text q level l.tag way)

abbrev pub decreases-rows : goal.decreases-rows
decreases-rows g l = length l.left
