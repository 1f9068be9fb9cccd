use Rattle.std.proofs.Common.{List, [], ◌∷◌, ◌++◌, take, sym, ap, ◌∙◌}
use Rattle.schema_facts.specs.Levels.{all_nodes}
use Rattle.layout_names.specs.declared.tables.LevelNames.{LevelNames}
use Rattle.layout_names.specs.Tables.{parts_names}
use Rattle.layout_names.proofs.Grows.{names_more}
use Rattle.layout_names.proofs.tables.levels_of.Goals as goal

pub loop-n-preserved : goal.loop-n-preserved
loop-n-preserved c =
    let nodes = all_nodes c.args.layout.now in
    let names = c.in_ok-names_of.field-0 in
    c.in_ok-push.ensures.items ∙ ap (λ (xs : List LevelNames). xs ++ names ∷ []) c.loop-n.invariant
    ∙ ap (λ (x : LevelNames). parts_names (take c.loop-n.n nodes) ++ x ∷ []) c.in_ok-names_of.ensures
    ∙ sym (names_more nodes c.loop-n.n c.level.result.now c.level.ensures)
