use Rattle.std.proofs.Common.{◌++◌, sym, ap, ◌∙◌}
use Rattle.std.specs.Prelude.{◌&&◌}
use Rattle.sbe_types.specs.declared.schema.Level.{out-Level}
use Rattle.bridge_plan.specs.Mappings.{delimiter_of}
use Rattle.bridge_plan.specs.Covers.{data_tags, is_delimiter}
use Rattle.bridge_cover.specs.Parts.{entries_of}
use Rattle.bridge_cover.proofs.Passed.{taken_is, was_passed}
use Rattle.bridge_cover.proofs.level.LevelMap.entries.Goals as goal

pub returns-then-not-is_free : goal.returns-then-not-is_free
returns-then-not-is_free c = λ m s before sees.
    let id = (out-Level c.args.level.now).id in
    let free = c.is_free.ensures m (before ++ data_tags m.lists) sees.tables.tags
    (c.either.ensures ∙ taken_is m before c.args.self.now.tables.now.tags id c.has-passed.result c.is_data-data.result
    sees.tables.tags (was_passed m s before c.args.self.now sees id c.has-passed.result c.has-passed.ensures)
    c.is_data-data.ensures) in
    ap (λ b. b && is_delimiter m (out-Level c.args.level.now).fields (delimiter_of (entries_of s c.args.level.now)))
    (sym free ∙ c.if-not-is_free.true)
