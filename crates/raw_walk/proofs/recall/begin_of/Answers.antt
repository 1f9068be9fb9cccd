use Rattle.std.proofs.Common.{sym, ◌∙◌}
use Rattle.raw_walk.proofs.Judged.{begin_found}
use Rattle.raw_walk.proofs.recall.begin_of.Goals as goal

pub returns : goal.returns
returns c =
    begin_found c.args.text.now c.in-Some.tag c.in-Some.from c.args.soh c.in-Some.ensures c.if-tag-ne8.false c.if-soh-from.false c.requires (sym c.ends_at.ensures ∙ c.if-not-ends_at.false)
