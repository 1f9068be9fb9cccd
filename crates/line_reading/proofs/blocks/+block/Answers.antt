use Rattle.std.proofs.Common.{sym, subst, ap, ◌∙◌}
use Rattle.serde_json.specs.Find.{get_member}
use Rattle.sbe_types.specs.declared.schema.Group.{out-Group}
use Rattle.line_values.specs.Refusals.{Gives, inside}
use Rattle.line_values.specs.Keys.{group_name}
use Rattle.line_reading.specs.Lines.{group_in, block_read}
use Rattle.line_values.specs.Code.{object_members}
use Rattle.line_reading.proofs.Opening.{block_opens, group_opens}
use Rattle.line_reading.proofs.blocks.+block.Goals as goal

pub read_block-returns : goal.read_block-returns
read_block-returns t c = subst (Gives c.read_opened.result) (sym (block_opens c.args.level.now (object_members c.args.object))) c.read_opened.ensures

pub read_group-returns : goal.read_group-returns
read_group-returns t c =
    let name = c.name_of-name.ensures in
    let found = c.find_in.ensures ∙ ap (λ n. get_member n (object_members c.args.object)) name in
    let read = subst (λ o. Gives c.read_entries.result (group_in (block_read (out-Group c.args.group.now).level) o)) found c.read_entries.ensures in
    let whole = c.inside.ensures _ read in
    subst (Gives c.inside.result) (ap (λ n. inside n (group_in (block_read (out-Group c.args.group.now).level) (get_member (group_name c.args.group.now) (object_members c.args.object)))) name ∙ sym (group_opens c.args.group.now (object_members c.args.object))) whole
