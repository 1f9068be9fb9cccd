use Rattle.std.proofs.Common.{◌≡◌, Some, subst, sym}
use Rattle.std.specs.Prelude.{map, slice_get}
use Rattle.sbe_types.specs.declared.message.Block.{out-Block}
use Rattle.sbe_types.specs.declared.message.GroupVal.TheVariants as groupval
use Rattle.sbe_types.specs.declared.schema.Group.{out-Group}
use Rattle.bridge_terms.specs.Blocks.{entries_of, nth_or}
use Rattle.flyweight_view.specs.TypedBlocks.{typed_level}
use Rattle.message_walk.specs.Rows.{entries_shown}
use Rattle.message_walk.proofs.reached.Reached.entries_at.Goals as goal

pub returns-then-number-eq0-clause-entries : goal.returns-then-number-eq0-clause-entries
returns-then-number-eq0-clause-entries c = λ group found.
    let zero = c.if-number-eq0.true in
    let seen = c.args.block.now in
    subst (λ n. entries_shown c.first_entries.result ≡ map (typed_level (out-Group group).level) (entries_of (nth_or groupval.Absent n (out-Block seen.block).groups))) (sym zero)
    (c.first_entries.ensures group (subst (λ n. slice_get seen.groups n ≡ Some group) zero found))
