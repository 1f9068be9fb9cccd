use Rattle.std.proofs.Common.{◌≡◌, ◌<◌, length, subst, sym}
use Rattle.std.specs.Option.{option_map}
use Rattle.sbe_types.specs.declared.message.Block.{out-Block}
use Rattle.sbe_types.specs.declared.message.DataVal.TheVariants as dataval
use Rattle.bridge_terms.specs.Blocks.{data_value, nth_or}
use Rattle.message_walk.specs.Rows.{value_of_bytes}
use Rattle.message_walk.proofs.reached.Reached.data_at.Goals as goal

pub returns-then-number-eq0-clause-data : goal.returns-then-number-eq0-clause-data
returns-then-number-eq0-clause-data c = λ below.
    let zero = c.if-number-eq0.true in
    let seen = c.args.block.now in
    subst (λ n. value_of_bytes (option_map (λ b. b.now) c.first_data.result) ≡ data_value (nth_or dataval.Absent n (out-Block seen.block).parts)) (sym zero)
    (c.first_data.ensures (subst (λ n. n < length seen.parts) zero below))
