use Rattle.std.proofs.Common.{subst}
use Rattle.std.specs.Int.{w128}
use Rattle.sbe_types.specs.Numbers.{natural}
use Rattle.fix_values.specs.Values.{Leaves}
use Rattle.fix_values.proofs.NumeralLemmas.{cast_is}
use Rattle.fix_values.proofs.CodeLemmas.{set_left}
use Rattle.fix_values.proofs.code.show_codes.Goals as goal

pub returns : goal.returns
returns c =
    let same = set_left c.args.codes.now (natural c.args.n) _ _ _ c.requires.choices (cast_is w128 c.args.n c.ranges.n c.requires.low) c.put_codes-shown.ensures.sum c.put_codes-shown.ensures.text in
    subst (Leaves c.judge_codes.result c.judge_codes.new.out) same c.judge_codes.ensures
