use Rattle.std.proofs.Common.{◌≡◌, false, sym, ◌∙◌}
use Rattle.std.specs.Prelude.{◌==◌, slice_index}
use Rattle.type_facts.proofs.WholeLemmas.{read_number, read_none}
use Rattle.type_facts.proofs.numbers.whole_in.Goals as goal

pub returns-in-Ok : goal.returns-in-Ok
returns-in-Ok c =
    let plus : (slice_index c.args.text.now 0 == 43) ≡ false = cc in
    sym (read_number c.args.text.now c.in-Ok.n plus c.in-Ok.ensures.value.0)

pub returns-in-Err : goal.returns-in-Err
returns-in-Err c =
    let plus : (slice_index c.args.text.now 0 == 43) ≡ false = cc in
    sym (read_none c.args.text.now plus c.in-Err.ensures.value.0)
