use Rattle.std.proofs.Common.{◌≡◌, false, subst, sym}
use Rattle.std.specs.Prelude.{◌==◌, slice_index}
use Rattle.json_elements.specs.Reading.{Gives}
use Rattle.json_elements.proofs.Wholes.{read_number, read_none}
use Rattle.json_elements.proofs.form.whole_of_text.Goals as goal

pub returns-in-Ok : goal.returns-in-Ok
returns-in-Ok c =
    let plus : (slice_index c.args.text.now 0 == 43) ≡ false = cc in
    read_number c.args.text.now c.in-Ok.n plus c.in-Ok.ensures.value.0

pub returns-in-Err : goal.returns-in-Err
returns-in-Err c =
    let plus : (slice_index c.args.text.now 0 == 43) ≡ false = cc in
    subst (Gives c.refuse-in-Err.result) (sym (read_none c.args.text.now plus c.in-Err.ensures.value.0)) c.refuse-in-Err.ensures
