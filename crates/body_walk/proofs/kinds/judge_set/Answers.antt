use Rattle.std.proofs.Common.{◌≡◌, false, Err, pos, sym, ap, ◌∙◌, rules, FitsSigned}
use mir.Syntax.{w128}
use Rattle.std.specs.Prelude.{◌||◌, not}
use Rattle.std.proofs.lemmas.Int.{to_z-of_z}
use Rattle.sbe_types.specs.Numbers.{natural}
use Rattle.sbe_types.specs.Shown.{has_listed_bits}
use Rattle.sbe_wire.specs.declared.codes.FCode.TheVariants.{SetUnknown}
use Rattle.sbe_wire.specs.Faults.{fault_at}
use Rattle.body_walk.specs.inner.Outcomes.{fault_of}
use Rattle.body_walk.specs.inner.Kinds.{answered}
use Rattle.body_walk.proofs.kinds.judge_set.Goals as goal

pub returns-clause-told : goal.returns-clause-told
returns-clause-told c =
    let n = c.set_number-number.result in
    let names = c.args.choices.now in
    let out : c.shows_set.result ≡ false = search rules in
    let fits : FitsSigned w128 (pos n) = search rules in
    ap (λ f. Err (fault_of f)) c.tell.ensures
    ∙ ap (λ d. Err (fault_at SetUnknown c.args.at d)) (to_z-of_z w128 (pos n) fits)
    ∙ ap (answered SetUnknown c.args.at (pos n)) (sym out ∙ c.shows_set.ensures)
    ∙ ap (λ z. answered SetUnknown c.args.at z (has_listed_bits names 64 (natural z) || not c.args.mode.known)) c.set_number-number.ensures
