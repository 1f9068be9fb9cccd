use Rattle.std.proofs.Common.{◌≡◌, ◌<◌, ◌+◌, ◌-◌, ◌∷◌, sym, ap, ◌∙◌, subst, arith, length, drop, rules, FitsSigned}
use mir.Syntax.{w128}
use Rattle.std.proofs.lemmas.Int.{to_z-of_z}
use Rattle.std.proofs.lemmas.List.{drop_all}
use mir.Val.{to_z, of_z}
use Rattle.sbe_types.specs.declared.kind.Named.{Named}
use Rattle.flat_rows.specs.Bytes.{AreListedBytes, Notes}
use Rattle.flat_rows.proofs.RowsJudged.{there}
use Rattle.flat_rows.proofs.ValidBytes.{name_noted}
use Rattle.flat_rows.proofs.bytes.note_names.Goals as goal

pub loop-left-init : goal.loop-left-init
loop-left-init c = record {
  within = omega arith;
  size = c.requires.size;
  noted = subst (AreListedBytes c.args.valid.now) (sym (drop_all (length c.args.names.now) c.args.names.now (omega arith))) c.requires.none;
}

pub loop-left-preserved : goal.loop-left-preserved
loop-left-preserved c =
    let names = c.args.names.now in
    let i = c.loop-left.left - 1 in
    let named = c.index-names-left.result in
    let so_far = c.loop-left.invariant in
    let before : i < length names = omega (arith, so_far.within, c.loop-left-test.true) in
    let back : i + 1 ≡ c.loop-left.left = omega (arith, c.loop-left-test.true) in
    let next : drop i names ≡ named ∷ drop c.loop-left.left names = there names i named before c.index-names-left.is ∙ ap (λ k. named ∷ drop k names) back in
    let fits : FitsSigned w128 named.number = search rules in
    let number = ap (λ (v : Named). to_z w128 (of_z w128 v.number)) (sym c.index-names-left.is) ∙ to_z-of_z w128 named.number fits in
    let note = subst (λ n. Notes n c.loop-left.valid c.note.new.valid) number c.note.ensures.noted in
    record {
      within = omega (arith, before);
      size = c.note.ensures.size;
      noted = subst (AreListedBytes c.note.new.valid) (sym next) (name_noted _ _ named (drop c.loop-left.left names) so_far.noted note);
    }
