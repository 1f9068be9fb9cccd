use Rattle.std.proofs.Common.{sym, ap, ◌∙◌, subst, rules, FitsSigned}
use mir.Syntax.{w128}
use Rattle.std.proofs.lemmas.Int.{to_z-of_z}
use Rattle.sbe_types.specs.Shown.{is_null}
use Rattle.flat_rows.specs.Bytes.{Notes}
use Rattle.flat_rows.proofs.ValidBytes.{null_noted}
use Rattle.flat_rows.proofs.bytes.note_null.Goals as goal

pub returns-then-is_null-clause-noted : goal.returns-then-is_null-clause-noted
returns-then-is_null-clause-noted c =
    let leaf = c.args.leaf.now in
    let fits : FitsSigned w128 leaf.null = search rules in
    let number = to_z-of_z w128 leaf.null fits in
    null_noted leaf c.args.valid.now c.note.new.valid (sym (c.is_null.ensures ∙ ap (is_null leaf) number) ∙ c.if-is_null.true) (subst (λ n. Notes n c.args.valid.now c.note.new.valid) number c.note.ensures.noted)
