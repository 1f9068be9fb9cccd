use Rattle.std.proofs.Common.{◌≡◌, Ok, sym, subst, ◌∙◌}
use Rattle.std.specs.Prelude.{slice_get}
use Rattle.std.specs.Option.{IsSome}
use Rattle.sbe_types.specs.declared.schema.WireSchema.{WireSchema}
use Rattle.line_reading.specs.Lines.{tree_of}
use Rattle.line_facts.proofs.Templates.{template_there}
use Rattle.sbe_c.specs.Building.{PutsIn}
use Rattle.sbe_c.specs.Outcomes.{outcome}
use Rattle.sbe_c.proofs.Built.{line_built}
use Rattle.sbe_c.proofs.building.build_in.Goals as goal

pub put_body-requires : goal.put_body-requires
put_body-requires c =
    subst (λ (s : WireSchema). IsSome (slice_get s.messages c.in-Ok.message.template)) (c.checked.ensures ∙ sym c.layout.ensures)
    (template_there c.checked.result.now c.args.line.now c.in-Ok.message c.in-Ok.ensures)

pub returns-in-Ok : goal.returns-in-Ok
returns-in-Ok c =
    line_built c.put_body.result c.args.opened.now c.args.line.now c.in-Ok.message (outcome c.args.body.now c.put_body.new.body c.put_body.new.report)
    (outcome c.args.path.now c.put_body.new.path c.put_body.new.report) (subst (λ (s : WireSchema). tree_of s c.args.line.now ≡ Ok c.in-Ok.message) c.checked.ensures c.in-Ok.ensures)
    (subst (λ s. PutsIn c.put_body.result s c.in-Ok.message (outcome c.args.body.now c.put_body.new.body c.put_body.new.report) (outcome c.args.path.now c.put_body.new.path c.put_body.new.report))
    c.layout.ensures c.put_body.ensures)
