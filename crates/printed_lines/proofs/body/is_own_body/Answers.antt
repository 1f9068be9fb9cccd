use Rattle.std.proofs.Common.{rules, ◌≡◌, Some, refl, sym, ap, ◌∙◌, subst}
use Rattle.std.specs.Prelude.{slice_get}
use Rattle.sbe_types.specs.declared.schema.WireSchema.{WireSchema}
use Rattle.sbe_wire.specs.Lays.{Lays}
use Rattle.schema_facts.specs.IsChecked.{IsChecked}
use Rattle.clean_bodies.specs.Bodies.{IsCanonicalOf}
use Rattle.printed_lines.proofs.OwnBodies.{shown_own}
use Rattle.printed_lines.proofs.body.is_own_body.Goals as goal

pub is_line_of-requires : goal.is_line_of-requires
is_line_of-requires c =
    subst (λ (s : WireSchema). slice_get s.messages c.in-Ok.view.message.template ≡ Some c.in-Ok.view.level) c.layout-layout.ensures c.in-Ok.ensures.level

pub returns : goal.returns
returns c = λ yes.
    let schema : WireSchema = c.args.printed.now in
    let view = c.in-Ok.view in
    let body = c.args.body.now in
    let same : c.layout-layout.result.now ≡ schema = c.layout-layout.ensures ∙ c.lines-lines.ensures.lines in
    let own : c.version.result ≡ c.layout-layout.result.now.version = search rules in
    shown_own schema view c.template.result c.args.line.now body (subst IsChecked c.lines-lines.ensures.lines c.schema-schema.ensures.order) c.lines-lines.ensures.bytes c.are_bytes.ensures
    (subst (λ s. Lays s view.message body) same c.in-Ok.ensures.lies)
    (subst (λ (s : WireSchema). slice_get s.messages view.message.template ≡ Some view.level) same c.in-Ok.ensures.level)
    c.template.ensures (sym c.version.ensures ∙ own ∙ ap (λ (s : WireSchema). s.version) same) (c.if-not-is_line_of.ensures refl)
    (subst (λ s. IsCanonicalOf s c.template.result body) same (c.is_clean_body.ensures yes))
