use Rattle.std.proofs.Common.{◌≡◌, ◌∙◌, ap, sym, subst, Some, None}
use Rattle.std.specs.Prelude.{slice_get}
use Rattle.std.specs.Option.{option_map}
use Rattle.sbe_base.specs.Writes.{Writes}
use Rattle.sbe_types.specs.declared.schema.Level.{out-Level}
use Rattle.sbe_types.specs.declared.schema.WireSchema.{WireSchema}
use Rattle.sbe_wire.specs.Faults.{message_named}
use Rattle.layout_tables.specs.Paths.{IsPathOf}
use Rattle.refused_items.specs.Refused.{refused_line}
use Rattle.regrade_command.specs.Regrade.{of_no_fill}
use Rattle.regrade_command.proofs.Pairs.{from_is, to_is, template_within}
use Rattle.regrade_command.proofs.Noting.{path_leads, lack_is, never_none}
use Rattle.regrade_command.proofs.Templates.{number_of}
use Rattle.regrade_command.proofs.answer.note_lack.Goals as goal

pub template_id-id-requires : goal.template_id-id-requires
template_id-id-requires g c =
    template_within c.pair.inside.read c.args.pair.now.from c.args.message.now.template
    (from_is c.pair.inside.read (record { from = c.pair.inside.from; to = c.pair.inside.to }) c.args.pair.now c.pair.invariant.0 c.pair.view_is) c.requires.known

pub note_no_fill-requires : goal.note_no_fill-requires
note_no_fill-requires g c =
    let from = from_is c.pair.inside.read (record { from = c.pair.inside.from; to = c.pair.inside.to }) c.args.pair.now c.pair.invariant.0 c.pair.view_is in
    let to = to_is c.pair.inside.written (record { from = c.pair.inside.from; to = c.pair.inside.to }) c.args.pair.now c.pair.invariant.1 c.pair.view_is in
    let id = subst (λ (s : WireSchema). option_map (λ l. (out-Level l).id) (slice_get s.messages c.args.message.now.template) ≡ Some c.template_id-id.result) from c.template_id-id.ensures in
    let found = subst (λ (s : WireSchema). Some c.in-Some.template ≡ number_of (message_named 0 c.template_id-id.result s.messages)) to c.in-Some.ensures in
    subst (λ s. IsPathOf s c.in-Some.template c.args.path.now) (sym to)
    (path_leads c.args.pair.now.from c.args.pair.now.to c.args.message.now c.args.path.now c.args.item c.requires.lacks c.template_id-id.result c.requires.known id c.in-Some.template found)

pub returns-in-Some : goal.returns-in-Some
returns-in-Some g c =
    let from = from_is c.pair.inside.read (record { from = c.pair.inside.from; to = c.pair.inside.to }) c.args.pair.now c.pair.invariant.0 c.pair.view_is in
    let to = to_is c.pair.inside.written (record { from = c.pair.inside.from; to = c.pair.inside.to }) c.args.pair.now c.pair.invariant.1 c.pair.view_is in
    let id = subst (λ (s : WireSchema). option_map (λ l. (out-Level l).id) (slice_get s.messages c.args.message.now.template) ≡ Some c.template_id-id.result) from c.template_id-id.ensures in
    let found = subst (λ (s : WireSchema). Some c.in-Some.template ≡ number_of (message_named 0 c.template_id-id.result s.messages)) to c.in-Some.ensures in
    let line =
    ap (λ s. refused_line c.args.item (of_no_fill s c.in-Some.template c.args.path.now)) to
    ∙ lack_is c.args.pair.now.from c.args.pair.now.to c.args.message.now c.args.path.now c.args.item c.requires.lacks c.template_id-id.result c.requires.known id c.in-Some.template found
    in
    subst (λ l. Writes (g.N.Sink.state c.args.notes.now) (g.N.Sink.state c.note_no_fill.new.notes) l c.note_no_fill.result) line c.note_no_fill.ensures

pub returns-in-None : goal.returns-in-None
returns-in-None g c =
    let from = from_is c.pair.inside.read (record { from = c.pair.inside.from; to = c.pair.inside.to }) c.args.pair.now c.pair.invariant.0 c.pair.view_is in
    let to = to_is c.pair.inside.written (record { from = c.pair.inside.from; to = c.pair.inside.to }) c.args.pair.now c.pair.invariant.1 c.pair.view_is in
    let id = subst (λ (s : WireSchema). option_map (λ l. (out-Level l).id) (slice_get s.messages c.args.message.now.template) ≡ Some c.template_id-id.result) from c.template_id-id.ensures in
    absurd (never_none c.args.pair.now.from c.args.pair.now.to c.args.message.now c.args.path.now c.args.item c.requires.lacks c.template_id-id.result c.requires.known id
    (subst (λ (s : WireSchema). None ≡ number_of (message_named 0 c.template_id-id.result s.messages)) to c.in-None.ensures))
