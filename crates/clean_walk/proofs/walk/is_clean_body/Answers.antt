use Rattle.std.proofs.Common.{ap, ◌∙◌}
use Rattle.std.specs.Prelude.{slice_get}
use Rattle.sbe_types.specs.declared.schema.WireSchema.{WireSchema}
use Rattle.body_walk.proofs.Bodies.{root_level}
use Rattle.clean_walk.proofs.Entries.{root_at, root_good, named_root}
use Rattle.clean_walk.proofs.walk.is_clean_body.Goals as goal

pub is_clean_root-requires : goal.is_clean_root-requires
is_clean_root-requires c =
    let schema : WireSchema = c.args.layout.now in
    let level = c.index-levels-template.result in
    let at =
    root_at schema c.as_slice-levels.result.now c.args.template level
    (c.as_slice-levels.ensures ∙ ap (λ (s : WireSchema). s.messages) c.schema-schema.ensures.schema) c.if-template-levels.false c.index-levels-template.is in
    record {
      level = root_level schema c.args.template c.root.result level c.root.ensures at;
      good = root_good schema c.args.template level c.schema-schema.ensures.order at;
      header = named_root schema c.schema-schema.ensures.order;
      bytes = c.are_bytes.ensures;
    }

pub returns : goal.returns
returns c = λ yes m same own lies.
    let schema : WireSchema = c.args.layout.now in
    let at =
    root_at schema c.as_slice-levels.result.now c.args.template c.index-levels-template.result
    (c.as_slice-levels.ensures ∙ ap (λ (s : WireSchema). s.messages) c.schema-schema.ensures.schema) c.if-template-levels.false c.index-levels-template.is in
    c.is_clean_root.ensures yes m own (ap (slice_get schema.messages) same ∙ at) lies
