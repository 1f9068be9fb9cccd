use Rattle.body_walk.proofs.head_numbers.usual_numbers.Goals as goal

pub returns : goal.returns
returns c = record {
  block_is = c.small_number-block.ensures;
  template_is = c.small_number-template.ensures;
  schema_is = c.small_number-schema.ensures;
  version_is = c.small_number-version.ensures;
}
