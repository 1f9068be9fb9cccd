use Rattle.std.proofs.Common.{◌≡◌, ℕ, Option, length, refl, sym, ap, subst, ◌∙◌}
use Rattle.sbe_types.specs.declared.schema.WireSchema.{WireSchema}
use Rattle.sbe_wire.specs.Faults.{FirstFault}
use Rattle.body_walk.specs.Refusals.{refused}
use Rattle.dump_lines.specs.Refused.{IsWay, message_meant, way_text}
use Rattle.dump_lines.proofs.Ways.{faults_have_ways}
use Rattle.sbe_c.specs.Filling.{filled}
use Rattle.sbe_c.proofs.validating.validate_in.Goals as goal

pub way_of-requires : goal.way_of-requires
way_of-requires c =
    subst (λ (o : Option ℕ). IsWay c.layout-layout.result.now o c.in-Err.refusal.path) (sym c.in-Err.ensures.template)
    (faults_have_ways c.layout-layout.result.now (refused c.in-Err.refusal) c.args.body.now c.in-Err.ensures.fault)

pub returns-in-Ok-way_of : goal.returns-in-Ok-way_of
returns-in-Ok-way_of c =
    let body = c.args.body.now in
    let path = c.in-Err.refusal.path in
    let way : c.as_slice.result.now ≡ way_text c.args.opened.now (message_meant c.args.opened.now body) path =
    c.as_slice.ensures.value ∙ c.in-Ok-way_of.ensures ∙ ap (λ (o : Option ℕ). way_text c.layout-layout.result.now o path) c.in-Err.ensures.template
    ∙ ap (λ (s : WireSchema). way_text s (message_meant s body) path) c.layout-layout.ensures in record {
      fault = refused c.in-Err.refusal;
      first = subst (λ schema. FirstFault schema (refused c.in-Err.refusal) body) c.layout-layout.ensures c.in-Err.ensures.fault;
      offset_told = refl;
      path_told = record {
        code_told = c.tell.ensures.code ∙ c.fault_number.ensures;
        length_told = c.tell.ensures.length ∙ ap length way;
        path_told = c.tell.ensures.text ∙ ap (λ text. filled text c.args.path.now) way;
      };
    }
