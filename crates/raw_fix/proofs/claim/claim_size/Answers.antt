use Rattle.std.proofs.Common.{ap, ◌∙◌, ◌+◌}
use Rattle.raw_fix.specs.declared.claim.Claim.TheVariants.{Open}
use Rattle.raw_fix.specs.Claims.{within}
use Rattle.raw_fix.proofs.NearLemmas.{near_none, near_open}
use Rattle.raw_fix.proofs.claim.claim_size.Goals as goal

pub returns-in-Some-part_of_field : goal.returns-in-Some-part_of_field
returns-in-Some-part_of_field c =
    near_open c.args.most c.args.front c.args.bytes.now c.in-Some-part_of_field.number c.within.result c.in-None.ensures c.in-Some-part_of_field.ensures.value
    (c.within.ensures ∙ ap (λ k. within c.args.most (c.args.front + k + c.in-Some-part_of_field.number + 8) Open) c.max.ensures)

pub returns-in-None-part_of_field : goal.returns-in-None-part_of_field
returns-in-None-part_of_field c = near_none c.args.most c.args.front c.args.bytes.now c.in-None.ensures c.in-None-part_of_field.ensures.value
