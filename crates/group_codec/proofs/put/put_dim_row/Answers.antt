use Rattle.std.proofs.Common.{◌≡◌, ℕ, length, replicate, ap, ◌∙◌, subst, rules, pos}
use Rattle.sbe_types.specs.Numbers.{bytes_of}
use Rattle.field_bytes.specs.Laid.{IsPut}
use Rattle.group_codec.proofs.DimPuts.{dim_put}
use Rattle.group_codec.proofs.put.put_dim_row.Goals as goal

pub returns : goal.returns
returns c = λ dim is whole.
    let row = c.args.row.now in
    let zeroed : c.fill.new.self ≡ replicate (length c.args.out.now) 0 = search rules in
    let zeros : c.fill.new.self ≡ replicate row.width 0 = zeroed ∙ ap (λ (n : ℕ). replicate n 0) c.requires.wide in
    dim_put c.args.order c.args.block c.args.count row dim is whole c.put_spot.new.out c.put_spot-2.new.out
    (subst (λ old. IsPut (bytes_of c.args.order row.block.leaf.prim (pos c.args.block)) row.block.place old c.put_spot.new.out) zeros c.put_spot.ensures.put)
    c.put_spot-2.ensures.put
