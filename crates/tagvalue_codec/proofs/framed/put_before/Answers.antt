use Rattle.std.proofs.Common.{◌≡◌, ◌∷◌, [], ◌++◌, decimal, subst, arith}
use Rattle.byte_places.specs.Places.{IsPut}
use Rattle.tagvalue_codec.specs.Fields.{soh}
use Rattle.tagvalue_codec.proofs.Framing.{head_before}
use Rattle.tagvalue_codec.proofs.framed.put_before.Goals as goal

pub returns-clause-put : goal.returns-clause-put
returns-clause-put c =
    let number = c.put_count-number_at in
    let end : c.put.result ≡ number.result = omega (arith, c.put.ensures.placed.moved, number.ensures.short, c.requires.room) in
    head_before c.args.memory.now number.new.memory c.put.new.room _ number.result c.args.at c.args.head.now (decimal c.args.count ++ (soh ∷ [])) number.ensures.put
    (subst (IsPut number.new.memory c.put.new.room _ c.args.head.now) end c.put.ensures) c.requires.within

pub put-requires : goal.put-requires
put-requires c =
    let number = c.put_count-number_at.ensures in
    omega (arith, number.put.moved, number.put.long, number.short, c.requires.within, c.requires.room)

pub returns-clause-room : goal.returns-clause-room
returns-clause-room c = omega (arith, c.put_count-number_at.ensures.short, c.requires.room)
