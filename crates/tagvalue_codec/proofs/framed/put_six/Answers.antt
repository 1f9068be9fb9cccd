use Rattle.std.proofs.lemmas.List.{take_rest}
use Rattle.tagvalue_codec.proofs.Framing.{six_put}
use Rattle.tagvalue_codec.proofs.framed.put_six.Goals as goal

pub returns : goal.returns
returns c =
    let six = c.args.six.now in
    six_put c.args.memory.now c.put_front.new.room c.put_front-2.new.room c.args.at _ _ six c.put_front.ensures (rw (take_rest six 4) at c.put_front-2.ensures) c.requires.long c.requires.room c.requires.within
