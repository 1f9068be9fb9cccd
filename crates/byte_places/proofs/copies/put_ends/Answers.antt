use Rattle.std.proofs.Common.{◌-◌, rules, length}
use Rattle.std.proofs.lemmas.List.{take_rest}
use Rattle.byte_places.proofs.Placing.{ends_put}
use Rattle.byte_places.proofs.copies.put_ends.Goals as goal

pub returns : goal.returns
returns g c =
    let bytes = c.args.bytes.now in
    ends_put g.row.N bytes (search rules) c.requires.enough c.requires.covered c.put_front.ensures
    (rw (take_rest bytes (length bytes - g.row.N)) at c.put_front-2.ensures)
