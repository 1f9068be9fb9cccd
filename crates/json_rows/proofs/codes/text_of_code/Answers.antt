use Rattle.std.proofs.Common.{◌<◌, ap, length, get_or, arith}
use Rattle.json_rows.proofs.Coded.{slot_within}
use Rattle.json_rows.proofs.codes.text_of_code.Goals as goal

pub slice_bounds-slot-end : goal.slice_bounds-slot-end
slice_bounds-slot-end c =
    let kept = c.args.codes.now in
    let there = get_or kept.index.items c.args.byte 0 in
    let has : 0 < there = omega (arith, c.if-place-eq0.false, c.place_of-place.ensures) in
    let within = slot_within kept.texts.items there (c.requires.1.texts c.args.byte has).size in
    omega (arith, within, has, c.place_of-place.ensures, ap length c.deref.ensures.value)
