use Rattle.std.proofs.Common.{◌++◌, ◌≤◌, length, refl, sym, ap, ◌∙◌, arith}
use Rattle.tagvalue_codec.specs.Rooms.{Around}
use Rattle.tagvalue_codec.proofs.Framing.{part, part_is, led_part, part_stays, lent_back}
use Rattle.tagvalue_codec.proofs.framed.Framed.behind.Goals as goal

pub returns : goal.returns
returns c =
    let b = c.self.inside in
    let m = b.memory.items in
    let from = c.put_six-from.result in
    let new = c.put_six-from.new.memory in
    let six = c.args.before.now in
    let put = rw c.deref_mut.ensures.value at c.put_six-from.ensures in
    let back = lent_back b.memory.len new (c.put_six-from.ensures.long ∙ c.deref_mut.ensures.len) in
    let body = ap (part b.start b.len) (back _) ∙ part_stays m new from b.from b.start b.len six put c.self.invariant.2 c.self.invariant.0 in
    let whole = ap (part b.from b.to) (back _) ∙ part_stays m new from b.from b.from b.to six put (omega arith) c.self.invariant.3 in
    let size = ap length (back _) ∙ put.long in
    let order : from ≤ b.to = omega (arith, put.moved, c.self.invariant.3) in (
      (
        refl,
        (λ last. tt),
        (λ i. record { bytes = body i; start = b.start; whole = whole i; ahead = b.from; size = size i }) ∙ c.self.view_is,
      ),
      record {
        rests = tt;
        bytes = sym (part_is from b.to c.deref.result.now order)
            ∙ ap (part from b.to) (c.deref.ensures.value ∙ back _)
            ∙ led_part m new from b.from b.to six put c.self.invariant.3 c.self.invariant.4
            ∙ ap (λ (a : Around). six ++ a.whole) c.self.view_is;
      },
    )
