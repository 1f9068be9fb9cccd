use Rattle.std.proofs.Common.{◌≡◌, ◌+◌, ◌-◌, ◌++◌, ◌∷◌, length, take, drop, decimal, ap, ◌∙◌, arith, length-take-le, length-drop}
use Rattle.tagvalue_codec.specs.Fields.{soh}
use Rattle.tagvalue_codec.specs.Rooms.{Around, text_from}
use Rattle.tagvalue_codec.proofs.Framing.{part, part_after, front_there, last_there, still_there, text_there, lent_back}
use Rattle.tagvalue_codec.proofs.framed.Framed.enclose.Goals as goal

pub returns-clause-whole : goal.returns-clause-whole
returns-clause-whole c =
    let b = c.self.inside in
    let m = b.memory.items in
    let head = c.args.head.now in
    let body = part b.start b.len m in
    let one = c.put_before-from in
    let two = c.sum_between-sum in
    let three = c.put_last in
    let one_back = lent_back b.memory.len one.new.memory (one.ensures.put.long ∙ c.deref_mut.ensures.len) in
    let two_back = lent_back b.memory.len two.new.memory (two.ensures.long ∙ c.deref_mut-2.ensures.len) in
    let three_back = lent_back b.memory.len three.new.memory (three.ensures.long ∙ c.deref_mut-3.ensures.len) in
    let put = rw c.deref_mut.ensures.value at one.ensures.put in
    let kept = rw (c.deref_mut-2.ensures.value ∙ one_back _) at two.ensures.kept in
    let last = rw (c.deref_mut-3.ensures.value ∙ two_back _) at three.ensures.last in
    let sum = rw (c.deref_mut-2.ensures.value ∙ one_back _) at two.ensures.sum in
    let count : b.len - b.start ≡ length body = omega (arith, length-drop b.start (take b.len m), length-take-le b.len m c.self.invariant.1) in
    let front = front_there m one.new.memory one.result b.start b.len head (decimal (b.len - b.start)) put c.self.invariant.0 c.self.invariant.1
    ∙ ap (λ k. head ++ (decimal k ++ (soh ∷ body))) count in
    let whole = ap (part one.result (b.len + 7)) (three_back _)
    ∙ last_there one.new.memory two.new.memory three.new.memory one.result b.len (b.len + 7) _ kept last (omega (arith, put.moved, c.self.invariant.0)) (omega (arith, put.long, c.self.invariant.1)) in
    text_there _ _ head body two.result whole front sum ∙ ap (λ (a : Around). text_from head a.bytes) c.self.view_is

pub returns-clause-bytes : goal.returns-clause-bytes
returns-clause-bytes c =
    let b = c.self.inside in
    let m = b.memory.items in
    let one = c.put_before-from in
    let two = c.sum_between-sum in
    let three = c.put_last in
    let one_back = lent_back b.memory.len one.new.memory (one.ensures.put.long ∙ c.deref_mut.ensures.len) in
    let two_back = lent_back b.memory.len two.new.memory (two.ensures.long ∙ c.deref_mut-2.ensures.len) in
    let three_back = lent_back b.memory.len three.new.memory (three.ensures.long ∙ c.deref_mut-3.ensures.len) in
    let put = rw c.deref_mut.ensures.value at one.ensures.put in
    let kept = rw (c.deref_mut-2.ensures.value ∙ one_back _) at two.ensures.kept in
    let last = rw (c.deref_mut-3.ensures.value ∙ two_back _) at three.ensures.last in
    ap (part b.start b.len) (three_back _)
    ∙ ap (drop b.start) (still_there one.new.memory two.new.memory three.new.memory b.len (b.len + 7) _ kept last (omega arith) (omega (arith, put.long, c.self.invariant.1)))
    ∙ part_after b.start b.len one.new.memory m c.self.invariant.0 put.rest
    ∙ ap (λ (a : Around). a.bytes) c.self.view_is

pub put_before-from-requires-clause-few : goal.put_before-from-requires-clause-few
put_before-from-requires-clause-few c =
    let b = c.self.inside in
    let m = b.memory.items in
    omega (arith, c.requires.few, ap (λ (a : Around). length a.bytes) c.self.view_is, length-drop b.start (take b.len m), length-take-le b.len m c.self.invariant.1)

pub sum_between-sum-requires-clause-order : goal.sum_between-sum-requires-clause-order
sum_between-sum-requires-clause-order c = omega (arith, c.put_before-from.ensures.put.moved, c.self.invariant.0)

pub sum_between-sum-requires-clause-room : goal.sum_between-sum-requires-clause-room
sum_between-sum-requires-clause-room c =
    let b = c.self.inside in
    let m = b.memory.items in
    omega (
      arith,
      c.requires.spare,
      ap (λ (a : Around). a.start + length a.bytes) c.self.view_is,
      ap (λ (a : Around). a.size) c.self.view_is,
      length-drop b.start (take b.len m),
      length-take-le b.len m c.self.invariant.1,
      c.put_before-from.ensures.put.long,
      c.self.invariant.0,
    )

pub put_last-requires : goal.put_last-requires
put_last-requires c =
    let b = c.self.inside in
    let m = b.memory.items in
    omega (
      arith,
      c.requires.spare,
      ap (λ (a : Around). a.start + length a.bytes) c.self.view_is,
      ap (λ (a : Around). a.size) c.self.view_is,
      length-drop b.start (take b.len m),
      length-take-le b.len m c.self.invariant.1,
      c.put_before-from.ensures.put.long,
      c.sum_between-sum.ensures.long,
      c.self.invariant.0,
    )

pub returns-clause-size : goal.returns-clause-size
returns-clause-size c =
    let b = c.self.inside in
    let one = c.put_before-from in
    let two = c.sum_between-sum in
    let three = c.put_last in
    let one_back = lent_back b.memory.len one.new.memory (one.ensures.put.long ∙ c.deref_mut.ensures.len) in
    let two_back = lent_back b.memory.len two.new.memory (two.ensures.long ∙ c.deref_mut-2.ensures.len) in
    let three_back = lent_back b.memory.len three.new.memory (three.ensures.long ∙ c.deref_mut-3.ensures.len) in
    ap length (three_back _)
    ∙ three.ensures.long ∙ ap length (c.deref_mut-3.ensures.value ∙ two_back _)
    ∙ two.ensures.long ∙ ap length (c.deref_mut-2.ensures.value ∙ one_back _)
    ∙ one.ensures.put.long ∙ ap length c.deref_mut.ensures.value
    ∙ ap (λ (a : Around). a.size) c.self.view_is
