use Rattle.std.proofs.Common.{◌++◌, [], ◌∷◌, take, ap, ◌∙◌}
use Rattle.tagvalue_codec.specs.Fields.{soh}
use Rattle.tagvalue_codec.specs.Rooms.{Around}
use Rattle.tagvalue_codec.specs.Drafts.{ready_bytes}
use Rattle.tagvalue_codec.proofs.Framing.{part, field_grows, lent_back}
use Rattle.tagvalue_codec.proofs.framed.Framed.append_front.Goals as goal

pub returns-clause-bytes : goal.returns-clause-bytes
returns-clause-bytes g c =
    let b = c.self.inside in
    let tag = take c.args.used c.args.lead.now in
    let value = take c.args.count c.args.value.now in
    let one = c.place_within-after_tag in
    let two = c.place_within-after_value in
    let three = c.place-self-inside in
    let one_back = lent_back b.memory.len one.new.room (one.ensures.placed.long ∙ c.deref_mut.ensures.len) in
    let two_back = lent_back b.memory.len two.new.room (two.ensures.placed.long ∙ c.deref_mut-2.ensures.len) in
    let three_back = lent_back b.memory.len three.new.room (three.ensures.long ∙ c.deref_mut-3.ensures.len) in
    ap (part b.start three.result) (three_back _)
    ∙ field_grows b.memory.items one.new.room two.new.room three.new.room b.start b.len one.result two.result three.result tag value (soh ∷ []) (rw c.deref_mut.ensures.value at one.ensures.placed)
    (rw (c.deref_mut-2.ensures.value ∙ one_back _) at two.ensures.placed) (rw (c.deref_mut-3.ensures.value ∙ two_back _) at three.ensures) c.self.invariant.0 c.self.invariant.1
    ∙ ap (λ (a : Around). a.bytes ++ ready_bytes tag value) c.self.view_is
