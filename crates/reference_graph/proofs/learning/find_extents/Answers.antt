use Rattle.std.proofs.Common.{◌≡◌, ◌<◌, ◌≤◌, length, arith, subst, sym}
use Rattle.reference_graph.specs.Learning.{IsStuck, IsSound, known}
use Rattle.reference_graph.proofs.Rounds.{all_told, known_within, none_sound}
use Rattle.reference_graph.proofs.learning.find_extents.Goals as goal

pub rounds-init : goal.rounds-init
rounds-init c = record {
  long = c.learn_in.ensures.long;
  sound = c.learn_in.ensures.sound (subst (IsSound c.args.nodes.now) (sym c.in_ok-extents.ensures) (none_sound c.args.nodes.now (length c.args.nodes.now)));
}

pub rounds-smaller : goal.rounds-smaller
rounds-smaller c =
    let more : known c.rounds.extents.items < known c.learn.new.extents.items = c.learn.ensures.more c.rounds-test.true in
    let within : known c.learn.new.extents.items ≤ length c.learn.new.extents.items = known_within c.learn.new.extents.items in
    let long : length c.learn.new.extents.items ≡ length c.args.nodes.now = c.learn.ensures.long in
    omega arith

pub returns : goal.returns
returns c =
    let same : c.learn.new.extents.items ≡ c.rounds.extents.items = c.learn.ensures.same c.rounds-test.false in
    let stuck : IsStuck c.args.nodes.now c.rounds.extents.items (length c.args.nodes.now) = c.learn.ensures.stuck c.rounds-test.false in
    all_told c.args.nodes.now c.learn.new.extents.items c.learn.ensures.long
    (subst (λ t. IsStuck c.args.nodes.now t (length c.args.nodes.now)) (sym same) stuck)
    (c.learn.ensures.sound c.rounds.invariant.sound)
