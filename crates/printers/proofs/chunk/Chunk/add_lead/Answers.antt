use Rattle.std.proofs.Common.{◌≡◌, ◌-◌, rules, ◌≤◌, length, drop, arith, length-drop}
use Rattle.std.proofs.lemmas.List.{take_rest}
use Rattle.printers.proofs.Gathered.{lead_placed}
use Rattle.printers.proofs.chunk.Chunk.add_lead.Goals as goal

pub returns : goal.returns
returns g c =
    let inside = c.self.inside in
    let text = c.args.text.now in
    let lead = drop c.args.start text in
    let near : inside.len ≤ length inside.room = omega (arith, c.self.invariant) in
    let long : length lead ≡ length text - c.args.start = length-drop c.args.start text in
    let enough : g.row.N ≤ length lead = omega (arith, c.requires.enough, long) in
    let placed = lead_placed c.args.run g.row.N lead c.requires.run enough near (rw (take_rest text c.args.start) at c.place_front-self-inside.ensures) in
    search (placed, rules)
