use Rattle.std.proofs.Common.{◌≡◌, [], None, false, subst, sym, ◌∙◌, length, refl}
use Rattle.std.proofs.lemmas.Option.{slice_get_read, slice_get_past}
use Rattle.reference_graph.specs.declared.graph.Link.TheVariants.{To}
use Rattle.reference_graph.specs.Graphs.{goes_on}
use Rattle.reference_graph.specs.Walking.{Opens}
use Rattle.reference_graph.proofs.Opening.{opens_node, opens_none, opens_bare}
use Rattle.reference_graph.proofs.walk.opened.Goals as goal
use Rattle.reference_graph.proofs.walk.opened.Goals.{in_default-via-in-Some+else-not-is_bare, in_default-via-in_default}

pub returns-in-Some : goal.returns-in-Some
returns-in-Some c =
    let ends : goes_on (length c.args.nodes.now) c.args.nodes.now (To c.in-To.i) ≡ false = subst (λ l. goes_on (length c.args.nodes.now) c.args.nodes.now l ≡ false) c.in-To.is c.requires.ends in
    let at = slice_get_read c.args.nodes.now (length c.args.nodes.now) c.in-To.i c.in-Some.node.now refl c.in-Some.ensures.lookup.3.0 c.in-Some.ensures.lookup.1 in
    subst (λ l. Opens c.args.nodes.now l c.in-Some.node.now.count c.as_slice.result.now) (sym c.in-To.is)
    (subst (Opens c.args.nodes.now (To c.in-To.i) c.in-Some.node.now.count) (sym c.as_slice.ensures)
    (opens_node c.args.nodes.now c.in-To.i ends c.in-Some.node.now at))

pub returns-in_default : goal.returns-in_default
returns-in_default c =
    let ends : goes_on (length c.args.nodes.now) c.args.nodes.now (To c.in-To.i) ≡ false = subst (λ l. goes_on (length c.args.nodes.now) c.args.nodes.now l ≡ false) c.in-To.is c.requires.ends in
    subst (λ l. Opens c.args.nodes.now l None []) (sym c.in-To.is)
    (elim c.in_default.branch [
      | in_default-via-in-Some+else-not-is_bare w ↦
          opens_bare c.args.nodes.now c.in-To.i ends c.args.extents.now c.requires.looked_up w.in-Some.node.now
          (slice_get_read c.args.nodes.now (length c.args.nodes.now) c.in-To.i w.in-Some.node.now refl w.in-Some.ensures.lookup.3.0 w.in-Some.ensures.lookup.1)
          (sym w.is_bare.ensures ∙ w.if-not-is_bare.false)
      | in_default-via-in_default w ↦
          opens_none c.args.nodes.now c.in-To.i ends (slice_get_past c.args.nodes.now c.in-To.i w.in_default.ensures.lookup.3)
    ])
