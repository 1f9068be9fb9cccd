use Rattle.std.proofs.Common.{◌≡◌, ◌+◌, ◌-◌, ◌<◌, ◌≤◌, Some, length, sym, ap, ◌∙◌, arith}
use Rattle.std.specs.Prelude.{option_map}
use Rattle.reference_graph.specs.Graphs.{links_at}
use Rattle.reference_graph.specs.Expansion.{structure_of}
use Rattle.structure_rows.specs.Rows.{rows_of}
use Rattle.bridge_mapping.specs.Tables.{structures_in, IsWhole}
use Rattle.bridge_mapping.proofs.MessageTables.{structure_none, structure_found}
use Rattle.bridge_mapping.proofs.messages.MessageTable.rows.Goals as goal

pub structure_rows-requires : goal.structure_rows-requires
structure_rows-requires c =
    let graph = c.self.inside.structures in
    let first : c.len.result - c.self.inside.count ≡ length graph - c.self.inside.count = ap (λ n. n - c.self.inside.count) c.len.ensures in
    let many : length c.self.inside.kinds ≡ c.self.inside.count = c.self.invariant.0 in
    let there : c.self.inside.count ≤ length graph = c.self.invariant.1 in
    let within : c.in-Some.i < length c.self.inside.kinds = c.in-Some.ensures.within in
    let whole : IsWhole graph (c.len.result - c.self.inside.count + c.in-Some.i) =
    c.self.invariant.2 (c.len.result - c.self.inside.count + c.in-Some.i) (omega arith) (omega arith) in
    record { within = whole.within; ends = whole.ends; short = whole.short }

pub returns-in-None : goal.returns-in-None
returns-in-None c = λ m is.
    sym (ap (option_map rows_of) (structure_none m c.self.inside.structures c.args.kind.now (length c.self.inside.structures - length c.self.inside.kinds) c.self.inside.kinds
    (is ∙ ap structures_in (sym c.self.view_is)) (sym c.place.ensures.is ∙ c.in-None.is)))

pub returns-in_ok-structure_rows-in-Some : goal.returns-in_ok-structure_rows-in-Some
returns-in_ok-structure_rows-in-Some c = λ m is.
    ap Some c.in_ok-structure_rows-in-Some.ensures
    ∙ (λ j. Some (rows_of (structure_of c.self.inside.structures (links_at c.self.inside.structures (c.len.ensures j - sym c.self.invariant.0 j + c.in-Some.i)))))
    ∙ sym (ap (option_map rows_of) (structure_found m c.self.inside.structures c.args.kind.now (length c.self.inside.structures - length c.self.inside.kinds) c.self.inside.kinds
    (is ∙ ap structures_in (sym c.self.view_is)) c.in-Some.i (sym c.place.ensures.is ∙ c.in-Some.is)))
