use Rattle.std.proofs.Common.{◌≡◌, ◌∷◌, [], ◌++◌, List, Some, map, take, drop, length, get_or, ◌-◌, ◌<◌, sym, subst, ap, ◌∙◌, refl, Bor}
use Rattle.std.specs.Prelude.{slice_get}
use Rattle.std.proofs.lemmas.Option.{slice_get_read}
use Rattle.reference_graph.specs.declared.graph.Link.{Link}
use Rattle.reference_graph.specs.declared.graph.Link.TheVariants.{Field}
use Rattle.reference_graph.specs.declared.graph.Node.{Node}
use Rattle.reference_graph.specs.Walking.{steps_left}
use Rattle.reference_graph.proofs.Walking.{seen_pushed, first_and_rest, taken}
use Rattle.structure_rows.specs.Walking.{Makes}
use Rattle.structure_rows.proofs.Making.{whole, begins, emptied, emptied_steps, next_ends, next_short, went, went_steps, all_made, none_left}
use Rattle.structure_rows.proofs.walk.structure_rows.Goals as goal

pub places-init : goal.places-init
places-init c =
    let now : List (Bor (List Link)) → List (List Link) = map (λ s. s.now) in
    let node : Node = c.index-nodes-i.result in
    let within : c.args.i < length c.nodes.result.now = subst (λ (graph : List Node). c.args.i < length graph) (sym c.nodes.ensures) c.requires.within in
    let at : slice_get c.args.structures.now c.args.i ≡ Some node =
    subst (λ (graph : List Node). slice_get graph c.args.i ≡ Some node) c.nodes.ensures
    (slice_get_read c.nodes.result.now (length c.nodes.result.now) c.args.i node refl within c.index-nodes-i.is) in
    begins c.args.structures.now c.args.i node at c.requires.ends (c.requires.short node at) c.new-rows.result c.new-rows.ensures (now c.push.new.self.items)
    (seen_pushed c.push.new.self.items c.new-left.result.items c.as_slice.result c.in_ok-push.ensures.items
    ∙ ap (λ (below : List (Bor (List Link))). now below ++ c.as_slice.result.now ∷ []) c.new-left.ensures.items
    ∙ ap (λ (links : List Link). links ∷ []) c.as_slice.ensures)

pub places-smaller-then-links-lt1 : goal.places-smaller-then-links-lt1
places-smaller-then-links-lt1 c =
    let now : List (Bor (List Link)) → List (List Link) = map (λ s. s.now) in
    emptied_steps c.args.structures.now (whole c.args.structures.now c.args.i) c.places.rows (now c.places.left.items) (now c.pop.new.self.items) c.in-Some.links.now
    (seen_pushed c.places.left.items c.pop.new.self.items c.in-Some.links c.in-Some.ensures.items)

pub places-preserved-then-links-lt1 : goal.places-preserved-then-links-lt1
places-preserved-then-links-lt1 c =
    let now : List (Bor (List Link)) → List (List Link) = map (λ s. s.now) in
    emptied c.args.structures.now (whole c.args.structures.now c.args.i) c.places.rows (now c.places.left.items) (now c.pop.new.self.items) c.in-Some.links.now
    (seen_pushed c.places.left.items c.pop.new.self.items c.in-Some.links c.in-Some.ensures.items) c.in_default-links.len_below c.places.invariant

pub opened-row-requires-clause-ends : goal.opened-row-requires-clause-ends
opened-row-requires-clause-ends c =
    let now : List (Bor (List Link)) → List (List Link) = map (λ s. s.now) in
    let links : List Link = c.in-Some.links.now in
    let rest : List Link = take (length links - 1) (drop 1 links) in
    next_ends c.args.structures.now (whole c.args.structures.now c.args.i) c.places.rows (now c.places.left.items) (now c.pop.new.self.items) (get_or links 0 (Field 0)) rest
    (taken c.places.left.items c.pop.new.self.items c.in-Some.links rest c.in-Some.ensures.items (first_and_rest links c.in-len1-up.len_at_least)) c.places.invariant

pub opened-row-requires-clause-short : goal.opened-row-requires-clause-short
opened-row-requires-clause-short c =
    let now : List (Bor (List Link)) → List (List Link) = map (λ s. s.now) in
    let links : List Link = c.in-Some.links.now in
    let rest : List Link = take (length links - 1) (drop 1 links) in
    next_short c.args.structures.now (whole c.args.structures.now c.args.i) c.places.rows (now c.places.left.items) (now c.pop.new.self.items) (get_or links 0 (Field 0)) rest
    (taken c.places.left.items c.pop.new.self.items c.in-Some.links rest c.in-Some.ensures.items (first_and_rest links c.in-len1-up.len_at_least)) c.places.invariant

pub places-smaller : goal.places-smaller
places-smaller c =
    let now : List (Bor (List Link)) → List (List Link) = map (λ s. s.now) in
    let links : List Link = c.in-Some.links.now in
    let rest : List Link = take (length links - 1) (drop 1 links) in
    let inner : List Link = c.opened-row.result.1.now in
    let one : now c.push-in-len1-up.new.self.items ≡ now c.pop.new.self.items ++ rest ∷ [] = seen_pushed c.push-in-len1-up.new.self.items c.pop.new.self.items _ c.in_ok-push-2.ensures.items in
    let two : now c.push-in-len1-up-2.new.self.items ≡ (now c.pop.new.self.items ++ rest ∷ []) ++ inner ∷ [] =
    seen_pushed c.push-in-len1-up-2.new.self.items c.push-in-len1-up.new.self.items _ c.in_ok-push-3.ensures.items ∙ ap (λ (ls : List (List Link)). ls ++ inner ∷ []) one in
    subst (λ (ls : List (List Link)). steps_left c.args.structures.now ls < steps_left c.args.structures.now (now c.places.left.items)) (sym two)
    (went_steps c.args.structures.now (whole c.args.structures.now c.args.i) c.places.rows (now c.places.left.items) (now c.pop.new.self.items) (get_or links 0 (Field 0)) rest
    (taken c.places.left.items c.pop.new.self.items c.in-Some.links rest c.in-Some.ensures.items (first_and_rest links c.in-len1-up.len_at_least)) c.places.invariant
    c.opened-row.result.0 inner c.opened-row.ensures)

pub places-preserved : goal.places-preserved
places-preserved c =
    let now : List (Bor (List Link)) → List (List Link) = map (λ s. s.now) in
    let links : List Link = c.in-Some.links.now in
    let rest : List Link = take (length links - 1) (drop 1 links) in
    let inner : List Link = c.opened-row.result.1.now in
    let one : now c.push-in-len1-up.new.self.items ≡ now c.pop.new.self.items ++ rest ∷ [] = seen_pushed c.push-in-len1-up.new.self.items c.pop.new.self.items _ c.in_ok-push-2.ensures.items in
    let two : now c.push-in-len1-up-2.new.self.items ≡ (now c.pop.new.self.items ++ rest ∷ []) ++ inner ∷ [] =
    seen_pushed c.push-in-len1-up-2.new.self.items c.push-in-len1-up.new.self.items _ c.in_ok-push-3.ensures.items ∙ ap (λ (ls : List (List Link)). ls ++ inner ∷ []) one in
    subst (Makes c.args.structures.now (whole c.args.structures.now c.args.i) c.push_row.new.rows) (sym two)
    (went c.args.structures.now (whole c.args.structures.now c.args.i) c.places.rows (now c.places.left.items) (now c.pop.new.self.items) (get_or links 0 (Field 0)) rest
    (taken c.places.left.items c.pop.new.self.items c.in-Some.links rest c.in-Some.ensures.items (first_and_rest links c.in-len1-up.len_at_least)) c.places.invariant
    c.opened-row.result.0 inner c.opened-row.ensures c.push_row.new.rows c.in_ok-push_row.ensures)

pub returns : goal.returns
returns c =
    let none : length c.places.left.items ≡ 0 = sym c.places.left.ok.0 ∙ c.in_default.ensures.cases.0 in
    all_made c.args.structures.now c.args.i c.places.rows (map (λ s. s.now) c.places.left.items) (none_left c.places.left.items none) c.places.invariant
