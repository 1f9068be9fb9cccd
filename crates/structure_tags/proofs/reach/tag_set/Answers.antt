use Rattle.std.proofs.Common.{◌≡◌, ◌∷◌, [], ◌++◌, List, map, take, drop, length, get_or, ◌-◌, ◌<◌, sym, subst, ap, ◌∙◌, Bor}
use Rattle.reference_graph.specs.declared.graph.Link.{Link}
use Rattle.reference_graph.specs.declared.graph.Link.TheVariants.{Field}
use Rattle.reference_graph.specs.Walking.{steps_left}
use Rattle.reference_graph.proofs.Walking.{seen_pushed, first_and_rest, taken}
use Rattle.structure_tags.proofs.Reached.{Goes, goes_first, emptied, emptied_steps, went, went_steps, has_tags, none_left}
use Rattle.structure_tags.proofs.reach.tag_set.Goals as goal

pub places-init : goal.places-init
places-init c =
    goes_first c.args.nodes.now c.args.links.now c.in_ok-entered.entered.items c.new-tags.result (map (λ s. s.now) c.push.new.self.items) c.in_ok-entered.ensures c.new-tags.ensures
    (seen_pushed c.push.new.self.items [] c.args.links (c.in_ok-push.ensures.items ∙ ap (λ (below : List (Bor (List Link))). below ++ c.args.links ∷ []) c.new-left.ensures.items))
    c.requires.ends

pub places-smaller-then-links-lt1 : goal.places-smaller-then-links-lt1
places-smaller-then-links-lt1 c =
    let now : List (Bor (List Link)) → List (List Link) = map (λ s. s.now) in
    emptied_steps c.args.nodes.now c.args.links.now c.places.entered.items c.places.tags (now c.places.left.items) (now c.pop.new.self.items) c.places.invariant c.in-Some.links.now
    (seen_pushed c.places.left.items c.pop.new.self.items c.in-Some.links c.in-Some.ensures.items)

pub places-preserved-then-links-lt1 : goal.places-preserved-then-links-lt1
places-preserved-then-links-lt1 c =
    let now : List (Bor (List Link)) → List (List Link) = map (λ s. s.now) in
    emptied c.args.nodes.now c.args.links.now c.places.entered.items c.places.tags (now c.places.left.items) (now c.pop.new.self.items) c.places.invariant c.in-Some.links.now
    (seen_pushed c.places.left.items c.pop.new.self.items c.in-Some.links c.in-Some.ensures.items) c.in_default-links.len_below

pub enter-tag-requires : goal.enter-tag-requires
enter-tag-requires c = record { long = c.places.invariant.long }

pub places-smaller : goal.places-smaller
places-smaller c =
    let now : List (Bor (List Link)) → List (List Link) = map (λ s. s.now) in
    let links : List Link = c.in-Some.links.now in
    let rest : List Link = take (length links - 1) (drop 1 links) in
    let inner : List Link = c.enter-tag.result.1.now in
    let one : now c.push-in-len1-up.new.self.items ≡ now c.pop.new.self.items ++ rest ∷ [] = seen_pushed c.push-in-len1-up.new.self.items c.pop.new.self.items _ c.in_ok-push-2.ensures.items in
    let two : now c.push-in-len1-up-2.new.self.items ≡ (now c.pop.new.self.items ++ rest ∷ []) ++ inner ∷ [] =
    seen_pushed c.push-in-len1-up-2.new.self.items c.push-in-len1-up.new.self.items _ c.in_ok-push-3.ensures.items ∙ ap (λ (ls : List (List Link)). ls ++ inner ∷ []) one in
    subst (λ (ls : List (List Link)). steps_left c.args.nodes.now ls < steps_left c.args.nodes.now (now c.places.left.items)) (sym two)
    (went_steps c.args.nodes.now c.args.links.now c.places.entered.items c.places.tags (now c.places.left.items) (now c.pop.new.self.items) c.places.invariant
    (get_or links 0 (Field 0)) rest (taken c.places.left.items c.pop.new.self.items c.in-Some.links rest c.in-Some.ensures.items (first_and_rest links c.in-len1-up.len_at_least))
    c.enter-tag.new.entered.items c.insert.new.self c.enter-tag.result.0 inner c.in_ok-_new._new c.enter-tag.ensures c.in_ok-_new.ensures)

pub places-preserved : goal.places-preserved
places-preserved c =
    let now : List (Bor (List Link)) → List (List Link) = map (λ s. s.now) in
    let links : List Link = c.in-Some.links.now in
    let rest : List Link = take (length links - 1) (drop 1 links) in
    let inner : List Link = c.enter-tag.result.1.now in
    let one : now c.push-in-len1-up.new.self.items ≡ now c.pop.new.self.items ++ rest ∷ [] = seen_pushed c.push-in-len1-up.new.self.items c.pop.new.self.items _ c.in_ok-push-2.ensures.items in
    let two : now c.push-in-len1-up-2.new.self.items ≡ (now c.pop.new.self.items ++ rest ∷ []) ++ inner ∷ [] =
    seen_pushed c.push-in-len1-up-2.new.self.items c.push-in-len1-up.new.self.items _ c.in_ok-push-3.ensures.items ∙ ap (λ (ls : List (List Link)). ls ++ inner ∷ []) one in
    subst (Goes c.args.nodes.now c.args.links.now c.enter-tag.new.entered.items c.insert.new.self) (sym two)
    (went c.args.nodes.now c.args.links.now c.places.entered.items c.places.tags (now c.places.left.items) (now c.pop.new.self.items) c.places.invariant
    (get_or links 0 (Field 0)) rest (taken c.places.left.items c.pop.new.self.items c.in-Some.links rest c.in-Some.ensures.items (first_and_rest links c.in-len1-up.len_at_least))
    c.enter-tag.new.entered.items c.insert.new.self c.enter-tag.result.0 inner c.in_ok-_new._new c.enter-tag.ensures c.in_ok-_new.ensures)

pub returns : goal.returns
returns c =
    let none : length c.places.left.items ≡ 0 = sym c.places.left.ok.0 ∙ c.in_default.ensures.cases.0 in
    has_tags c.args.nodes.now c.args.links.now c.places.entered.items c.places.tags (map (λ s. s.now) c.places.left.items) (none_left c.places.left.items none) c.places.invariant
