-- Where components and groups keep their rules, chains from messages end.
use Rattle.std.proofs.Common.{◌≡◌, ℕ, zero, suc, ◌+◌, ◌<◌, nat_eq, Bool, true, false, List, [], ◌∷◌, Option, Some, None, map, length, refl, sym, ap, ◌∙◌, subst, arith, codes}
use Rattle.std.specs.Prelude.{slice_get, option_map, if◌then◌else◌, filter_map, ◌||◌, Ok, IfSome}
use Rattle.std.specs.List.{list_any, cons_option}
use Rattle.std.proofs.lemmas.Option.{same_Some}
use Rattle.id_tables.specs.Places.{place_of}
use Rattle.id_tables.proofs.Earlier.{within_told}
use Rattle.reference_graph.specs.declared.graph.Link.{Link}
use Rattle.reference_graph.specs.declared.graph.Link.TheVariants.{Field, To}
use Rattle.reference_graph.specs.declared.graph.Node.{Node}
use Rattle.reference_graph.specs.Graphs.{goes_on, is_endless}
use Rattle.reference_graph.proofs.Fixpoint.{ends_at}
use Rattle.map_types.specs.declared.codes.MCode.{MCode}
use Rattle.map_types.specs.declared.codes.MCode.TheVariants as code
use Rattle.map_types.specs.declared.tree.RefItem.{RefItem}
use Rattle.map_types.specs.declared.tree.RefItem.TheVariants as item
use Rattle.map_types.specs.declared.tree.ComponentEl.{ComponentEl}
use Rattle.map_types.specs.declared.tree.GroupEl.{GroupEl}
use Rattle.map_types.specs.declared.tree.MessageEl.{MessageEl}
use Rattle.map_links.specs.declared.ids.Ids.{Ids}
use Rattle.map_links.specs.Links.{Linked, is_unknown, link_of, structure_of, component_node, group_node, message_node, nodes_of}
use Rattle.map_links.proofs.Nodes.{component_at, group_at, long_map}
use Rattle.map_rules.specs.declared.rule.Rule.{Rule}
use Rattle.map_rules.specs.Verdicts.{first_broken, member_verdict, list_verdict, ◌then◌, Verdict}
use Rattle.map_rules.specs.Rules.{stands_earlier, is_unknown_child, component_rules, group_rules}

passed_first : (list : List ℕ) (i : ℕ) (o : Option MCode) (rest : Verdict) → (member_verdict list i o then rest) ≡ Ok tt → (o ≡ None) × (rest ≡ Ok tt)
passed_first list i None rest h = (refl, h)
passed_first list i (Some code) rest h = cc

passed_each : {A : Type 0} (list : List ℕ) (rules : ℕ → A → List Rule) (i j : ℕ) (xs : List A) (x : A) → list_verdict list rules i xs ≡ Ok tt → slice_get xs j ≡ Some x → first_broken (rules (i + j) x) ≡ None
passed_each list rules i j [] x h at = cc
passed_each list rules i zero (y ∷ xs) x h at =
    let e : i + 0 ≡ i = omega arith in
    ap (λ n. first_broken (rules n x)) e ∙ ap (λ z. first_broken (rules i z)) (sym (same_Some y x at)) ∙ (passed_first list i (first_broken (rules i y)) (list_verdict list rules (i + 1) xs) h).0
passed_each list rules i (suc j) (y ∷ xs) x h at =
    let e : i + suc j ≡ i + 1 + j = omega arith in
    ap (λ n. first_broken (rules n x)) e ∙ passed_each list rules (i + 1) j xs x (passed_first list i (first_broken (rules i y)) (list_verdict list rules (i + 1) xs) h).1 at

unbroken : (x y z : MCode) (a b e : Bool) → (if a then Some x else (if b then Some y else (if e then Some z else None))) ≡ None → e ≡ false
unbroken x y z true b e h = cc
unbroken x y z false true e h = cc
unbroken x y z false false true h = cc
unbroken x y z false false false h = refl

pub field_ends : (n : ℕ) (g : List Node) (tag : ℕ) → goes_on n g (Field tag) ≡ false
field_ends zero g tag = refl
field_ends (suc n) g tag = refl

standing : {X : Type 0} (xs : List X) (i : ℕ) → i < length xs → (x : X) × (slice_get xs i ≡ Some x)
standing [] i h = absurd (omega arith)
standing (x ∷ xs) zero h = (x, refl)
standing (x ∷ xs) (suc i) h = standing xs i (omega arith)

end_first : (p : Link → Bool) (o : Option Link) (rest : List Link) → ((l : Link) → o ≡ Some l → p l ≡ false) → list_any p rest ≡ false → list_any p (cons_option o rest) ≡ false
end_first p None rest each h = h
end_first p (Some l) rest each h = ap (λ b. b || list_any p rest) (each l refl) ∙ h

all_end : {X : Type 0} (p : Link → Bool) (f : X → Option Link) → ((x : X) (l : Link) → f x ≡ Some l → p l ≡ false) → (xs : List X) → list_any p (filter_map f xs) ≡ false
all_end p f each [] = refl
all_end {X} p f each (x ∷ xs) = end_first p (f x) (filter_map f xs) (each x) (all_end p f each xs)

module _ (count : ℕ) (ids : Ids) (m : Linked) (many : count ≡ length m.components)
    (of_components : ids.components ≡ map (λ (c : ComponentEl). c.id) m.components) (of_groups : ids.groups ≡ map (λ (g : GroupEl). g.id) m.groups)
    (components_pass : list_verdict (codes "components") (component_rules count ids (nodes_of count ids m)) 0 m.components ≡ Ok tt)
    (groups_pass : list_verdict (codes "groups") (group_rules count ids (nodes_of count ids m)) 0 m.groups ≡ Ok tt)
  where
    abbrev all : List Node
    all = nodes_of count ids m

    component_ends : (i : ℕ) (c : ComponentEl) → slice_get m.components i ≡ Some c → is_endless all (component_node count ids c).links ≡ false
    component_ends i c at =
        unbroken code.Duplicate code.UnknownReference code.Cycle (stands_earlier ids.components (0 + i) c.id) (list_any (is_unknown ids) c.children)
        (is_endless all (component_node count ids c).links)
        (passed_each (codes "components") (component_rules count ids all) 0 i m.components c components_pass at)

    group_ends : (i : ℕ) (g : GroupEl) → slice_get m.groups i ≡ Some g → is_endless all (group_node count ids g).links ≡ false
    group_ends i g at =
        unbroken code.Duplicate code.UnknownReference code.Cycle (stands_earlier ids.groups (0 + i) g.id) (list_any (is_unknown_child ids) g.children)
        (is_endless all (group_node count ids g).links)
        (passed_each (codes "groups") (group_rules count ids all) 0 i m.groups g groups_pass at)

    pub to_component : (i : ℕ) → i < length m.components → goes_on (length all) all (To i) ≡ false
    to_component i lt =
        let s = standing m.components i lt in
        ends_at all i (component_node count ids s.0) (component_at count ids m many i s.0 s.1) (component_ends i s.0 s.1)

    to_group : (i : ℕ) → i < length m.groups → goes_on (length all) all (To (count + i)) ≡ false
    to_group i lt =
        let s = standing m.groups i lt in
        ends_at all (count + i) (group_node count ids s.0) (group_at count ids m many i s.0 s.1) (group_ends i s.0 s.1)

    by_component : (o : Option ℕ) (l : Link) → IfSome o (λ i. i < length ids.components) → option_map To o ≡ Some l → goes_on (length all) all l ≡ false
    by_component None l within h = cc
    by_component (Some i) l within h =
        let same : length ids.components ≡ length m.components = ap length of_components ∙ long_map (λ (c : ComponentEl). c.id) m.components in
        subst (λ link. goes_on (length all) all link ≡ false) (same_Some (To i) l h) (to_component i (subst (λ n. i < n) same within))

    by_group : (o : Option ℕ) (l : Link) → IfSome o (λ i. i < length ids.groups) → option_map (λ i. To (count + i)) o ≡ Some l → goes_on (length all) all l ≡ false
    by_group None l within h = cc
    by_group (Some i) l within h =
        let same : length ids.groups ≡ length m.groups = ap length of_groups ∙ long_map (λ (g : GroupEl). g.id) m.groups in
        subst (λ link. goes_on (length all) all link ≡ false) (same_Some (To (count + i)) l h) (to_group i (subst (λ n. i < n) same within))

    reference_ends : (r : RefItem) (l : Link) → link_of count ids r ≡ Some l → goes_on (length all) all l ≡ false
    reference_ends (item.FieldRef r) l h = subst (λ link. goes_on (length all) all link ≡ false) (same_Some (Field r.id) l h) (field_ends (length all) all r.id)
    reference_ends (item.ComponentRef r) l h = by_component (place_of r.id ids.components) l (within_told (nat_eq r.id) ids.components (place_of r.id ids.components) refl) h
    reference_ends (item.GroupRef r) l h = by_group (place_of r.id ids.groups) l (within_told (nat_eq r.id) ids.groups (place_of r.id ids.groups) refl) h

    pub message_ends : (x : MessageEl) → is_endless all (message_node count ids x).links ≡ false
    message_ends x = all_end (goes_on (length all) all) (link_of count ids) reference_ends (structure_of x)
