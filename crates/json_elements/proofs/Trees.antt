-- Elements inside elements of the same kind.
use Rattle.std.proofs.Common.{◌≡◌, ℕ, ◌+◌, ◌<◌, ◌≤◌, Some, None, List, ◌∷◌, refl, ap, ◌∙◌, arith, max}
use Rattle.std.specs.Prelude.{Ok, codes}
use Rattle.std.specs.Ordering.{nat_cmp, match_ordering}
use Rattle.std.specs.Cmp.Lexicographic.{slice_cmp}
use Rattle.std.specs.declared.cmp.Ordering.{Ordering}
use Rattle.std.specs.declared.cmp.Ordering.TheVariants.{Less, Equal, Greater}
use Rattle.serde_json.specs.Data.{Data, null, boolean, number, string, array, object, Items, no_items, item, Members, no_members, member, depth, items_depth, members_depth}
use Rattle.serde_json.specs.Find.{get_member}
use Rattle.json_elements.specs.declared.refusal.Cause.TheVariants.{Shape}
use Rattle.json_elements.specs.Reading.{Reading, ◌>>=◌, refuse, at_child}
use Rattle.json_elements.specs.Elements.{lone, named, named_in, content, content_in, each, tree, branches, branches_among, branches_listed, branches_from}

abbrev pub By : Type 0 → Type 0
By A = List ℕ → Data → Reading (List A) → Reading A

-- an element by its name and value
pub tree_named : {A : Type 0} (by : By A) (d : Data) → tree by d ≡ named (λ name inner. by name inner (branches by inner)) d
tree_named by null = refl
tree_named by (boolean b) = refl
tree_named by (number n) = refl
tree_named by (string s) = refl
tree_named by (array ds) = refl
tree_named by (object no_members) = refl
tree_named by (object (member k d no_members)) = refl
tree_named by (object (member k d (member l e ms))) = refl

from_each : {A : Type 0} (by : By A) (i : ℕ) (ds : Items) → branches_from by i ds ≡ each (tree by) i ds
from_each by i no_items = refl
from_each {A} by i (item d ds) = ap (λ (r : Reading (List A)). at_child i (tree by d) >>= (λ first. r >>= (λ others. Ok (first ∷ others)))) (from_each by (i + 1) ds)

ok_same : {X : Type 0} {x y : X} → ◌≡◌ {A = Reading X} (Ok x) (Ok y) → x ≡ y
ok_same h = cc

among_step : {A : Type 0} (by : By A) (o : Ordering) (d : Data) (ms : Members) (ds : Items) →
    (content_in (get_member (codes "content") ms) ≡ Ok ds → branches_among by ms ≡ each (tree by) 0 ds) →
    content_in (match_ordering o (get_member (codes "content") ms) (Some d) (get_member (codes "content") ms)) ≡ Ok ds →
    match_ordering o (branches_among by ms) (branches_listed by d) (branches_among by ms) ≡ each (tree by) 0 ds
among_step by Less d ms ds rest h = rest h
among_step by Greater d ms ds rest h = rest h
among_step by Equal null ms ds rest h = cc
among_step by Equal (boolean b) ms ds rest h = cc
among_step by Equal (number n) ms ds rest h = cc
among_step by Equal (string s) ms ds rest h = cc
among_step by Equal (object ns) ms ds rest h = cc
among_step by Equal (array es) ms ds rest h = from_each by 0 es ∙ ap (each (tree by) 0) (ok_same h)

among : {A : Type 0} (by : By A) (ms : Members) (ds : Items) → content_in (get_member (codes "content") ms) ≡ Ok ds → branches_among by ms ≡ each (tree by) 0 ds
among by no_members ds h = ap (each (tree by) 0) (ok_same h)
among by (member key d ms) ds h = among_step by (slice_cmp nat_cmp (codes "content") key) d ms ds (among by ms ds) h

-- what is read of the children is read of each of them
pub branches_each : {A : Type 0} (by : By A) (d : Data) (ds : Items) → content d ≡ Ok ds → branches by d ≡ each (tree by) 0 ds
branches_each by null ds h = cc
branches_each by (boolean b) ds h = cc
branches_each by (number n) ds h = cc
branches_each by (string s) ds h = cc
branches_each by (array es) ds h = cc
branches_each by (object ms) ds h = among by ms ds h

-- ---- what lies deeper

content_step : (o : Ordering) (d : Data) (ms : Members) (ds : Items) →
    (content_in (get_member (codes "content") ms) ≡ Ok ds → items_depth ds ≤ members_depth ms) →
    content_in (match_ordering o (get_member (codes "content") ms) (Some d) (get_member (codes "content") ms)) ≡ Ok ds →
    items_depth ds ≤ max (depth d) (members_depth ms)
content_step Less d ms ds rest h = let r : items_depth ds ≤ members_depth ms = rest h in omega arith
content_step Greater d ms ds rest h = let r : items_depth ds ≤ members_depth ms = rest h in omega arith
content_step Equal null ms ds rest h = cc
content_step Equal (boolean b) ms ds rest h = cc
content_step Equal (number n) ms ds rest h = cc
content_step Equal (string s) ms ds rest h = cc
content_step Equal (object ns) ms ds rest h = cc
content_step Equal (array es) ms ds rest h = let e : items_depth es ≡ items_depth ds = ap items_depth (ok_same h) in omega arith

content_among : (ms : Members) (ds : Items) → content_in (get_member (codes "content") ms) ≡ Ok ds → items_depth ds ≤ members_depth ms
content_among no_members ds h = let e : 0 ≡ items_depth ds = ap items_depth (ok_same h) in omega arith
content_among (member key d ms) ds h = content_step (slice_cmp nat_cmp (codes "content") key) d ms ds (content_among ms ds) h

pub content_deeper : (d : Data) (ds : Items) → content d ≡ Ok ds → items_depth ds < depth d
content_deeper null ds h = cc
content_deeper (boolean b) ds h = cc
content_deeper (number n) ds h = cc
content_deeper (string s) ds h = cc
content_deeper (array es) ds h = cc
content_deeper (object ms) ds h = let e : items_depth ds ≤ members_depth ms = content_among ms ds h in omega arith

-- ---- an element inside others of its kind, by what lies in it

pub tree_unseen : {A : Type 0} (by : By A) (d : Data) → lone d ≡ None → tree by d ≡ refuse Shape
tree_unseen by d h = tree_named by d ∙ ap (named_in (λ name inner. by name inner (branches by inner))) h

pub tree_seen : {A : Type 0} (by : By A) (d inner : Data) (name : List ℕ) → lone d ≡ Some (name, inner) → tree by d ≡ by name inner (branches by inner)
tree_seen by d inner name h = tree_named by d ∙ ap (named_in (λ name inner. by name inner (branches by inner))) h
