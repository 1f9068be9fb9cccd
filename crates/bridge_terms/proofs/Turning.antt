-- Values gathered of fields have the items of the fields, and are those with these items.
use Rattle.std.proofs.Common.{◌≡◌, ℕ, true, cond, List, [], ◌∷◌, length, map, Option, Some, None, Result, Ok, Err, refl, sym, ap, ◌∙◌, subst}
use Rattle.std.specs.Prelude.{◌&&◌, IsTrue, pos}
use Rattle.sbe_types.specs.declared.kind.Leaf.{Leaf as LeafOf}
use Rattle.sbe_types.specs.declared.message.Value.{Value}
use Rattle.sbe_types.specs.Shown.{admits}
use Rattle.bridge_rules.specs.Rules.{Rule}
use Rattle.bridge_rules.specs.Values.{Misread, value_by}
use Rattle.bridge_rules.specs.Good.{Good}
use Rattle.bridge_rules.specs.Items.{item_by, item_in}
use Rattle.bridge_terms.specs.Plans.{Plan, Tree, done, single, group, tags, owns, AreGood, Each}
use Rattle.tagvalue_codec.specs.Fields.{Field}
use Rattle.bridge_terms.specs.Parts.{Part, Pieces, parts_of, pieces_of, part_at, are_known, are_distinct}
use Rattle.bridge_terms.specs.Gathering.{each, in_level, gather, group_in, entries_in, is_run, text_at, item_look, value_look, items_of, item_found, value_found, value_read, count_found, count_admitted, if_admitted, values_of_fields}
use Rattle.bridge_terms.specs.WayBack.{IsBack}
use Rattle.bridge_rules.specs.Sound.{IsSound}
use Rattle.bridge_terms.specs.PlanFacts.{EachRule}
use Rattle.bridge_rules.proofs.OptionLemmas.{some_is, none_some, and_then_is, and_then_some, if_some, and_second}
use Rattle.bridge_terms.proofs.AnswerLemmas.{both_is, both_some, each_turned, each_back, each_long}
use Rattle.std.proofs.lemmas.Bool.{eqb-true}

pub value_read_is : (r : Result Value Misread) (v : Value) → value_read r ≡ Some v → r ≡ Ok v
value_read_is (Ok w) v h = ap Ok (some_is h)
value_read_is (Err w) v h = none_some h

-- ---- one part

turned : (rule : Rule) → IsSound rule → (t : Option (List ℕ)) (v : Value) → value_found rule t ≡ Some v → (item_found rule t ≡ Some (item_by rule v)) × Good rule v
turned rule sound None v h = let is = sound.missed v h in (ap Some (sym is.1), is.0)
turned rule sound (Some t) v h =
    let is = sound.read t v (value_read_is (value_by rule t) v h) in
    (and_then_some (item_in rule t) (λ item. Some (Some item)) is.1.0 is.1.1 ∙ ap Some (sym is.1.2), is.0)

returned : (rule : Rule) → IsSound rule → (t : Option (List ℕ)) (v : Value) → item_found rule t ≡ Some (item_by rule v) → Good rule v → value_found rule t ≡ Some v
returned rule sound None v h good = sound.lacking v good (sym (some_is h))
returned rule sound (Some t) v h good =
    let is = and_then_is (item_in rule t) (λ item. Some (Some item)) (item_by rule v) h in
    ap value_read (sound.found t v is.0 good is.1 (sym (some_is is.2)))

-- ---- a count

admitted_is : (leaf : LeafOf) (n k : ℕ) → if_admitted leaf n ≡ Some k → (n ≡ k) × (admits leaf (pos n) ≡ true)
admitted_is leaf n k h = let is = if_some (admits leaf (pos n)) (Some n) k h in (some_is is.1, is.0)

admitted_so : (leaf : LeafOf) (n : ℕ) → admits leaf (pos n) ≡ true → if_admitted leaf n ≡ Some n
admitted_so leaf n h = ap (λ t. cond t (Some n) None) h

count_turned : (leaf : LeafOf) (t : Option (List ℕ)) (n : ℕ) → count_admitted leaf t ≡ Some n → (count_found leaf t ≡ Some n) × (admits leaf (pos n) ≡ true)
count_turned leaf t n h =
    let is = and_then_is (count_found leaf t) (if_admitted leaf) n h in
    let same = admitted_is leaf is.0 n is.2 in
    (is.1 ∙ ap Some same.0, ap (λ n. admits leaf (pos n)) (sym same.0) ∙ same.1)

count_back : (leaf : LeafOf) (t : Option (List ℕ)) (n : ℕ) → count_found leaf t ≡ Some n → admits leaf (pos n) ≡ true → count_admitted leaf t ≡ Some n
count_back leaf t n h fits = and_then_some (count_found leaf t) (if_admitted leaf) n h ∙ admitted_so leaf n fits

-- ---- a group

run_long : (n : ℕ) (cut : Pieces) → is_run n cut ≡ true → length cut.pieces ≡ n
run_long n cut h = eqb-true (length cut.pieces) n (and_second _ _ h)

abbrev HasEntries : {Y : Type 0} → LeafOf → (Y → Type 0) → List Y → Type 0
HasEntries leaf P ys = IsTrue (admits leaf (pos (length ys))) × Each P ys

pub group_turned : {Y Z : Type 0} (leaf : LeafOf) (delimiter : ℕ) (a : List Field → Option Y) (b : List Field → Option Z) (f : Y → Z) (P : Y → Type 0) →
    ((piece : List Field) (y : Y) → a piece ≡ Some y → (b piece ≡ Some (f y)) × P y) →
    (o : Option Part) (ys : List Y) → group_in (count_admitted leaf) delimiter a o ≡ Some ys →
    (group_in (count_found leaf) delimiter b o ≡ Some (map f ys)) × HasEntries leaf P ys
group_turned leaf delimiter a b f P turn None ys h =
    let is = and_then_is (count_admitted leaf None) (λ n. Some []) ys h in
    let counts = count_turned leaf None is.0 is.1 in
    subst (λ ys. (Some [] ≡ Some (map f ys)) × HasEntries leaf P ys) (some_is is.2)
    (refl, (ap (λ n. admits leaf (pos n)) (some_is counts.0) ∙ counts.1, tt))
group_turned leaf delimiter a b f P turn (Some x) ys h =
    let is = and_then_is (count_admitted leaf (Some x.text)) (λ n. entries_in a n (pieces_of delimiter x.run)) ys h in
    let counts = count_turned leaf (Some x.text) is.0 is.1 in
    let cut = pieces_of delimiter x.run in
    let run = if_some (is_run is.0 cut) (each a cut.pieces) ys is.2 in
    let all = each_turned a b f P turn cut.pieces ys run.1 in
    let long : length ys ≡ is.0 = sym all.2 ∙ run_long is.0 cut run.0 in (
      and_then_some (count_found leaf (Some x.text)) (λ n. entries_in b n cut) is.0 counts.0
          ∙ ap (λ t. cond t (each b cut.pieces) None) run.0 ∙ all.0,
      (ap (λ n. admits leaf (pos n)) long ∙ counts.1, all.1),
    )

group_returned : {Y Z : Type 0} (leaf : LeafOf) (delimiter : ℕ) (a : List Field → Option Y) (b : List Field → Option Z) (f : Y → Z) (P : Y → Type 0) →
    ((piece : List Field) (y : Y) → b piece ≡ Some (f y) → P y → a piece ≡ Some y) →
    (o : Option Part) (ys : List Y) → group_in (count_found leaf) delimiter b o ≡ Some (map f ys) → HasEntries leaf P ys →
    group_in (count_admitted leaf) delimiter a o ≡ Some ys
group_returned leaf delimiter a b f P turn None [] h good = and_then_some (count_admitted leaf None) (λ n. Some []) 0 (count_back leaf None 0 refl good.0)
group_returned leaf delimiter a b f P turn None (y ∷ ys) h good = absurd (empty_cons (some_is h))
  where
    empty_cons : {Z : Type 0} {z : Z} {zs : List Z} → [] ≡ z ∷ zs → ⊥
    empty_cons k = cc
group_returned leaf delimiter a b f P turn (Some x) ys h good =
    let cut = pieces_of delimiter x.run in
    let is = and_then_is (count_found leaf (Some x.text)) (λ n. entries_in b n cut) (map f ys) h in
    let run = if_some (is_run is.0 cut) (each b cut.pieces) (map f ys) is.2 in
    let all = each_back a b f P turn cut.pieces ys run.1 good.1 in
    let long : length ys ≡ is.0 = each_long a cut.pieces ys all ∙ run_long is.0 cut run.0 in
    and_then_some (count_admitted leaf (Some x.text)) (λ n. entries_in a n cut) is.0
    (count_back leaf (Some x.text) is.0 is.1 (ap (λ n. admits leaf (pos n)) (sym long) ∙ good.0))
    ∙ ap (λ t. cond t (each a cut.pieces) None) run.0 ∙ all

-- ---- a level

pub level_turned : {Y Z : Type 0} (p : Plan) (a : List Part → Option Y) (b : List Part → Option Z) (f : Y → Z) (P : Y → Type 0) →
    ((parts : List Part) (y : Y) → a parts ≡ Some y → (b parts ≡ Some (f y)) × P y) →
    (fields : List Field) (y : Y) → in_level p a fields ≡ Some y → (in_level p b fields ≡ Some (f y)) × P y
level_turned p a b f P turn fields y h =
    let parts = parts_of (owns p) fields in
    let is = if_some (are_known (tags p) parts && are_distinct parts) (a parts) y h in
    let here = turn parts y is.1 in
    (ap (λ t. cond t (b parts) None) is.0 ∙ here.0, here.1)

level_returned : {Y Z : Type 0} (p : Plan) (a : List Part → Option Y) (b : List Part → Option Z) (f : Y → Z) (P : Y → Type 0) →
    ((parts : List Part) (y : Y) → b parts ≡ Some (f y) → P y → a parts ≡ Some y) →
    (fields : List Field) (y : Y) → in_level p b fields ≡ Some (f y) → P y → in_level p a fields ≡ Some y
level_returned p a b f P turn fields y h good =
    let parts = parts_of (owns p) fields in
    let is = if_some (are_known (tags p) parts && are_distinct parts) (b parts) (f y) h in
    ap (λ t. cond t (a parts) None) is.0 ∙ turn parts y is.1 good

pub all_turned : (p : Plan) → EachRule IsSound p → (parts : List Part) (t : Tree Value p) → gather value_look p parts ≡ Some t →
    (gather item_look p parts ≡ Some (items_of p t)) × AreGood p t
all_turned done sound parts t h = (refl, tt)
all_turned (single s rest) sound parts t h =
    let is = both_is (value_found s.rule (text_at s.tag parts)) (gather value_look rest parts) t h in
    let here = turned s.rule sound.0 (text_at s.tag parts) t.0 is.0 in
    let more = all_turned rest sound.1 parts t.1 is.1 in
    (both_some _ _ _ _ here.0 more.0, (here.1, more.1))
all_turned (group g inner rest) sound parts t h =
    let one = in_level inner (λ piece. gather value_look inner piece) in
    let is = both_is (group_in (count_admitted g.count) g.delimiter one (part_at g.tag parts)) (gather value_look rest parts) t h in
    let entry = level_turned inner (λ piece. gather value_look inner piece) (λ piece. gather item_look inner piece) (λ e. items_of inner e) (λ e. AreGood inner e)
    (λ piece e k. all_turned inner sound.0 piece e k) in
    let here = group_turned g.count g.delimiter one (in_level inner (λ piece. gather item_look inner piece)) (λ e. items_of inner e) (λ e. AreGood inner e) entry (part_at g.tag parts) t.0 is.0 in
    let more = all_turned rest sound.1 parts t.1 is.1 in
    (both_some _ _ _ _ here.0 more.0, (here.1.0, here.1.1, more.1))

pub all_returned : (p : Plan) → EachRule IsSound p → (parts : List Part) (t : Tree Value p) →
    gather item_look p parts ≡ Some (items_of p t) → AreGood p t → gather value_look p parts ≡ Some t
all_returned done sound parts t h good = refl
all_returned (single s rest) sound parts t h good =
    let is = both_is (item_found s.rule (text_at s.tag parts)) (gather item_look rest parts) (items_of (single s rest) t) h in
    both_some _ _ _ _ (returned s.rule sound.0 (text_at s.tag parts) t.0 is.0 good.0) (all_returned rest sound.1 parts t.1 is.1 good.1)
all_returned (group g inner rest) sound parts t h good =
    let one = in_level inner (λ piece. gather item_look inner piece) in
    let is = both_is (group_in (count_found g.count) g.delimiter one (part_at g.tag parts)) (gather item_look rest parts) (items_of (group g inner rest) t) h in
    let entry = level_returned inner (λ piece. gather value_look inner piece) (λ piece. gather item_look inner piece) (λ e. items_of inner e) (λ e. AreGood inner e)
    (λ piece e k q. all_returned inner sound.0 piece e k q) in
    both_some _ _ _ _
    (group_returned g.count g.delimiter (in_level inner (λ piece. gather value_look inner piece)) one (λ e. items_of inner e) (λ e. AreGood inner e) entry (part_at g.tag parts) t.0 is.0 (good.0, good.1))
    (all_returned rest sound.1 parts t.1 is.1 good.2)

-- ---- a message

-- the values of fields are those of a message that they are translated to
pub back_from : (p : Plan) → EachRule IsSound p → (fields : List Field) (t : Tree Value p) → values_of_fields p fields ≡ Some t → IsBack p fields t
back_from p sound fields t h =
    let is = level_turned p (λ parts. gather value_look p parts) (λ parts. gather item_look p parts) (items_of p) (AreGood p) (all_turned p sound) fields t h in
    record { same = is.0; good = is.1 }

-- and the other way round
pub back_so : (p : Plan) → EachRule IsSound p → (fields : List Field) (t : Tree Value p) → IsBack p fields t → values_of_fields p fields ≡ Some t
back_so p sound fields t back =
    level_returned p (λ parts. gather value_look p parts) (λ parts. gather item_look p parts) (items_of p) (AreGood p) (all_returned p sound) fields t back.same back.good

-- there is at most one such message
pub one_back : (p : Plan) → EachRule IsSound p → (fields : List Field) (t u : Tree Value p) → IsBack p fields t → IsBack p fields u → t ≡ u
one_back p sound fields t u a b = some_is (sym (back_so p sound fields t a) ∙ back_so p sound fields u b)
