-- The way to a place of a message has few steps, since groups nest few deep.
use Rattle.std.proofs.Common.{◌≡◌, ◌≤◌, ◌+◌, ◌*◌, ℕ, suc, Bool, true, false, cond, List, [], ◌∷◌, length, Option, Some, None, Result, Ok, Err, refl, ap, subst, arith, ◌∙◌}
use Rattle.std.specs.Prelude.{max, nat_lt, slice_get, ⊤}
use Rattle.std.specs.Fmt.{decimal}
use Rattle.std.proofs.lemmas.Bool.{lt-ltb}
use Rattle.sbe_types.specs.declared.message.Value.{Value}
use Rattle.sbe_types.specs.declared.schema.Group.{Group, Group', out-Group}
use Rattle.sbe_types.specs.declared.schema.Group as groups
use denote.Hole.Carrier as carrier
use Rattle.sbe_types.specs.declared.schema.Level.{Level, out-Level}
use Rattle.fix_values.specs.declared.rule.V.{V}
use Rattle.schema_facts.specs.CheckedLevels.{groups_deep}
use Rattle.body_walk.proofs.LevelsReady.{group_shallow}
use Rattle.reference_graph.specs.Expansion.{Structure, ended, plain, counted}
use Rattle.tagvalue_codec.specs.Drafts.{begun}
use Rattle.bridge_rules.specs.Texts.{text_by}
use Rattle.bridge_terms.specs.MessageFields.{begins}
use Rattle.bridge_terms.specs.Parts.{TagLists}
use Rattle.bridge_terms.specs.Places.{Way, to_part, to_entry, Refused, Written, Places, Unsent, Over, first_over, or_refused, places_then, then_places, places_in, place_of, text_places, slot_places, entries_places, run_places, begun_places, places_of}
use Rattle.bridge_terms.specs.Plans.{Plan, Tree, Each, done, single, group}
use Rattle.bridge_plan.specs.Mappings.{Mapping}
use Rattle.bridge_plan.specs.Covers.{plan_of, group_of, groups_in, level_in}
use Rattle.bridge_plan.specs.StructureFacts.{EachGroup}
use Rattle.bridge_plan.proofs.PlanParts.{Steps, plan_by, groups_same}
use Rattle.bridge_plan.proofs.Covered.{found_group}
use Rattle.message_walk.specs.Messages.{refusal_of}
use Rattle.message_walk.specs.States.{text_size}
use Rattle.message_walk.specs.Ways.{kept_way, pushed}
use Rattle.fix_messages.specs.Heads.{Head, field_places, head_fields, headed, no_lists}
use Rattle.fix_messages.specs.Texts.{or_later, text_refusal}
use Rattle.tofix_replies.specs.Unsent.{IsNear}

some_is : {A : Type 0} {x y : A} → ◌≡◌ {A = Option A} (Some x) (Some y) → x ≡ y
some_is h = cc

-- ---- ways within so many steps

-- the way to a refused place has at most so many steps
abbrev Within : ℕ → Option Refused → Type 0
Within n None = ⊤
Within n (Some r) = length r.way ≤ n

within_more : (m n : ℕ) (r : Option Refused) → m ≤ n → Within m r → Within n r
within_more m n None more h = tt
within_more m n (Some r) more h = omega (arith, more, h)

then_within : (n : ℕ) (xs : List Written) (r : Option Refused) (later : Places) → Within n r → Within n later.refused → Within n (places_then xs r later).refused
then_within n xs None later h k = k
then_within n xs (Some r) later h k = h

in_within : (n : ℕ) (step : Way) (xs : List Written) (r : Option Refused) → Within n r → Within (suc n) (places_in step (record { places = xs; refused = r })).refused
in_within n step xs None h = tt
in_within n step xs (Some r) h = omega (arith, h)

text_within : (n tag : ℕ) (text : Result (Option (List ℕ)) V) → Within n (text_places tag text).refused
text_within n tag (Err v) = omega arith
text_within n tag (Ok None) = tt
text_within n tag (Ok (Some t)) = tt

begun_within : (n : ℕ) (begun : Bool) (inner : Places) → Within n inner.refused → Within n (begun_places begun inner).refused
begun_within n true inner h = h
begun_within n false inner h = omega arith

entries_within : {X : Type 0} (n : ℕ) (entry : X → Places) (i : ℕ) (es : List X) → ((e : X) → Within n (entry e).refused) → Within (suc n) (entries_places entry i es).refused
entries_within n entry i [] all = tt
entries_within n entry i (e ∷ es) all =
    then_within (suc n) (places_in (to_entry i) (entry e)).places (places_in (to_entry i) (entry e)).refused (entries_places entry (suc i) es)
    (in_within n (to_entry i) (entry e).places (entry e).refused (all e)) (entries_within n entry (suc i) es all)

run_within : {X : Type 0} (n tag : ℕ) (entry : X → Places) (es : List X) → ((e : X) → Within n (entry e).refused) → Within (suc (suc n)) (run_places tag entry es).refused
run_within n tag entry [] all = tt
run_within n tag entry (e ∷ es) all =
    let count = place_of tag (decimal (length (e ∷ es))) in
    let run = entries_places entry 0 (e ∷ es) in
    in_within (suc n) (to_part tag) (then_places count run).places (then_places count run).refused
    (then_within (suc n) count.places count.refused run tt (entries_within n entry 0 (e ∷ es) all))

-- how many groups of a plan lie around one another at most
abbrev deep : Plan → ℕ
deep done = 0
deep (single s rest) = deep rest
deep (group g inner rest) = max (suc (deep inner)) (deep rest)

near_places : (p : Plan) (t : Tree Value p) → Within (2 * deep p + 1) (places_of p t).refused
near_places done t = tt
near_places (single s rest) t =
    let own = slot_places s.tag (text_by s.rule t.0) in
    let text = text_places s.tag (text_by s.rule t.0) in
    then_within (2 * deep rest + 1) own.places own.refused (places_of rest t.1)
    (within_more 1 (2 * deep rest + 1) own.refused (omega arith) (in_within 0 (to_part s.tag) text.places text.refused (text_within 0 s.tag (text_by s.rule t.0)))) (near_places rest t.1)
near_places (group g inner rest) t =
    let entry = λ (e : Tree Value inner). begun_places (begins inner e) (places_of inner e) in
    let own = run_places g.tag entry t.0 in
    let most = 2 * max (suc (deep inner)) (deep rest) + 1 in
    then_within most own.places own.refused (places_of rest t.1)
    (within_more (suc (suc (2 * deep inner + 1))) most own.refused (omega arith)
    (run_within (2 * deep inner + 1) g.tag entry t.0 (λ e. begun_within (2 * deep inner + 1) (begins inner e) (places_of inner e) (near_places inner e))))
    (within_more (2 * deep rest + 1) most (places_of rest t.1).refused (omega arith) (near_places rest t.1))

-- ---- plans of levels

-- the plan of a level is no deeper than the level
abbrev IsShallow : Structure → Level → Plan → Type 0
IsShallow s level p = deep p ≤ groups_deep level

each_of : {X : Type 0} (P : X → Type 0) (xs : List X) → ((i : ℕ) (x : X) → slice_get xs i ≡ Some x → P x) → Each P xs
each_of P [] all = tt
each_of P (x ∷ xs) all = (all 0 x refl, each_of P xs (λ i y there. all (suc i) y there))

level_same : (g : Group) → (out-Group g).level ≡ level_in g
unfolding groups.out-Group carrier.out
level_same (Group' dim level) = refl

lower : (level : Level) (tag : ℕ) (found : ℕ × Group) → group_of tag 0 (groups_in level) ≡ Some found → suc (groups_deep (level_in found.1)) ≤ groups_deep level
lower level tag found is =
    let all : Each (λ g. suc (groups_deep (level_in g)) ≤ groups_deep level) (out-Level level).groups =
    each_of (λ g. suc (groups_deep (level_in g)) ≤ groups_deep level) (out-Level level).groups
    (λ i g there. subst (λ below. suc (groups_deep below) ≤ groups_deep level) (level_same g) (group_shallow level i g there)) in
    (found_group (λ g. suc (groups_deep (level_in g)) ≤ groups_deep level) tag 0 (groups_in level) found
    (subst (Each (λ g. suc (groups_deep (level_in g)) ≤ groups_deep level)) (groups_same level) all) is).0

shallow_steps : (m : Mapping) → Steps m (λ s g. ⊤) IsShallow
shallow_steps m = record {
  at_end = λ level. omega arith;
  no_slot = λ tag rest level p none h. h;
  a_slot = λ tag rest level p slot is h. h;
  no_group = λ tag inner rest level p none h. h;
  a_group = λ tag inner rest level p found g is own given inside more.
      let below = lower level tag found is in
      omega (arith, below, inside, more);
}

no_fact : (s : Structure) (level : Level) → EachGroup (λ s g. ⊤) s level
no_fact ended level = tt
no_fact (plain tag rest) level = no_fact rest level
no_fact (counted tag inner rest) level = (λ found is. (tt, no_fact inner (level_in found.1)), no_fact rest level)

plan_shallow : (m : Mapping) (s : Structure) (level : Level) → deep (plan_of m s level) ≤ groups_deep level
plan_shallow m s level = plan_by m (λ s g. ⊤) IsShallow (shallow_steps m) s level (no_fact s level)

-- ---- few steps are all kept

fits : {X : Type 0} (b : Bool) (x y : X) → b ≡ true → cond b x y ≡ x
fits true x y is = refl
fits false x y is = absurd cc

all_kept : (way : List Way) → length way ≤ 20 → kept_way way ≡ way
all_kept [] few = refl
all_kept (step ∷ way) few =
    let rest = all_kept way (omega (arith, few)) in
    ap (pushed step) rest ∙ fits (nat_lt (length way) 20) (step ∷ way) way (lt-ltb (length way) 20 (omega (arith, few)))

told_near : (n : ℕ) (o : Option Over) (r : Option Refused) (u : Unsent) → n ≤ 20 → Within n r → or_refused o r ≡ Some u → IsNear u
told_near n (Some over) r u few within is = subst IsNear (some_is is) tt
told_near n None (Some refused) u few within is = subst IsNear (some_is is) (all_kept refused.way (omega (arith, few, within)))
told_near n None None u few within is = absurd cc

-- ---- the first refusal of a text

later_some : (P : Unsent → Type 0) (a b : Option Unsent) (u : Unsent) → ((v : Unsent) → a ≡ Some v → P v) → ((v : Unsent) → b ≡ Some v → P v) → or_later a b ≡ Some u → P u
later_some P None b u first later is = later u is
later_some P (Some v) b u first later is = first u is

pub near_refusal : (m : Mapping) (s : Structure) (level : Level) → groups_deep level ≤ 6
    → (lists : TagLists) (limit : ℕ) (kind : List ℕ) (head : Head) (t : Tree Value (plan_of m s level)) (u : Unsent)
    → text_refusal lists limit kind head (places_of (plan_of m s level) t) ≡ Some u → IsNear u
near_refusal m s level shallow lists limit kind head t u is =
    let p = plan_of m s level in
    let all = places_of p t in
    let blank = begun limit head.begin [] in
    let few : 2 * deep p + 1 ≤ 20 = omega (arith, shallow, plan_shallow m s level) in
    later_some IsNear (refusal_of no_lists blank (field_places (head_fields kind head))) (refusal_of lists (headed limit kind head) all) u
    (λ v here. told_near 0 (first_over (text_size no_lists blank) limit [] (field_places (head_fields kind head)).places) None v (omega arith) tt here)
    (λ v here. told_near (2 * deep p + 1) (first_over (text_size lists (headed limit kind head)) limit [] all.places) all.refused v few (near_places p t) here)
    is
