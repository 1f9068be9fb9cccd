-- The message that fields are translated to has fields again, unless a decimal's exponent is outside the range that is shown.
use Rattle.std.proofs.Common.{◌≡◌, ◌⊎◌, inl, inr, ℕ, Bool, true, false, cond, List, [], ◌∷◌, ◌++◌, map, length, Option, Some, None, Result, Ok, Err, refl, sym, ap, ◌∙◌, subst}
use Rattle.std.specs.Prelude.{◌==◌, ⊤}
use Rattle.std.proofs.lemmas.Bool.{eqb-true, eq-eqb}
use Rattle.sbe_types.specs.declared.message.Value.{Value}
use Rattle.fix_values.specs.declared.rule.V.{V}
use Rattle.fix_values.specs.declared.rule.V.TheVariants as why
use Rattle.tagvalue_codec.specs.Fields.{Field}
use Rattle.bridge_rules.specs.Rules.{Rule}
use Rattle.bridge_rules.specs.Items.{Item, item_by, item_in}
use Rattle.bridge_rules.specs.Members.{and_then}
use Rattle.bridge_rules.specs.Sound.{IsSound, ShowsGood}
use Rattle.bridge_rules.specs.Again.{IsOfText, IsAgain, HasText}
use Rattle.bridge_rules.specs.Values.{value_by}
use Rattle.bridge_rules.specs.Texts.{text_by}
use Rattle.bridge_rules.proofs.OptionLemmas.{some_is, none_some, and_then_is, if_some}
use Rattle.bridge_rules.proofs.BoolLemmas.{or_left, if_true, if_false}
use Rattle.bridge_terms.specs.Plans.{Plan, Tree, Each, done, single, group, owns, AreGood}
use Rattle.bridge_terms.specs.PlanFacts.{EachRule, EachValue, BeginsWith, Unowned, IsPlanned}
use Rattle.bridge_terms.specs.Parts.{Part, Cut, cut_after, in_run, of_part, parts_of, pieces_of, in_piece, of_piece, part_at}
use Rattle.bridge_terms.specs.Gathering.{in_level, is_run, entries_in, group_in, each, gather, text_at, item_look, item_found, count_found, count_admitted, value_found, value_look, items_of}
use Rattle.bridge_terms.specs.WayBack.{IsBack}
use Rattle.bridge_terms.specs.MessageFields.{Unwritable, no_text_at, join_answers, slot_part, gives_field, begins, entry_fields, count_part, group_part, answer_fields, if_begun, message_parts, fields_of}
use Rattle.bridge_terms.proofs.AnswerLemmas.{both_is, in_front_is}
use Rattle.bridge_terms.proofs.Turning.{value_read_is, group_turned, level_turned, back_so}

-- each entry begins with its delimiter
abbrev AreBegun : (p : Plan) → Tree Value p → Type 0
AreBegun done t = ⊤
AreBegun (single s rest) t = AreBegun rest t.1
AreBegun (group g inner rest) t = Each (λ e. (begins inner e ≡ true) × AreBegun inner e) t.0 × AreBegun rest t.1

-- ---- each piece of a run begins with the delimiter

abbrev IsBegun : ℕ → List Field → Type 0
IsBegun delimiter [] = ⊥
IsBegun delimiter (f ∷ fs) = f.tag ≡ delimiter

pieces_begin : (delimiter : ℕ) (fs : List Field) → Each (IsBegun delimiter) (pieces_of delimiter fs).pieces
pieces_begin delimiter [] = tt
pieces_begin delimiter (f ∷ fs) = by_tag (f.tag == delimiter) refl (pieces_begin delimiter fs)
  where
    by_tag : (t : Bool) → (f.tag == delimiter) ≡ t → Each (IsBegun delimiter) (pieces_of delimiter fs).pieces →
        Each (IsBegun delimiter) (cond t (of_piece f (pieces_of delimiter fs)) (in_piece f (pieces_of delimiter fs))).pieces
    by_tag true is more = (eqb-true f.tag delimiter is, more)
    by_tag false is more = more

-- the first part of a piece has its first field
first_text : (owned : ℕ → ℕ → Bool) (f : Field) (fs : List Field) (tag : ℕ) → f.tag ≡ tag → owned 0 f.tag ≡ false → text_at tag (parts_of owned (f ∷ fs)) ≡ Some f.value
first_text owned f fs tag is free =
    ap (λ (c : Cut). text_at tag c.parts) (if_false (owned 0 f.tag) (in_run f (cut_after owned 0 fs)) (of_part f (cut_after owned f.tag fs)) free)
    ∙ ap (λ o. and_then o (λ (x : Part). Some x.text))
    (if_true (f.tag == tag) (Some (record { tag = f.tag; text = f.value; run = (cut_after owned f.tag fs).run })) (part_at tag (cut_after owned f.tag fs).parts) (eq-eqb f.tag tag is))

-- a value with an item gives a field
gives_by : (rule : Rule) (v : Value) (item : Item) → ((text_by rule v ≡ Ok None) → item_by rule v ≡ None) → item_by rule v ≡ Some item → (r : Result (Option (List ℕ)) V) → text_by rule v ≡ r → gives_field r ≡ true
gives_by rule v item none has (Ok None) is = none_some (sym (none is) ∙ has)
gives_by rule v item none has (Ok (Some t)) is = refl
gives_by rule v item none has (Err w) is = refl

-- an entry whose piece begins with the delimiter begins with a field
entry_begins : (delimiter : ℕ) (inner : Plan) → BeginsWith delimiter inner → Unowned inner → EachRule ShowsGood inner → (piece : List Field) → IsBegun delimiter piece → (e : Tree Value inner) → AreGood inner e →
    gather item_look inner (parts_of (owns inner) piece) ≡ Some (items_of inner e) → begins inner e ≡ true
entry_begins delimiter done with free shows piece begun e good h = absurd with
entry_begins delimiter (group g inner rest) with free shows piece begun e good h = absurd with
entry_begins delimiter (single s rest) with free shows [] begun e good h = absurd begun
entry_begins delimiter (single s rest) with free shows (f ∷ fs) begun e good h =
    let p = single s rest in
    let same : f.tag ≡ s.tag = begun ∙ sym with.0 in
    let unowned : owns p 0 f.tag ≡ false = free 0 f.tag (or_left (s.tag == f.tag) _ (eq-eqb s.tag f.tag (sym same))) in
    let own = (both_is (item_found s.rule (text_at s.tag (parts_of (owns p) (f ∷ fs)))) (gather item_look rest (parts_of (owns p) (f ∷ fs))) (items_of p e) h).0 in
    let told : and_then (item_in s.rule f.value) (λ item. Some (Some item)) ≡ Some (item_by s.rule e.0) = ap (item_found s.rule) (sym (first_text (owns p) f fs s.tag same unowned)) ∙ own in
    let is = and_then_is (item_in s.rule f.value) (λ (item : Item). Some (Some item)) (item_by s.rule e.0) told in
    gives_by s.rule e.0 is.0 (λ k. (shows.0 e.0 good.0).unwritten k) (sym (some_is is.2)) (text_by s.rule e.0) refl

empty_cons : {X Z : Type 0} {z : X} {zs : List X} → [] ≡ z ∷ zs → Z
empty_cons h = cc

head_is : {X : Type 0} {z w : X} {zs ws : List X} → z ∷ zs ≡ w ∷ ws → w ≡ z
head_is h = cc

tail_is : {X : Type 0} {z w : X} {zs ws : List X} → z ∷ zs ≡ w ∷ ws → ws ≡ zs
tail_is h = cc

-- what holds of each entry whose piece says its items
each_entry : {X Y : Type 0} (read : List Field → Option Y) (f : X → Y) (P : X → Type 0) (Q : X → Type 0) (R : List Field → Type 0) →
    ((piece : List Field) (e : X) → R piece → P e → read piece ≡ Some (f e) → Q e) → (pieces : List (List Field)) (es : List X) → Each R pieces → Each P es → each read pieces ≡ Some (map f es) → Each Q es
each_entry read f P Q R turn pieces [] rs ps h = tt
each_entry read f P Q R turn [] (e ∷ es) rs ps h = empty_cons (some_is h)
each_entry read f P Q R turn (piece ∷ pieces) (e ∷ es) rs ps h =
    let one = in_front_is (read piece) (each read pieces) (f e ∷ map f es) h in (
      turn piece e rs.0 ps.0 (one.2 ∙ ap Some (head_is one.4)),
      each_entry read f P Q R turn pieces es rs.1 ps.1 (one.3 ∙ ap Some (tail_is one.4)),
    )

group_begun : {X Y : Type 0} (count : Option (List ℕ) → Option ℕ) (delimiter : ℕ) (read : List Field → Option Y) (f : X → Y) (P Q : X → Type 0) →
    ((piece : List Field) (e : X) → IsBegun delimiter piece → P e → read piece ≡ Some (f e) → Q e) → (o : Option Part) (es : List X) → Each P es → group_in count delimiter read o ≡ Some (map f es) → Each Q es
group_begun count delimiter read f P Q turn None [] ps h = tt
group_begun count delimiter read f P Q turn None (e ∷ es) ps h =
    let is = and_then_is (count None) (λ n. Some []) (map f (e ∷ es)) h in
    empty_cons (some_is is.2)
group_begun count delimiter read f P Q turn (Some x) es ps h =
    let is = and_then_is (count (Some x.text)) (λ n. entries_in read n (pieces_of delimiter x.run)) (map f es) h in
    let cut = pieces_of delimiter x.run in
    let some = if_some (is_run is.0 cut) (each read cut.pieces) (map f es) is.2 in
    each_entry read f P Q (IsBegun delimiter) turn cut.pieces es (pieces_begin delimiter x.run) ps some.1

-- the entries of a message that fields are translated to begin with their delimiters
all_begun : (p : Plan) → IsPlanned p → EachRule ShowsGood p → (parts : List Part) (t : Tree Value p) → AreGood p t → gather item_look p parts ≡ Some (items_of p t) → AreBegun p t
all_begun done planned shows parts t good h = tt
all_begun (single s rest) planned shows parts t good h =
    all_begun rest planned.1 shows.1 parts t.1 good.1 (both_is (item_found s.rule (text_at s.tag parts)) (gather item_look rest parts) (items_of (single s rest) t) h).1
all_begun (group g inner rest) planned shows parts t good h =
    let read = in_level inner (λ piece. gather item_look inner piece) in
    let two = both_is (group_in (count_found g.count) g.delimiter read (part_at g.tag parts)) (gather item_look rest parts) (items_of (group g inner rest) t) h in (
      group_begun (count_found g.count) g.delimiter read (items_of inner) (λ e. AreGood inner e) (λ e. (begins inner e ≡ true) × AreBegun inner e)
          (λ piece e begun fine is.
          let level = if_some _ (gather item_look inner (parts_of (owns inner) piece)) (items_of inner e) is in (
            entry_begins g.delimiter inner planned.1 planned.3 shows.0 piece begun e fine level.1,
            all_begun inner planned.4 shows.0 (parts_of (owns inner) piece) e fine level.1,
          ))
          (part_at g.tag parts) t.0 good.1 two.0,
      all_begun rest planned.5 shows.1 parts t.1 good.2 two.1,
    )

-- ---- values of texts

found_of_text : (rule : Rule) (t : Option (List ℕ)) (v : Value) → value_found rule t ≡ Some v → IsOfText rule v
found_of_text rule None v h = inr h
found_of_text rule (Some t) v h = inl (t, value_read_is (value_by rule t) v h)

-- each value that is gathered is that of a text, or of a part without a field
all_of_texts : (p : Plan) (parts : List Part) (t : Tree Value p) → gather value_look p parts ≡ Some t → EachValue IsOfText p t
all_of_texts done parts t h = tt
all_of_texts (single s rest) parts t h =
    let is = both_is (value_found s.rule (text_at s.tag parts)) (gather value_look rest parts) t h in
    (found_of_text s.rule (text_at s.tag parts) t.0 is.0, all_of_texts rest parts t.1 is.1)
all_of_texts (group g inner rest) parts t h =
    let one = in_level inner (λ piece. gather value_look inner piece) in
    let is = both_is (group_in (count_admitted g.count) g.delimiter one (part_at g.tag parts)) (gather value_look rest parts) t h in
    let entry = level_turned inner (λ piece. gather value_look inner piece) (λ piece. gather value_look inner piece) (λ e. e) (λ e. EachValue IsOfText inner e)
    (λ piece e k. (k, all_of_texts inner piece e k)) in
    let here = group_turned g.count g.delimiter one one (λ e. e) (λ e. EachValue IsOfText inner e) entry (part_at g.tag parts) t.0 is.0 in
    (here.1.1, all_of_texts rest parts t.1 is.1)

-- ---- what is written of them

-- an answer, or a refusal by an exponent
abbrev IsAnswered : {X : Type 0} → Result X Unwritable → Type 0
IsAnswered {X} r = ((x : X) × (r ≡ Ok x)) ⊎ ((tag : ℕ) × (r ≡ Err (no_text_at tag why.Range)))

join_answered : {X : Type 0} (a b : Result (List X) Unwritable) → IsAnswered a → IsAnswered b → IsAnswered (join_answers a b)
join_answered a b (inr one) other = inr (one.0, ap (λ a. join_answers a b) one.1)
join_answered a b (inl one) (inr other) = inr (other.0, ap (λ a. join_answers a b) one.1 ∙ ap (join_answers (Ok one.0)) other.1)
join_answered a b (inl one) (inl other) = inl (one.0 ++ other.0, ap (λ a. join_answers a b) one.1 ∙ ap (join_answers (Ok one.0)) other.1)

slot_answered : (tag : ℕ) (r : Result (Option (List ℕ)) V) → ((o : Option (List ℕ)) × (r ≡ Ok o)) ⊎ (r ≡ Err why.Range) → IsAnswered (slot_part tag r)
slot_answered tag r (inr is) = inr (tag, ap (slot_part tag) is)
slot_answered tag r (inl is) = by_text is.0 is.1
  where
    by_text : (o : Option (List ℕ)) → r ≡ Ok o → IsAnswered (slot_part tag r)
    by_text None is = inl ([], ap (slot_part tag) is)
    by_text (Some t) is = inl (record { tag = tag; text = t; run = [] } ∷ [], ap (slot_part tag) is)

entries_answered : {X : Type 0} (entry : X → Result (List Field) Unwritable) (P : X → Type 0) → ((e : X) → P e → IsAnswered (entry e)) → (es : List X) → Each P es → IsAnswered (entry_fields entry es)
entries_answered entry P turn [] all = inl ([], refl)
entries_answered entry P turn (e ∷ es) all = join_answered (entry e) (entry_fields entry es) (turn e all.0) (entries_answered entry P turn es all.1)

group_answered : {X : Type 0} (tag : ℕ) (entry : X → Result (List Field) Unwritable) (es : List X) → IsAnswered (entry_fields entry es) → IsAnswered (group_part tag entry es)
group_answered tag entry [] all = inl ([], refl)
group_answered tag entry (e ∷ es) (inl is) = inl (_, ap (count_part tag (length (e ∷ es))) is.1)
group_answered tag entry (e ∷ es) (inr is) = inr (is.0, ap (count_part tag (length (e ∷ es))) is.1)

fields_answered : (r : Result (List Part) Unwritable) → IsAnswered r → IsAnswered (answer_fields r)
fields_answered r (inl is) = inl (_, ap answer_fields is.1)
fields_answered r (inr is) = inr (is.0, ap answer_fields is.1)

each_with : {X : Type 0} (P Q R : X → Type 0) → ((x : X) → P x → Q x → R x) → (xs : List X) → Each P xs → Each Q xs → Each R xs
each_with P Q R turn [] a b = tt
each_with P Q R turn (x ∷ xs) a b = (turn x a.0 b.0, each_with P Q R turn xs a.1 b.1)

value_answered : (rule : Rule) (v : Value) → IsAgain rule v → ((o : Option (List ℕ)) × (text_by rule v ≡ Ok o)) ⊎ (text_by rule v ≡ Err why.Range)
value_answered rule v (inl is) = inl is
value_answered rule v (inr far) = inr far.1

parts_answered : (p : Plan) → EachRule HasText p → (t : Tree Value p) → EachValue IsOfText p t → AreBegun p t → IsAnswered (message_parts p t)
parts_answered done texts t read begun = inl ([], refl)
parts_answered (single s rest) texts t read begun =
    join_answered (slot_part s.tag (text_by s.rule t.0)) (message_parts rest t.1) (slot_answered s.tag (text_by s.rule t.0) (value_answered s.rule t.0 (texts.0 t.0 read.0))) (parts_answered rest texts.1 t.1 read.1 begun)
parts_answered (group g inner rest) texts t read begun =
    let entry = λ (e : Tree Value inner). if_begun g.tag (begins inner e) (answer_fields (message_parts inner e)) in
    let all = each_with (λ e. EachValue IsOfText inner e) (λ e. (begins inner e ≡ true) × AreBegun inner e) (λ e. IsAnswered (entry e))
    (λ e fine own. subst IsAnswered (sym (ap (λ b. if_begun g.tag b (answer_fields (message_parts inner e))) own.0)) (fields_answered (message_parts inner e) (parts_answered inner texts.0 e fine own.1)))
    t.0 read.0 begun.0 in
    join_answered (group_part g.tag entry t.0) (message_parts rest t.1) (group_answered g.tag entry t.0 (entries_answered entry (λ e. IsAnswered (entry e)) (λ e h. h) t.0 all)) (parts_answered rest texts.1 t.1 read.1 begun.1)

-- the message that fields are translated to has fields, or is refused by an exponent
pub written_again : (p : Plan) → IsPlanned p → EachRule IsSound p → EachRule ShowsGood p → EachRule HasText p → (fields : List Field) (t : Tree Value p) → IsBack p fields t →
    ((again : List Field) × (fields_of p t ≡ Ok again)) ⊎ ((tag : ℕ) × (fields_of p t ≡ Err (no_text_at tag why.Range)))
written_again p planned sound shows texts fields t back =
    let parts = parts_of (owns p) fields in
    let level = if_some _ (gather item_look p parts) (items_of p t) back.same in
    let read = if_some _ (gather value_look p parts) t (back_so p sound fields t back) in
    fields_answered (message_parts p t) (parts_answered p texts t (all_of_texts p parts t read.1) (all_begun p planned shows parts t back.good level.1))
