-- The fields that are written of values tell the values, whatever one looks for.
use Rattle.std.proofs.Common.{◌≡◌, inl, inr, ℕ, Bool, true, false, cond, suc, List, [], ◌∷◌, ◌++◌, length, map, Option, Some, None, Result, Ok, Err, refl, sym, ap, ◌∙◌, subst}
use Rattle.std.specs.Prelude.{◌&&◌, ◌==◌, not, ⊤}
use Rattle.std.specs.Fmt.{decimal}
use Rattle.std.proofs.lemmas.Bool.{eqb-true, eq-eqb}
use Rattle.sbe_types.specs.declared.message.Value.{Value}
use Rattle.fix_values.specs.declared.rule.V.{V}
use Rattle.bridge_rules.specs.Rules.{Rule}
use Rattle.bridge_rules.specs.Texts.{text_by}
use Rattle.bridge_rules.specs.Members.{and_then}
use Rattle.bridge_terms.specs.Plans.{Plan, Repeat, Tree, done, single, group, tags, all_tags, owns, map_tree, Each, is_in}
use Rattle.tagvalue_codec.specs.Fields.{Field}
use Rattle.bridge_terms.specs.Parts.{Part, Pieces, parts_of, pieces_of, part_at, fields_in, are_known, are_distinct}
use Rattle.bridge_terms.specs.Gathering.{Look, both, in_front, each, in_level, gather, group_in, entries_in, is_run, text_at, gather_fields}
use Rattle.bridge_terms.specs.MessageFields.{Unwritable, join_answers, slot_part, gives_field, begins, entry_fields, count_part, group_part, answer_fields, if_begun, message_parts, fields_of}
use Rattle.bridge_terms.specs.PlanFacts.{Unowned, BeginsWith, IsPlanned, IsRoot}
use Rattle.bridge_rules.proofs.OptionLemmas.{some_is, none_some, ok_is, and_then_some, and_first, and_second}
use Rattle.bridge_terms.proofs.AnswerLemmas.{both_some}
use Rattle.bridge_rules.proofs.BoolLemmas.{true_false, either, or_left, or_right, or_false, none_of, second_of, same_self, if_true, if_false}
use Rattle.bridge_terms.proofs.Cutting.{Owned, Behind, parts_back, all_fields, IsPiece, pieces_back}

-- ---- answers

pub err_ok : {A E Z : Type 0} {u : E} {x : A} → ◌≡◌ {A = Result A E} (Err u) (Ok x) → Z
err_ok h = absurd (never h)
  where
    never : {A E : Type 0} {u : E} {x : A} → ◌≡◌ {A = Result A E} (Err u) (Ok x) → ⊥
    never k = cc

pub joined_is : {X : Type 0} (a b : Result (List X) Unwritable) (zs : List X) → join_answers a b ≡ Ok zs → (xs : List X) × (ys : List X) × (a ≡ Ok xs) × (b ≡ Ok ys) × (zs ≡ xs ++ ys)
joined_is (Err u) b zs h = err_ok h
joined_is (Ok xs) (Err u) zs h = err_ok h
joined_is (Ok xs) (Ok ys) zs h = (xs, ys, refl, refl, sym (ok_is h))

pub fields_is : (r : Result (List Part) Unwritable) (fs : List Field) → answer_fields r ≡ Ok fs → (parts : List Part) × (r ≡ Ok parts) × (fs ≡ fields_in parts)
fields_is (Err u) fs h = err_ok h
fields_is (Ok parts) fs h = (parts, refl, sym (ok_is h))

pub delimited_is : (tag : ℕ) (begun : Bool) (r : Result (List Field) Unwritable) (fs : List Field) → if_begun tag begun r ≡ Ok fs → (begun ≡ true) × (r ≡ Ok fs)
delimited_is tag true r fs h = (refl, h)
delimited_is tag false r fs h = err_ok h

-- a part, or none
abbrev pub listed : Option Part → List Part
listed None = []
listed (Some x) = x ∷ []

-- the part of a value's field
abbrev pub field_part : ℕ → Option (List ℕ) → Option Part
field_part tag None = None
field_part tag (Some t) = Some (record { tag = tag; text = t; run = [] })

slot_is : (tag : ℕ) (r : Result (Option (List ℕ)) V) (xs : List Part) → slot_part tag r ≡ Ok xs → (o : Option (List ℕ)) × (r ≡ Ok o) × (xs ≡ listed (field_part tag o))
slot_is tag (Err v) xs h = err_ok h
slot_is tag (Ok None) xs h = (None, refl, sym (ok_is h))
slot_is tag (Ok (Some t)) xs h = (Some t, refl, sym (ok_is h))

-- ---- tags that aren't there

not_among : (n : ℕ) (ns : List ℕ) (parts : List Part) → are_known ns parts ≡ true → is_in n ns ≡ false → is_in n (map (λ y. y.tag) parts) ≡ false
not_among n ns [] known new = refl
not_among n ns (x ∷ xs) known new = none_of (x.tag == n) _
    (elim (either (x.tag == n)) [
      | inl t ↦ true_false (and_first _ _ known) (ap (λ m. is_in m ns) (eqb-true x.tag n t) ∙ new)
      | inr f ↦ f
    ])
    (not_among n ns xs (and_second _ _ known) new)

not_at : (n : ℕ) (parts : List Part) → is_in n (map (λ y. y.tag) parts) ≡ false → part_at n parts ≡ None
not_at n [] new = refl
not_at n (x ∷ xs) new =
    let is = or_false (x.tag == n) _ new in
    if_false (x.tag == n) (Some x) (part_at n xs) is.0 ∙ not_at n xs is.1

known_more : (n : ℕ) (ns : List ℕ) (parts : List Part) → are_known ns parts ≡ true → are_known (n ∷ ns) parts ≡ true
known_more n ns [] known = refl
known_more n ns (x ∷ xs) known = ap (λ a. a && are_known (n ∷ ns) xs) (or_right (n == x.tag) (is_in x.tag ns) (and_first _ _ known)) ∙ known_more n ns xs (and_second _ _ known)

-- ---- one part in front of others

-- a part that isn't of the plan is passed over
skipped : {X : Type 0} (look : Look X) (p : Plan) (x : Part) (more : List Part) → is_in x.tag (tags p) ≡ false → gather look p (x ∷ more) ≡ gather look p more
skipped look done x more new = refl
skipped look (single s rest) x more new =
    let is = or_false (s.tag == x.tag) _ new in
    let other : (x.tag == s.tag) ≡ false = apart x.tag s.tag is.0 in
    ap (λ o. both (look.at s.rule (and_then o (λ x. Some x.text))) (gather look rest (x ∷ more))) (if_false (x.tag == s.tag) (Some x) (part_at s.tag more) other)
    ∙ ap (both (look.at s.rule (text_at s.tag more))) (skipped look rest x more is.1)
  where
    apart : (a b : ℕ) → (b == a) ≡ false → (a == b) ≡ false
    apart a b h = elim (either (a == b)) [
      | inl t ↦ true_false (eq-eqb b a (sym (eqb-true a b t))) h
      | inr f ↦ f
    ]
skipped look (group g inner rest) x more new =
    let is = or_false (g.tag == x.tag) _ new in
    let other : (x.tag == g.tag) ≡ false = apart x.tag g.tag is.0 in
    let entry = in_level inner (λ piece. gather look inner piece) in
    ap (λ o. both (group_in (look.count g.count) g.delimiter entry o) (gather look rest (x ∷ more))) (if_false (x.tag == g.tag) (Some x) (part_at g.tag more) other)
    ∙ ap (both (group_in (look.count g.count) g.delimiter entry (part_at g.tag more))) (skipped look rest x more is.1)
  where
    apart : (a b : ℕ) → (b == a) ≡ false → (a == b) ≡ false
    apart a b h = elim (either (a == b)) [
      | inl t ↦ true_false (eq-eqb b a (sym (eqb-true a b t))) h
      | inr f ↦ f
    ]

-- a part that may be there, by its tag
abbrev Tagged : ℕ → Option Part → Type 0
Tagged n o = (x : Part) → o ≡ Some x → x.tag ≡ n

skipped_option : {X : Type 0} (look : Look X) (p : Plan) (n : ℕ) (o : Option Part) (more : List Part) → Tagged n o → is_in n (tags p) ≡ false →
    gather look p (listed o ++ more) ≡ gather look p more
skipped_option look p n None more tagged new = refl
skipped_option look p n (Some x) more tagged new = skipped look p x more (ap (λ m. is_in m (tags p)) (tagged x refl) ∙ new)

at_front : (n : ℕ) (o : Option Part) (more : List Part) → Tagged n o → is_in n (map (λ y. y.tag) more) ≡ false → part_at n (listed o ++ more) ≡ o
at_front n None more tagged new = not_at n more new
at_front n (Some x) more tagged new = if_true (x.tag == n) (Some x) (part_at n more) (eq-eqb x.tag n (tagged x refl))

known_front : (n : ℕ) (ns : List ℕ) (o : Option Part) (more : List Part) → Tagged n o → are_known ns more ≡ true → are_known (n ∷ ns) (listed o ++ more) ≡ true
known_front n ns None more tagged known = known_more n ns more known
known_front n ns (Some x) more tagged known =
    ap (λ a. a && are_known (n ∷ ns) more) (or_left (n == x.tag) _ (eq-eqb n x.tag (sym (tagged x refl)))) ∙ known_more n ns more known

distinct_front : (n : ℕ) (o : Option Part) (more : List Part) → Tagged n o → is_in n (map (λ y. y.tag) more) ≡ false → are_distinct more ≡ true → are_distinct (listed o ++ more) ≡ true
distinct_front n None more tagged new distinct = distinct
distinct_front n (Some x) more tagged new distinct =
    ap (λ a. not a && are_distinct more) (ap (λ m. is_in m (map (λ y. y.tag) more)) (tagged x refl) ∙ new) ∙ distinct

-- ---- what is known of parts that were written

-- each part has a run that its tag owns
abbrev Runs : (ℕ → ℕ → Bool) → List Part → Type 0
Runs owned parts = Each (λ x. Owned owned x.tag x.run) parts

-- the fields have tags among these
abbrev pub Among : List ℕ → List Field → Type 0
Among ns fs = Each (λ f. is_in f.tag ns ≡ true) fs

pub each_more : {X : Type 0} (P Q : X → Type 0) → ((x : X) → P x → Q x) → (xs : List X) → Each P xs → Each Q xs
each_more P Q turn [] all = tt
each_more P Q turn (x ∷ xs) all = (turn x all.0, each_more P Q turn xs all.1)

each_behind : {X : Type 0} (P : X → Type 0) (xs ys : List X) → Each P xs → Each P ys → Each P (xs ++ ys)
each_behind P [] ys a b = b
each_behind P (x ∷ xs) ys a b = (a.0, each_behind P xs ys a.1 b)

in_append_left : (n : ℕ) (xs ys : List ℕ) → is_in n xs ≡ true → is_in n (xs ++ ys) ≡ true
in_append_left n [] ys h = true_false h refl
in_append_left n (x ∷ xs) ys h = elim (either (x == n)) [
  | inl t ↦ or_left (x == n) _ t
  | inr f ↦ or_right (x == n) _ (in_append_left n xs ys (second_of (x == n) (is_in n xs) h f))
]

in_append_right : (n : ℕ) (xs ys : List ℕ) → is_in n ys ≡ true → is_in n (xs ++ ys) ≡ true
in_append_right n [] ys h = h
in_append_right n (x ∷ xs) ys h = or_right (x == n) _ (in_append_right n xs ys h)

pub record Written {X : Type 0} (p : Plan) (look : Look X) (t : Tree X p) (parts : List Part) : Type 0 where
  pub known : are_known (tags p) parts ≡ true
  pub distinct : are_distinct parts ≡ true
  pub runs : Runs (owns p) parts
  pub gathers : gather look p parts ≡ Some t

-- a level whose groups own none of its tags is cut again into the parts that were written
behind_all : (p : Plan) → Unowned p → (owner : ℕ) (parts : List Part) → are_known (tags p) parts ≡ true → Runs (owns p) parts → Behind (owns p) owner parts
behind_all p unowned owner [] known runs = tt
behind_all p unowned owner (x ∷ xs) known runs =
    (unowned owner x.tag (and_first _ _ known), runs.0, behind_all p unowned x.tag xs (and_second _ _ known) runs.1)

told_again : {X : Type 0} (p : Plan) (look : Look X) (t : Tree X p) (parts : List Part) → Unowned p → Written p look t parts → gather_fields look p (fields_in parts) ≡ Some t
told_again p look t parts unowned w =
    let cut : parts_of (owns p) (fields_in parts) ≡ parts = parts_back (owns p) parts (behind_all p unowned 0 parts w.known w.runs) in
    ap (λ ps. cond (are_known (tags p) ps && are_distinct ps) (gather look p ps) None) cut
    ∙ if_true (are_known (tags p) parts && are_distinct parts) (gather look p parts) None (ap (λ a. a && are_distinct parts) w.known ∙ w.distinct)
    ∙ w.gathers

-- ---- what the values of a plan are to be told as

-- the text of a count: none where there are no entries
abbrev pub count_text : {X : Type 0} → List X → Option (List ℕ)
count_text [] = None
count_text (e ∷ es) = Some (decimal (length (e ∷ es)))

-- what is written of each value is told as f says, and each count as the number of entries
abbrev pub Tells : {X : Type 0} → Look X → (Rule → Value → X) → (p : Plan) → Tree Value p → Type 0
Tells look f done t = ⊤
Tells look f (single s rest) t = ((o : Option (List ℕ)) → text_by s.rule t.0 ≡ Ok o → look.at s.rule o ≡ Some (f s.rule t.0)) × Tells look f rest t.1
Tells look f (group g inner rest) t = (look.count g.count (count_text t.0) ≡ Some (length t.0)) × Each (λ e. Tells look f inner e) t.0 × Tells look f rest t.1

-- ---- entries

abbrev Pairs : {X Y : Type 0} → (X → Y → Type 0) → List X → List Y → Type 0
Pairs P [] [] = ⊤
Pairs P [] (y ∷ ys) = ⊥
Pairs P (x ∷ xs) [] = ⊥
Pairs P (x ∷ xs) (y ∷ ys) = P x y × Pairs P xs ys

entries_is : {X : Type 0} (entry : X → Result (List Field) Unwritable) (es : List X) (run : List Field) → entry_fields entry es ≡ Ok run →
    (ps : List (List Field)) × (run ≡ all_fields ps) × Pairs (λ e p. entry e ≡ Ok p) es ps
entries_is entry [] run h = ([], sym (ok_is h), tt)
entries_is entry (e ∷ es) run h =
    let is = joined_is (entry e) (entry_fields entry es) run h in
    let more = entries_is entry es is.1 is.3 in
    (is.0 ∷ more.0, is.4 ∙ ap (λ r. is.0 ++ r) more.1, (is.2, more.2))

-- an entry's piece: the delimiter begins it, its fields are the group's, and it is told as it is to be
pub record IsEntry {X Y : Type 0} (delimiter : ℕ) (owned : List ℕ) (read : List Field → Option Y) (f : X → Y) (e : X) (p : List Field) : Type 0 where
  pub piece : IsPiece delimiter p
  pub among : Among owned p
  pub reads : read p ≡ Some (f e)

pub record AreEntries {X Y : Type 0} (delimiter : ℕ) (owned : List ℕ) (read : List Field → Option Y) (f : X → Y) (es : List X) (ps : List (List Field)) : Type 0 where
  pub pieces : Each (IsPiece delimiter) ps
  pub among : Among owned (all_fields ps)
  pub reads : each read ps ≡ Some (map f es)
  pub many : length ps ≡ length es

entries_all : {X Y : Type 0} (delimiter : ℕ) (owned : List ℕ) (read : List Field → Option Y) (f : X → Y) (entry : X → Result (List Field) Unwritable) (Q : X → Type 0) →
    ((e : X) (p : List Field) → Q e → entry e ≡ Ok p → IsEntry delimiter owned read f e p) →
    (es : List X) (ps : List (List Field)) → Each Q es → Pairs (λ e p. entry e ≡ Ok p) es ps → AreEntries delimiter owned read f es ps
entries_all delimiter owned read f entry Q turn [] [] all pairs = record { pieces = tt; among = tt; reads = refl; many = refl }
entries_all delimiter owned read f entry Q turn [] (p ∷ ps) all pairs = absurd pairs
entries_all delimiter owned read f entry Q turn (e ∷ es) [] all pairs = absurd pairs
entries_all {X} {Y} delimiter owned read f entry Q turn (e ∷ es) (p ∷ ps) all pairs =
    let one = turn e p all.0 pairs.0 in
    let more = entries_all delimiter owned read f entry Q turn es ps all.1 pairs.1 in
    record {
      pieces = (one.piece, more.pieces);
      among = each_behind (λ f. is_in f.tag owned ≡ true) p (all_fields ps) one.among more.among;
      reads = ap (λ o. in_front o (each read ps)) one.reads ∙ ap (in_front (Some (f e))) more.reads;
      many = ap suc more.many;
    }

-- the part of a group: none without entries, else the count and the run
abbrev GroupPart : {X : Type 0} → ℕ → (X → Result (List Field) Unwritable) → List X → Option Part → Type 0
GroupPart tag entry [] o = o ≡ None
GroupPart tag entry (e ∷ es) o =
    (run : List Field) × (o ≡ Some (record { tag = tag; text = decimal (length (e ∷ es)); run = run })) × (entry_fields entry (e ∷ es) ≡ Ok run)

pub counted_is : (tag n : ℕ) (r : Result (List Field) Unwritable) (xs : List Part) → count_part tag n r ≡ Ok xs →
    (run : List Field) × (r ≡ Ok run) × (xs ≡ record { tag = tag; text = decimal n; run = run } ∷ [])
counted_is tag n (Err u) xs h = err_ok h
counted_is tag n (Ok run) xs h = (run, refl, sym (ok_is h))

group_is : {X : Type 0} (tag : ℕ) (entry : X → Result (List Field) Unwritable) (es : List X) (xs : List Part) → group_part tag entry es ≡ Ok xs →
    (o : Option Part) × (xs ≡ listed o) × GroupPart tag entry es o
group_is tag entry [] xs h = (None, sym (ok_is h), refl)
group_is tag entry (e ∷ es) xs h =
    let is = counted_is tag (length (e ∷ es)) (entry_fields entry (e ∷ es)) xs h in
    (Some (record { tag = tag; text = decimal (length (e ∷ es)); run = is.0 }), is.2, (is.0, refl, is.1))

-- what is known of the part of a group that was written
pub record GroupWritten {Y : Type 0} (tag : ℕ) (owned : List ℕ) (inner_tags : List ℕ) (ys : List Y) (group : Option Part → Option (List Y)) (o : Option Part) : Type 0 where
  pub tagged : Tagged tag o
  pub fields : Each (λ x. Among inner_tags x.run) (listed o)
  pub reads : group o ≡ Some ys

run_is : (n : ℕ) (cut : Pieces) (ps : List (List Field)) → cut ≡ record { front = []; pieces = ps } → length ps ≡ n → is_run n cut ≡ true
run_is n cut ps h long = ap (λ c. is_run n c) h ∙ eq-eqb (length ps) n long

pub group_written : {X Y : Type 0} (g : Repeat) (owned : List ℕ) (count : Option (List ℕ) → Option ℕ) (read : List Field → Option Y) (f : X → Y) (entry : X → Result (List Field) Unwritable) (Q : X → Type 0) →
    ((e : X) (p : List Field) → Q e → entry e ≡ Ok p → IsEntry g.delimiter owned read f e p) →
    (es : List X) (o : Option Part) → Each Q es → count (count_text es) ≡ Some (length es) → GroupPart g.tag entry es o →
    GroupWritten g.tag g.owned owned (map f es) (group_in count g.delimiter read) o
group_written g owned count read f entry Q turn [] o all counts is = subst (λ o. GroupWritten g.tag g.owned owned [] (group_in count g.delimiter read) o) (sym is)
    (record { tagged = λ x k. none_some k; fields = tt; reads = and_then_some (count None) (λ n. Some []) 0 counts })
group_written {X} {Y} g owned count read f entry Q turn (e ∷ es) o all counts is =
    let split = entries_is entry (e ∷ es) is.0 is.2 in
    let entries = entries_all g.delimiter owned read f entry Q turn (e ∷ es) split.0 all split.2 in
    let cut : pieces_of g.delimiter is.0 ≡ record { front = []; pieces = split.0 } = ap (pieces_of g.delimiter) split.1 ∙ pieces_back g.delimiter split.0 entries.pieces in
    let n = length (e ∷ es) in
    subst (λ o. GroupWritten g.tag g.owned owned (map f (e ∷ es)) (group_in count g.delimiter read) o) (sym is.1) (record {
      tagged = λ x k. ap (λ y. y.tag) (sym (some_is k));
      fields = (subst (Among owned) (sym split.1) entries.among, tt);
      reads = and_then_some (count (Some (decimal n))) (λ n. entries_in read n (pieces_of g.delimiter is.0)) n counts
          ∙ ap (entries_in read n) cut
          ∙ if_true (is_run n (record { front = []; pieces = split.0 })) (each read split.0) None (run_is n _ split.0 refl entries.many)
          ∙ entries.reads;
    })

-- ---- the tags of fields that were written

among_front : (n : ℕ) (ns : List ℕ) (o : Option Part) (more : List Part) → Tagged n o → is_in n ns ≡ true → Each (λ x. Among ns x.run) (listed o) → Among ns (fields_in more) →
    Among ns (fields_in (listed o ++ more))
among_front n ns None more tagged here runs among = among
among_front n ns (Some x) more tagged here runs among =
    (ap (λ m. is_in m ns) (tagged x refl) ∙ here, each_behind (λ f. is_in f.tag ns ≡ true) x.run (fields_in more) runs.0 among)

among_more : (ns ms : List ℕ) (fs : List Field) → ((n : ℕ) → is_in n ns ≡ true → is_in n ms ≡ true) → Among ns fs → Among ms fs
among_more ns ms fs turn among = each_more (λ f. is_in f.tag ns ≡ true) (λ f. is_in f.tag ms ≡ true) (λ f h. turn f.tag h) fs among

pairs_among : {X : Type 0} (entry : X → Result (List Field) Unwritable) (ns : List ℕ) → ((e : X) (p : List Field) → entry e ≡ Ok p → Among ns p) →
    (es : List X) (ps : List (List Field)) → Pairs (λ e p. entry e ≡ Ok p) es ps → Among ns (all_fields ps)
pairs_among entry ns turn [] [] pairs = tt
pairs_among entry ns turn [] (p ∷ ps) pairs = absurd pairs
pairs_among entry ns turn (e ∷ es) [] pairs = absurd pairs
pairs_among entry ns turn (e ∷ es) (p ∷ ps) pairs = each_behind (λ f. is_in f.tag ns ≡ true) p (all_fields ps) (turn e p pairs.0) (pairs_among entry ns turn es ps pairs.1)

group_runs : {X : Type 0} (tag : ℕ) (entry : X → Result (List Field) Unwritable) (ns : List ℕ) → ((e : X) (p : List Field) → entry e ≡ Ok p → Among ns p) →
    (es : List X) (o : Option Part) → GroupPart tag entry es o → Tagged tag o × Each (λ x. Among ns x.run) (listed o)
group_runs tag entry ns turn [] o is = subst (λ o. Tagged tag o × Each (λ x. Among ns x.run) (listed o)) (sym is) (λ x k. none_some k, tt)
group_runs tag entry ns turn (e ∷ es) o is =
    let split = entries_is entry (e ∷ es) is.0 is.2 in
    subst (λ o. Tagged tag o × Each (λ x. Among ns x.run) (listed o)) (sym is.1)
    (λ x k. ap (λ y. y.tag) (sym (some_is k)), (subst (Among ns) (sym split.1) (pairs_among entry ns turn (e ∷ es) split.0 split.2), tt))

field_tagged : (tag : ℕ) (o : Option (List ℕ)) → Tagged tag (field_part tag o)
field_tagged tag None = λ x k. none_some k
field_tagged tag (Some t) = λ x k. ap (λ y. y.tag) (sym (some_is k))

field_runs : (tag : ℕ) (ns : List ℕ) (o : Option (List ℕ)) → Each (λ x. Among ns x.run) (listed (field_part tag o))
field_runs tag ns None = tt
field_runs tag ns (Some t) = (tt, tt)

-- an entry's fields as they are written
abbrev pub entry_of : Repeat → (inner : Plan) → Tree Value inner → Result (List Field) Unwritable
entry_of g inner e = if_begun g.tag (begins inner e) (answer_fields (message_parts inner e))

pub fields_among : (p : Plan) (t : Tree Value p) (parts : List Part) → message_parts p t ≡ Ok parts → Among (all_tags p) (fields_in parts)
fields_among done t parts h = subst (λ ps. Among [] (fields_in ps)) (ok_is h) tt
fields_among (single s rest) t parts h =
    let is = joined_is (slot_part s.tag (text_by s.rule t.0)) (message_parts rest t.1) parts h in
    let slot = slot_is s.tag (text_by s.rule t.0) is.0 is.2 in
    let ns = all_tags (single s rest) in
    let more = among_more (all_tags rest) ns (fields_in is.1) (λ n k. or_right (s.tag == n) (is_in n (all_tags rest)) k) (fields_among rest t.1 is.1 is.3) in
    subst (λ ps. Among ns (fields_in ps)) (sym (is.4 ∙ ap (λ xs. xs ++ is.1) slot.2))
    (among_front s.tag ns (field_part s.tag slot.0) is.1 (field_tagged s.tag slot.0) (or_left (s.tag == s.tag) _ (same_self s.tag)) (field_runs s.tag ns slot.0) more)
fields_among (group g inner rest) t parts h =
    let is = joined_is (group_part g.tag (entry_of g inner) t.0) (message_parts rest t.1) parts h in
    let one = group_is g.tag (entry_of g inner) t.0 is.0 is.2 in
    let ns = all_tags (group g inner rest) in
    let entry = λ (e : Tree Value inner) (p : List Field) (k : entry_of g inner e ≡ Ok p).
    let begun = delimited_is g.tag (begins inner e) (answer_fields (message_parts inner e)) p k in
    let ps = fields_is (message_parts inner e) p begun.1 in
    among_more (all_tags inner) ns p (λ n here. or_right (g.tag == n) _ (in_append_left n (all_tags inner) (all_tags rest) here))
    (subst (Among (all_tags inner)) (sym ps.2) (fields_among inner e ps.0 ps.1)) in
    let runs = group_runs g.tag (entry_of g inner) ns entry t.0 one.0 one.2 in
    let more = among_more (all_tags rest) ns (fields_in is.1) (λ n here. or_right (g.tag == n) _ (in_append_right n (all_tags inner) (all_tags rest) here)) (fields_among rest t.1 is.1 is.3) in
    subst (λ ps. Among ns (fields_in ps)) (sym (is.4 ∙ ap (λ xs. xs ++ is.1) one.1))
    (among_front g.tag ns one.0 is.1 runs.0 (or_left (g.tag == g.tag) _ (same_self g.tag)) runs.1 more)

-- ---- the first field of an entry

piece_of : (delimiter : ℕ) (inner : Plan) → BeginsWith delimiter inner → (e : Tree Value inner) (parts : List Part) → begins inner e ≡ true → message_parts inner e ≡ Ok parts → IsPiece delimiter (fields_in parts)
piece_of delimiter done with e parts begun h = absurd with
piece_of delimiter (group g inner rest) with e parts begun h = absurd with
piece_of delimiter (single s rest) with e parts begun h =
    let is = joined_is (slot_part s.tag (text_by s.rule e.0)) (message_parts rest e.1) parts h in
    let slot = slot_is s.tag (text_by s.rule e.0) is.0 is.2 in
    let among = fields_among rest e.1 is.1 is.3 in
    subst (λ ps. IsPiece delimiter (fields_in ps)) (sym (is.4 ∙ ap (λ xs. xs ++ is.1) slot.2))
    (begun_piece slot.0 (sym (ap gives_field slot.1) ∙ begun) is.1
    (each_more (λ f. is_in f.tag (all_tags rest) ≡ true) (λ f. (f.tag == delimiter) ≡ false) (λ f here. other f here) (fields_in is.1) among))
  where
    other : (f : Field) → is_in f.tag (all_tags rest) ≡ true → (f.tag == delimiter) ≡ false
    other f here = elim (either (f.tag == delimiter)) [
      | inl t ↦ true_false (ap (λ m. is_in m (all_tags rest)) (sym (eqb-true f.tag delimiter t)) ∙ here) with.1
      | inr n ↦ n
    ]

    begun_piece : (o : Option (List ℕ)) → gives_field (Ok o) ≡ true → (more : List Part) → Each (λ f. (f.tag == delimiter) ≡ false) (fields_in more) →
        IsPiece delimiter (fields_in (listed (field_part s.tag o) ++ more))
    begun_piece None k more all = true_false k refl
    begun_piece (Some t) k more all = (eq-eqb s.tag delimiter with.0, all)

-- ---- all parts

written_front : {X : Type 0} (look : Look X) (n : ℕ) (rest : Plan) (o : Option Part) (more : List Part) (t : Tree X rest) → is_in n (tags rest) ≡ false → Tagged n o → Written rest look t more →
    (are_known (n ∷ tags rest) (listed o ++ more) ≡ true) × (are_distinct (listed o ++ more) ≡ true) × (part_at n (listed o ++ more) ≡ o) × (gather look rest (listed o ++ more) ≡ Some t)
written_front look n rest o more t new tagged w =
    let free = not_among n (tags rest) more w.known new in (
      known_front n (tags rest) o more tagged w.known,
      distinct_front n o more tagged free w.distinct,
      at_front n o more tagged free,
      skipped_option look rest n o more tagged new ∙ w.gathers,
    )

runs_front : (owned : ℕ → ℕ → Bool) (o : Option Part) (more : List Part) → ((x : Part) → o ≡ Some x → Owned owned x.tag x.run) → Runs owned more → Runs owned (listed o ++ more)
runs_front owned None more here runs = runs
runs_front owned (Some x) more here runs = (here x refl, runs)

field_owned : (owned : ℕ → ℕ → Bool) (tag : ℕ) (o : Option (List ℕ)) (x : Part) → field_part tag o ≡ Some x → Owned owned x.tag x.run
field_owned owned tag None x k = none_some k
field_owned owned tag (Some t) x k = subst (λ x. Owned owned x.tag x.run) (some_is k) tt

field_text : (tag : ℕ) (o : Option (List ℕ)) → and_then (field_part tag o) (λ x. Some x.text) ≡ o
field_text tag None = refl
field_text tag (Some t) = refl

listed_is : (P : Part → Type 0) (o : Option Part) (x : Part) → o ≡ Some x → Each P (listed o) → P x
listed_is P None x k all = none_some k
listed_is P (Some y) x k all = subst P (some_is k) all.0

both_so : (a b : Bool) → a ≡ true → b ≡ true → a && b ≡ true
both_so a b p q = ap (λ a. a && b) p ∙ q

pub written_is : {X : Type 0} (look : Look X) (f : Rule → Value → X) (p : Plan) → IsPlanned p → (t : Tree Value p) → Tells look f p t → (parts : List Part) → message_parts p t ≡ Ok parts →
    Written p look (map_tree f p t) parts
written_is look f done planned t tells parts h = subst (λ ps. Written done look tt ps) (ok_is h) (record { known = refl; distinct = refl; runs = tt; gathers = refl })
written_is look f (single s rest) planned t tells parts h =
    let is = joined_is (slot_part s.tag (text_by s.rule t.0)) (message_parts rest t.1) parts h in
    let slot = slot_is s.tag (text_by s.rule t.0) is.0 is.2 in
    let more = written_is look f rest planned.1 t.1 tells.1 is.1 is.3 in
    let o = field_part s.tag slot.0 in
    let front = written_front look s.tag rest o is.1 (map_tree f rest t.1) planned.0 (field_tagged s.tag slot.0) more in
    subst (λ ps. Written (single s rest) look (map_tree f (single s rest) t) ps) (sym (is.4 ∙ ap (λ xs. xs ++ is.1) slot.2)) (record {
      known = front.0;
      distinct = front.1;
      runs = runs_front (owns rest) o is.1 (λ x k. field_owned (owns rest) s.tag slot.0 x k) more.runs;
      gathers = both_some _ _ _ _ (ap (λ o. look.at s.rule (and_then o (λ x. Some x.text))) front.2 ∙ ap (look.at s.rule) (field_text s.tag slot.0) ∙ tells.0 slot.0 slot.1) front.3;
    })
written_is look f (group g inner rest) planned t tells parts h =
    let is = joined_is (group_part g.tag (entry_of g inner) t.0) (message_parts rest t.1) parts h in
    let one = group_is g.tag (entry_of g inner) t.0 is.0 is.2 in
    let more = written_is look f rest planned.5 t.1 tells.2 is.1 is.3 in
    let read = in_level inner (λ piece. gather look inner piece) in
    let entry = λ (e : Tree Value inner) (p : List Field) (q : Tells look f inner e) (k : entry_of g inner e ≡ Ok p).
    let begun = delimited_is g.tag (begins inner e) (answer_fields (message_parts inner e)) p k in
    let ps = fields_is (message_parts inner e) p begun.1 in
    let w = written_is look f inner planned.4 e q ps.0 ps.1 in
    is_entry g.delimiter (all_tags inner) read (λ e. map_tree f inner e) e p (fields_in ps.0) ps.2
    (piece_of g.delimiter inner planned.1 e ps.0 begun.0 ps.1) (fields_among inner e ps.0 ps.1) (told_again inner look (map_tree f inner e) ps.0 planned.3 w) in
    let here = group_written g (all_tags inner) (look.count g.count) read (λ e. map_tree f inner e) (entry_of g inner) (λ e. Tells look f inner e) entry t.0 one.0 tells.1 tells.0 one.2 in
    let front = written_front look g.tag rest one.0 is.1 (map_tree f rest t.1) planned.0 here.tagged more in
    let owned = owns (group g inner rest) in
    subst (λ ps. Written (group g inner rest) look (map_tree f (group g inner rest) t) ps) (sym (is.4 ∙ ap (λ xs. xs ++ is.1) one.1)) (record {
      known = front.0;
      distinct = front.1;
      runs = runs_front owned one.0 is.1
          (λ x k. subst (λ n. Owned owned n x.run) (sym (here.tagged x k))
          (each_more (λ f. is_in f.tag (all_tags inner) ≡ true) (λ f. owned g.tag f.tag ≡ true)
          (λ f among. or_left ((g.tag == g.tag) && is_in f.tag g.owned) _ (both_so (g.tag == g.tag) _ (same_self g.tag) (planned.2 f.tag among))) x.run
          (listed_is (λ x. Among (all_tags inner) x.run) one.0 x k here.fields)))
          (each_more (λ x. Owned (owns rest) x.tag x.run) (λ x. Owned owned x.tag x.run)
          (λ x run. each_more (λ f. owns rest x.tag f.tag ≡ true) (λ f. owned x.tag f.tag ≡ true) (λ f k. or_right ((g.tag == x.tag) && is_in f.tag g.owned) _ k) x.run run) is.1 more.runs);
      gathers = both_some _ _ _ _ (ap (group_in (look.count g.count) g.delimiter read) front.2 ∙ here.reads) front.3;
    })
  where
    is_entry : {X Y : Type 0} (delimiter : ℕ) (owned : List ℕ) (read : List Field → Option Y) (f : X → Y) (e : X) (p fs : List Field) → p ≡ fs → IsPiece delimiter fs → Among owned fs → read fs ≡ Some (f e) → IsEntry delimiter owned read f e p
    is_entry delimiter owned read f e p fs same piece among reads = subst (λ p. IsEntry delimiter owned read f e p) (sym same) (record { piece = piece; among = among; reads = reads })

-- what was written of values tells the values
pub written_told : {X : Type 0} (look : Look X) (f : Rule → Value → X) (p : Plan) → IsRoot p → (t : Tree Value p) → Tells look f p t → (fields : List Field) → fields_of p t ≡ Ok fields →
    gather_fields look p fields ≡ Some (map_tree f p t)
written_told look f p root t tells fields h =
    let is = fields_is (message_parts p t) fields h in
    ap (gather_fields look p) is.2 ∙ told_again p look (map_tree f p t) is.0 root.unowned (written_is look f p root.planned t tells is.0 is.1)
