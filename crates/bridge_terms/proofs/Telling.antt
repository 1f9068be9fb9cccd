-- Where no place is refused, the places are the fields of the message, and only then; and what a limit lets through.
use Rattle.std.proofs.Common.{◌≡◌, ℕ, suc, Bool, true, false, List, [], ◌∷◌, ◌++◌, map, length, decimal, Option, Some, None, Result, Ok, Err, refl, sym, ap, ◌∙◌, append_assoc}
use Rattle.std.proofs.lemmas.List.{append-nil}
use Rattle.sbe_types.specs.declared.message.Value.{Value}
use Rattle.fix_values.specs.declared.rule.V.{V}
use Rattle.tagvalue_codec.specs.Fields.{Field}
use Rattle.bridge_rules.specs.Texts.{text_by}
use Rattle.bridge_rules.proofs.OptionLemmas.{some_none}
use Rattle.bridge_terms.specs.Plans.{Plan, Tree, done, single, group}
use Rattle.bridge_terms.specs.Parts.{Part, part_fields, fields_in}
use Rattle.bridge_terms.specs.MessageFields.{Unwritable, join_answers, slot_part, begins, entry_fields, count_part, group_part, answer_fields, if_begun, message_parts, fields_of}
use Rattle.bridge_terms.specs.Places.{Way, to_part, to_entry, Refused, Written, Places, places_then, then_places, place_in, places_in, place_of, slot_places, entries_places, run_places, begun_places, places_of, place_fields}
use Rattle.bridge_terms.proofs.Writing.{joined_is, fields_is, counted_is, err_ok}

fields_more : (xs ys : List Written) → place_fields (xs ++ ys) ≡ place_fields xs ++ place_fields ys
fields_more [] ys = refl
fields_more (x ∷ xs) ys = ap (λ r. x.fields ++ r) (fields_more xs ys) ∙ sym (append_assoc x.fields (place_fields xs) (place_fields ys))

-- the way to places says nothing of their fields
same_fields : (step : Way) (xs : List Written) → place_fields (map (place_in step) xs) ≡ place_fields xs
same_fields step [] = refl
same_fields step (x ∷ xs) = ap (λ r. x.fields ++ r) (same_fields step xs)

parts_more : (xs ys : List Part) → fields_in (xs ++ ys) ≡ fields_in xs ++ fields_in ys
parts_more [] ys = refl
parts_more (x ∷ xs) ys = ap (λ r. part_fields x ++ r) (parts_more xs ys) ∙ sym (append_assoc (part_fields x) (fields_in xs) (fields_in ys))

-- neither was refused
both_told : (a b : Places) → (then_places a b).refused ≡ None → (a.refused ≡ None) × (b.refused ≡ None) × (place_fields (then_places a b).places ≡ place_fields a.places ++ place_fields b.places)
both_told a b h = by_end a.refused h
  where
    by_end : (o : Option Refused) → (places_then a.places o b).refused ≡ None → (o ≡ None) × (b.refused ≡ None) × (place_fields (places_then a.places o b).places ≡ place_fields a.places ++ place_fields b.places)
    by_end None k = (refl, k, fields_more a.places b.places)
    by_end (Some u) k = some_none k

inside_told : (step : Way) (inner : Places) → (places_in step inner).refused ≡ None → inner.refused ≡ None
inside_told step inner h = by_end inner.refused h
  where
    by_end : (o : Option Refused) → (places_in step (record { places = inner.places; refused = o })).refused ≡ None → o ≡ None
    by_end None k = refl
    by_end (Some u) k = some_none k

joined_so : {X : Type 0} (a b : Result (List X) Unwritable) (xs ys : List X) → a ≡ Ok xs → b ≡ Ok ys → join_answers a b ≡ Ok (xs ++ ys)
joined_so a b xs ys p q = ap (λ a. join_answers a b) p ∙ ap (join_answers (Ok xs)) q

-- the parts are there, and their fields are those of the places
abbrev Tells : List Written → Result (List Part) Unwritable → Type 0
Tells places parts = (xs : List Part) × (parts ≡ Ok xs) × (fields_in xs ≡ place_fields places)

abbrev TellsFields : List Written → Result (List Field) Unwritable → Type 0
TellsFields places fields = fields ≡ Ok (place_fields places)

slot_tells : (tag : ℕ) (r : Result (Option (List ℕ)) V) → (slot_places tag r).refused ≡ None → Tells (slot_places tag r).places (slot_part tag r)
slot_tells tag (Err v) h = some_none h
slot_tells tag (Ok None) h = ([], refl, refl)
slot_tells tag (Ok (Some t)) h = (record { tag = tag; text = t; run = [] } ∷ [], refl, refl)

entries_tell : {X : Type 0} (entry : X → Places) (fields : X → Result (List Field) Unwritable) → ((e : X) → (entry e).refused ≡ None → TellsFields (entry e).places (fields e)) →
    (i : ℕ) (es : List X) → (entries_places entry i es).refused ≡ None → TellsFields (entries_places entry i es).places (entry_fields fields es)
entries_tell entry fields turn i [] h = refl
entries_tell entry fields turn i (e ∷ es) h =
    let is = both_told (places_in (to_entry i) (entry e)) (entries_places entry (suc i) es) h in
    joined_so (fields e) (entry_fields fields es) _ _ (turn e (inside_told (to_entry i) (entry e) is.0)) (entries_tell entry fields turn (suc i) es is.1)
    ∙ ap Ok (ap (λ r. r ++ place_fields (entries_places entry (suc i) es).places) (sym (same_fields (to_entry i) (entry e).places)) ∙ sym is.2)

group_tells : {X : Type 0} (tag : ℕ) (entry : X → Places) (fields : X → Result (List Field) Unwritable) → ((e : X) → (entry e).refused ≡ None → TellsFields (entry e).places (fields e)) →
    (es : List X) → (run_places tag entry es).refused ≡ None → Tells (run_places tag entry es).places (group_part tag fields es)
group_tells tag entry fields turn [] h = ([], refl, refl)
group_tells tag entry fields turn (e ∷ es) h =
    let count = place_of tag (decimal (length (e ∷ es))) in
    let run = entries_places entry 0 (e ∷ es) in
    let is = both_told count run (inside_told (to_part tag) (then_places count run) h) in
    let written = entries_tell entry fields turn 0 (e ∷ es) is.1 in (
      record { tag = tag; text = decimal (length (e ∷ es)); run = place_fields run.places } ∷ [],
      ap (count_part tag (length (e ∷ es))) written,
      ap (λ r. record { tag = tag; value = decimal (length (e ∷ es)) } ∷ r) (append-nil (place_fields run.places)) ∙ sym is.2 ∙ sym (same_fields (to_part tag) (then_places count run).places),
    )

begun_tells : (tag : ℕ) (test : Bool) (inner : Places) (fields : Result (List Field) Unwritable) → (inner.refused ≡ None → TellsFields inner.places fields) → (begun_places test inner).refused ≡ None →
    TellsFields (begun_places test inner).places (if_begun tag test fields)
begun_tells tag true inner fields turn h = turn h
begun_tells tag false inner fields turn h = some_none h

pub parts_tell : (p : Plan) (t : Tree Value p) → (places_of p t).refused ≡ None → Tells (places_of p t).places (message_parts p t)
parts_tell done t h = ([], refl, refl)
parts_tell (single s rest) t h =
    let is = both_told (slot_places s.tag (text_by s.rule t.0)) (places_of rest t.1) h in
    let here = slot_tells s.tag (text_by s.rule t.0) is.0 in
    let more = parts_tell rest t.1 is.1 in
    (here.0 ++ more.0, joined_so _ _ here.0 more.0 here.1 more.1, parts_more here.0 more.0 ∙ ap (λ x. x ++ fields_in more.0) here.2 ∙ ap (λ y. place_fields (slot_places s.tag (text_by s.rule t.0)).places ++ y) more.2 ∙ sym is.2)
parts_tell (group g inner rest) t h =
    let entry = λ (e : Tree Value inner). begun_places (begins inner e) (places_of inner e) in
    let fields = λ (e : Tree Value inner). if_begun g.tag (begins inner e) (answer_fields (message_parts inner e)) in
    let is = both_told (run_places g.tag entry t.0) (places_of rest t.1) h in
    let turn = λ (e : Tree Value inner) (k : (entry e).refused ≡ None).
    begun_tells g.tag (begins inner e) (places_of inner e) (answer_fields (message_parts inner e))
    (λ k. let ps = parts_tell inner e k in ap answer_fields ps.1 ∙ ap Ok ps.2) k in
    let here = group_tells g.tag entry fields turn t.0 is.0 in
    let more = parts_tell rest t.1 is.1 in
    (here.0 ++ more.0, joined_so _ _ here.0 more.0 here.1 more.1, parts_more here.0 more.0 ∙ ap (λ x. x ++ fields_in more.0) here.2 ∙ ap (λ y. place_fields (run_places g.tag entry t.0).places ++ y) more.2 ∙ sym is.2)

-- places of which none is refused are the fields of the message
pub told_fields : (p : Plan) (t : Tree Value p) → (places_of p t).refused ≡ None → fields_of p t ≡ Ok (place_fields (places_of p t).places)
told_fields p t h = let is = parts_tell p t h in ap answer_fields is.1 ∙ ap Ok is.2

-- ---- and only then

both_unrefused : (a b : Places) → a.refused ≡ None → b.refused ≡ None → (then_places a b).refused ≡ None
both_unrefused a b h k = ap (λ o. (places_then a.places o b).refused) h ∙ k

inside_unrefused : (step : Way) (inner : Places) → inner.refused ≡ None → (places_in step inner).refused ≡ None
inside_unrefused step inner h = ap (λ o. (places_in step (record { places = inner.places; refused = o })).refused) h

slot_unrefused : (tag : ℕ) (r : Result (Option (List ℕ)) V) (xs : List Part) → slot_part tag r ≡ Ok xs → (slot_places tag r).refused ≡ None
slot_unrefused tag (Err v) xs h = err_ok h
slot_unrefused tag (Ok None) xs h = refl
slot_unrefused tag (Ok (Some t)) xs h = refl

entries_unrefused : {X : Type 0} (entry : X → Places) (fields : X → Result (List Field) Unwritable) → ((e : X) (fs : List Field) → fields e ≡ Ok fs → (entry e).refused ≡ None) →
    (i : ℕ) (es : List X) (fs : List Field) → entry_fields fields es ≡ Ok fs → (entries_places entry i es).refused ≡ None
entries_unrefused entry fields turn i [] fs h = refl
entries_unrefused entry fields turn i (e ∷ es) fs h =
    let is = joined_is (fields e) (entry_fields fields es) fs h in
    both_unrefused (places_in (to_entry i) (entry e)) (entries_places entry (suc i) es) (inside_unrefused (to_entry i) (entry e) (turn e is.0 is.2)) (entries_unrefused entry fields turn (suc i) es is.1 is.3)

group_unrefused : {X : Type 0} (tag : ℕ) (entry : X → Places) (fields : X → Result (List Field) Unwritable) → ((e : X) (fs : List Field) → fields e ≡ Ok fs → (entry e).refused ≡ None) →
    (es : List X) (xs : List Part) → group_part tag fields es ≡ Ok xs → (run_places tag entry es).refused ≡ None
group_unrefused tag entry fields turn [] xs h = refl
group_unrefused tag entry fields turn (e ∷ es) xs h =
    let n = length (e ∷ es) in
    let is = counted_is tag n (entry_fields fields (e ∷ es)) xs h in
    let run = entries_places entry 0 (e ∷ es) in
    inside_unrefused (to_part tag) (then_places (place_of tag (decimal n)) run) (both_unrefused (place_of tag (decimal n)) run refl (entries_unrefused entry fields turn 0 (e ∷ es) is.0 is.1))

begun_unrefused : (tag : ℕ) (test : Bool) (inner : Places) (fields : Result (List Field) Unwritable) (fs : List Field) → if_begun tag test fields ≡ Ok fs → (fields ≡ Ok fs → inner.refused ≡ None) →
    (begun_places test inner).refused ≡ None
begun_unrefused tag true inner fields fs h turn = turn h
begun_unrefused tag false inner fields fs h turn = err_ok h

parts_unrefused : (p : Plan) (t : Tree Value p) (parts : List Part) → message_parts p t ≡ Ok parts → (places_of p t).refused ≡ None
parts_unrefused done t parts h = refl
parts_unrefused (single s rest) t parts h =
    let is = joined_is (slot_part s.tag (text_by s.rule t.0)) (message_parts rest t.1) parts h in
    both_unrefused (slot_places s.tag (text_by s.rule t.0)) (places_of rest t.1) (slot_unrefused s.tag (text_by s.rule t.0) is.0 is.2) (parts_unrefused rest t.1 is.1 is.3)
parts_unrefused (group g inner rest) t parts h =
    let entry = λ (e : Tree Value inner). begun_places (begins inner e) (places_of inner e) in
    let fields = λ (e : Tree Value inner). if_begun g.tag (begins inner e) (answer_fields (message_parts inner e)) in
    let is = joined_is (group_part g.tag fields t.0) (message_parts rest t.1) parts h in
    both_unrefused (run_places g.tag entry t.0) (places_of rest t.1)
    (group_unrefused g.tag entry fields
    (λ e fs k. begun_unrefused g.tag (begins inner e) (places_of inner e) (answer_fields (message_parts inner e)) fs k
    (λ w. let ps = fields_is (message_parts inner e) fs w in parts_unrefused inner e ps.0 ps.1)) t.0 is.0 is.2)
    (parts_unrefused rest t.1 is.1 is.3)

-- no place of a message that has fields is refused
pub written_unrefused : (p : Plan) (t : Tree Value p) (fields : List Field) → fields_of p t ≡ Ok fields → (places_of p t).refused ≡ None
written_unrefused p t fields h = let is = fields_is (message_parts p t) fields h in parts_unrefused p t is.0 is.1
