-- What is written of a message up to the first place that is refused, place by place, with the path to each; and the
-- first place at which the text exceeds a limit. Own profile.
use Rattle.std.specs.Prelude.{ℕ, ◌≤◌, suc, Bool, true, false, nat_lt, if◌then◌else◌, List, [], ◌∷◌, ◌++◌, map, flat_map, length, Option, Some, None, Result, Ok, Err}
use Rattle.std.specs.Fmt.{decimal}
use Rattle.sbe_types.specs.declared.message.Value.{Value}
use Rattle.fix_values.specs.declared.rule.V.{V}
use Rattle.bridge_rules.specs.Texts.{text_by}
use Rattle.bridge_terms.specs.Plans.{Plan, Tree, done, single, group}
use Rattle.tagvalue_codec.specs.Fields.{Field}
use Rattle.bridge_terms.specs.MessageFields.{begins}

-- a step of a path: a part by its tag, or an entry by its number
pub data Way : Type 0 where
  to_part : ℕ → Way
  to_entry : ℕ → Way

-- why a place isn't written: its value doesn't have a text, or its entry doesn't begin with the delimiter
pub data Why : Type 0 where
  no_text : V → Why
  no_delimiter : Why

-- the first place that isn't written
pub record Refused : Type 0 where
  pub way : List Way
  pub why : Why

-- a place that is written: the path to it, and its fields
pub record Written : Type 0 where
  pub way : List Way
  pub fields : List Field

-- the places that are written, and the refused one after them, if there is one
pub record Places : Type 0 where
  pub places : List Written
  pub refused : Option Refused

-- ---- places of parts

-- places, and then others unless the first ones end with a refusal
abbrev pub places_then : List Written → Option Refused → Places → Places
places_then places (Some u) later = record { places = places; refused = Some u }
places_then places None later = record { places = places ++ later.places; refused = later.refused }

-- the places of two parts in order
abbrev pub then_places : Places → Places → Places
then_places first later = places_then first.places first.refused later

-- a refusal inside a part or an entry
abbrev refusal_in : Way → Option Refused → Option Refused
refusal_in step None = None
refusal_in step (Some u) = Some (record { way = step ∷ u.way; why = u.why })

-- a place inside a part or an entry
abbrev pub place_in : Way → Written → Written
place_in step x = record { way = step ∷ x.way; fields = x.fields }

-- the places inside a part or an entry
abbrev pub places_in : Way → Places → Places
places_in step inner = record { places = map (place_in step) inner.places; refused = refusal_in step inner.refused }

-- no place
abbrev pub no_places : Places
no_places = record { places = []; refused = None }

-- a part's own field
abbrev pub place_of : ℕ → List ℕ → Places
place_of tag text = record { places = record { way = []; fields = record { tag = tag; value = text } ∷ [] } ∷ []; refused = None }

-- a place that isn't written
abbrev pub refused_by : Why → Places
refused_by why = record { places = []; refused = Some (record { way = []; why = why }) }

-- the place of a text, if it has one, or the refusal
abbrev pub text_places : ℕ → Result (Option (List ℕ)) V → Places
text_places tag (Err v) = refused_by (no_text v)
text_places tag (Ok None) = no_places
text_places tag (Ok (Some t)) = place_of tag t

-- the place of a field or data part
abbrev pub slot_places : ℕ → Result (Option (List ℕ)) V → Places
slot_places tag text = places_in (to_part tag) (text_places tag text)

-- the places of entries in order, of which the first has number i
abbrev pub entries_places : {X : Type 0} → (X → Places) → ℕ → List X → Places
entries_places entry i [] = no_places
entries_places entry i (e ∷ es) = then_places (places_in (to_entry i) (entry e)) (entries_places entry (suc i) es)

-- the places of a group's count and its entries, if it has any
abbrev pub run_places : {X : Type 0} → ℕ → (X → Places) → List X → Places
run_places tag entry [] = no_places
run_places tag entry (e ∷ es) = places_in (to_part tag) (then_places (place_of tag (decimal (length (e ∷ es)))) (entries_places entry 0 (e ∷ es)))

-- the places of an entry, which must begin with its delimiter
abbrev pub begun_places : Bool → Places → Places
begun_places true inner = inner
begun_places false inner = refused_by no_delimiter

-- the places of a message
abbrev pub places_of : (p : Plan) → Tree Value p → Places
places_of done t = no_places
places_of (single s rest) t = then_places (slot_places s.tag (text_by s.rule t.0)) (places_of rest t.1)
places_of (group g inner rest) t = then_places (run_places g.tag (λ e. begun_places (begins inner e) (places_of inner e)) t.0) (places_of rest t.1)

-- the fields of places
abbrev pub place_fields : List Written → List Field
place_fields places = flat_map (λ x. x.fields) places

-- ---- a limit

-- the path to a place, and how many bytes the text would have up to there
pub record Over : Type 0 where
  pub way : List Way
  pub size : ℕ

-- The first place with which the text has more bytes than the limit. `size` gives the length of the text of some
-- fields, and `before` are the fields before the first place.
abbrev pub first_over : (List Field → ℕ) → ℕ → List Field → List Written → Option Over
first_over size limit before [] = None
first_over size limit before (x ∷ xs) =
    if nat_lt limit (size (before ++ x.fields))
    then Some (record { way = x.way; size = size (before ++ x.fields) })
    else first_over size limit (before ++ x.fields) xs

-- more fields never take fewer bytes
abbrev pub Grows : (List Field → ℕ) → Type 0
Grows size = (xs ys : List Field) → size xs ≤ size (xs ++ ys)

-- why a message isn't written completely
pub data Unsent : Type 0 where
  over_limit : Over → Unsent
  unwritten : Refused → Unsent

-- a place over the limit, or else the one that is refused
abbrev pub or_refused : Option Over → Option Refused → Option Unsent
or_refused (Some o) u = Some (over_limit o)
or_refused None None = None
or_refused None (Some u) = Some (unwritten u)

-- The first refusal of a message: a place over the limit, or else the place that is refused, which is after all others.
abbrev pub first_unsent : (List Field → ℕ) → ℕ → List Field → Places → Option Unsent
first_unsent size limit before all = or_refused (first_over size limit before all.places) all.refused
