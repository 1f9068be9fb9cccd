-- Arrays and objects that grow at their end.
use Rattle.std.proofs.Common.{◌≡◌, ℕ, ◌+◌, ◌<◌, List, [], ◌∷◌, ◌++◌, length, take, get_or, map, Bor, Option, Some, None, refl, ap, ◌∙◌, subst}
use Rattle.std.proofs.lemmas.List.{take_more, map-append}
use Rattle.json.specs.Token.{Token}
use Rattle.json.specs.Json.{parse_map}
use Rattle.serde_json.specs.Data.{Data, Items, no_items, item, Members, no_members, put}
use Rattle.serde_json.specs.Find.{get_member}
use Rattle.serde_json.proofs.Views.{get_member-put, get_member-put_other}
use Rattle.json_data.specs.declared.data.Json.{Json}
use Rattle.json_data.specs.Trees.{data_of, items_of, members_of, put_each}

abbrev pub Pair : Type 0
Pair = Bor (List ℕ) × Json

-- ---- members

each_more : (ms : List (Bor (List ℕ) × Data)) (m : Bor (List ℕ) × Data) (found : Members) → put_each (ms ++ m ∷ []) found ≡ put m.0.now m.1 (put_each ms found)
each_more [] m found = refl
each_more (l ∷ ms) m found = each_more ms m (put l.0.now l.1 found)

pub one_more_member : (ms : List Pair) (m : Pair) → members_of (ms ++ m ∷ []) ≡ put m.0.now (data_of m.1) (members_of ms)
one_more_member ms m =
    ap (λ ds. put_each ds no_members) (map-append (λ (p : Pair). (p.0, data_of p.1)) ms (m ∷ [])) ∙ each_more (map (λ (p : Pair). (p.0, data_of p.1)) ms) (m.0, data_of m.1) no_members

module _ (ms : List Pair) (i : ℕ) (other : Pair) (h : i < length ms) where
  -- member i
  abbrev here : Pair
  here = get_or ms i other

  -- member i, after those before it
  pub member_there : members_of (take (i + 1) ms) ≡ put here.0.now (data_of here.1) (members_of (take i ms))
  member_there = ap members_of (take_more ms i other h) ∙ one_more_member (take i ms) here

  pub found_here : (name : List ℕ) → here.0.now ≡ name → get_member name (members_of (take (i + 1) ms)) ≡ Some (data_of here.1)
  found_here name same =
      ap (get_member name) member_there ∙ subst (λ n. get_member n (put here.0.now (data_of here.1) (members_of (take i ms))) ≡ Some (data_of here.1)) same (get_member-put here.0.now (data_of here.1) (members_of (take i ms)))

  pub found_before : (name : List ℕ) → (name ≡ here.0.now → ⊥) → get_member name (members_of (take (i + 1) ms)) ≡ get_member name (members_of (take i ms))
  found_before name apart = ap (get_member name) member_there ∙ get_member-put_other name here.0.now (data_of here.1) (members_of (take i ms)) apart

-- ---- items

-- the items of a list, and others after them
abbrev pub ahead : List Json → Items → Items
ahead [] rest = rest
ahead (d ∷ ds) rest = item (data_of d) (ahead ds rest)

pub ahead-none : (ds : List Json) → ahead ds no_items ≡ items_of ds
ahead-none [] = refl
ahead-none (d ∷ ds) = ap (item (data_of d)) (ahead-none ds)

ahead_more : (ds : List Json) (d : Json) (rest : Items) → ahead ds (item (data_of d) rest) ≡ ahead (ds ++ d ∷ []) rest
ahead_more [] d rest = refl
ahead_more (e ∷ ds) d rest = ap (item (data_of e)) (ahead_more ds d rest)

pub one_more_item : (ds : List Json) (d : Json) (read : Option (Items × List Token)) → parse_map (ahead ds) (parse_map (item (data_of d)) read) ≡ parse_map (ahead (ds ++ d ∷ [])) read
one_more_item ds d None = refl
one_more_item ds d (Some p) = ap (λ items. Some (items, p.1)) (ahead_more ds d p.0)

pub none_ahead : (read : Option (Items × List Token)) → read ≡ parse_map (ahead []) read
none_ahead None = refl
none_ahead (Some p) = refl
