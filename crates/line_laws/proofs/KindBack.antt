-- The value of each kind reads back; a composite by its members.
use Rattle.std.proofs.Common.{◌≡◌, ◌+◌, ◌-◌, ℕ, suc, Bool, true, false, cond, List, [], ◌∷◌, Option, Some, None, Ok, refl, sym, ap, ◌∙◌, subst, arith}
use Rattle.std.specs.Prelude.{replicate, codes}
use Rattle.std.specs.List.{AllByRecursion}
use Rattle.std.specs.Str.{bytes_eq}
use Rattle.std.proofs.lemmas.Slice.Eq.{bytes_eq-Decides}
use Rattle.serde_json.specs.Data.{object, Members, no_members}
use Rattle.sbe_types.specs.declared.kind.Order.{Order}
use Rattle.sbe_types.specs.declared.kind.Kind.{Kind, Leaf, Enum, Set, Const, Comp', Row_of-Member, end_of-Member, more_of-Member}
use Rattle.sbe_types.specs.declared.message.Value.{Value, items_hidden-the_row-Value-0}
use Rattle.sbe_types.specs.declared.message.Value.TheVariants as value
use Rattle.sbe_types.specs.InForm.{IsName}
use Rattle.sbe_types.specs.Numbers.{natural, number_of}
use Rattle.sbe_types.specs.Places.{width, is_const, begin_of}
use Rattle.sbe_types.specs.Shows.{Shows, MembersShow}
use Rattle.sbe_types.specs.Wire.{both, wire_bytes, row_bytes, member_values}
use Rattle.schema_facts.specs.InOrder.{IsKindFrom, AreKindsFrom, names_in, height, height_of}
use Rattle.json_values.specs.Values.{Entry, listed, value_data, row_entries}
use Rattle.line_values.specs.Refusals.{Reading, ◌>>=◌, inside}
use Rattle.line_values.specs.Objects.{is_named, known}
use Rattle.line_values.specs.Values.{kind_in, row_in, row_names}
use Rattle.line_laws.specs.AsRead.{put_all}
use Rattle.line_laws.specs.Listed.{IsNew, AreDistinct, Finds, AreKnown}
use Rattle.line_laws.specs.ValuesBack.{HasBytes, RowHasBytes, read_under}
use Rattle.line_laws.proofs.Finding.{listed_is_found, listed_is_known}
use Rattle.line_laws.proofs.Differ.{IsOther, DoDiffer, do_differ}
use Rattle.line_laws.proofs.NamedBack.{none_some}
use Rattle.line_laws.proofs.Shown.{IsGood, ArePrinted, listed_integers, listed_texts, listed_deep, deeper, all_deeper}
use Rattle.line_laws.proofs.TextBack.{name_text}
use Rattle.line_laws.proofs.LeafBack.{leaf_good, enum_good, set_good, constant_good}

-- ---- names

named_either : (b c : Bool) → c ≡ true → cond b true c ≡ true
named_either true c h = refl
named_either false c h = h

pub named_here : (k : List ℕ) (ns : List (List ℕ)) → is_named k (k ∷ ns) ≡ true
named_here k ns = ap (λ t. cond t true (is_named k ns)) ((bytes_eq-Decides k k).1 refl)

pub named_more : (n : List ℕ) (ns : List (List ℕ)) (es : List Entry) → AreKnown ns es → AreKnown (n ∷ ns) es
named_more n ns [] h = tt
named_more n ns (e ∷ es) h = (named_either (bytes_eq e.0 n) _ h.0, named_more n ns es h.1)

members_known : {n : _} (members : Row_of-Member n) (vs : List Value) → AreKnown (row_names members) (row_entries members vs)
unfolding value_data
members_known end_of-Member vs = tt
members_known (more_of-Member name offset kind rest) [] = tt
members_known (more_of-Member name offset kind rest) (v ∷ vs) = (named_here name (row_names rest), named_more name (row_names rest) (row_entries rest vs) (members_known rest vs))

new_member : (name : List ℕ) {n : _} (members : Row_of-Member n) (vs : List Value) → IsOther name (names_in members) → IsNew name (row_entries members vs)
unfolding value_data
new_member name end_of-Member vs h = tt
new_member name (more_of-Member other offset kind rest) [] h = tt
new_member name (more_of-Member other offset kind rest) (v ∷ vs) h = (h.0, new_member name rest vs h.1)

members_distinct : {n : _} (members : Row_of-Member n) (vs : List Value) → DoDiffer (names_in members) → AreDistinct (row_entries members vs)
unfolding value_data
members_distinct end_of-Member vs h = tt
members_distinct (more_of-Member name offset kind rest) [] h = tt
members_distinct (more_of-Member name offset kind rest) (v ∷ vs) h = (new_member name rest vs h.0, members_distinct rest vs h.1)

-- ---- a composite

-- the values of members are read from what they are found as, and are printed
pub record RowGood {n : _} (members : Row_of-Member n) (vs : List Value) : Type 0 where
  pub read : (ms : Members) → Finds (row_entries members vs) ms → row_in members ms ≡ Ok vs
  pub printed : ArePrinted (suc (height_of members)) (row_entries members vs)

abbrev GoodKind : Kind → Value → Type 0
GoodKind kind v = IsGood (read_under kind) (suc (height kind)) (value_data kind v) v

comp_good : (n : _) (members : Row_of-Member _) (vs : List Value) → DoDiffer (names_in members) → RowGood members vs
    → IsGood (read_under (Comp' n members)) (suc (height (Comp' n members))) (Some (object (listed (row_entries members vs)))) (value.Comp vs)
unfolding kind_in
comp_good n members vs differ row =
    let es = row_entries members vs in
    let found = put_all (listed es) no_members in
    record {
      read =
          ap (λ (r : Reading (List Value)). inside (codes ".") (known (row_names members) found >>= (λ _. r >>= (λ vs. Ok (value.Comp vs))))) (row.read found (listed_is_found es (members_distinct members vs differ)))
          ∙ rw (listed_is_known (row_names members) es (members_known members vs)) refl;
      printed = record {
        integers = listed_integers _ es row.printed;
        texts = listed_texts _ es row.printed;
        deep = omega (arith, listed_deep (suc (height_of members)) es row.printed);
      };
    }

-- two pieces of bytes that are there
both_some : (x y : Option (List ℕ)) (z : List ℕ) → both x y ≡ Some z → ((a : List ℕ) × (x ≡ Some a)) × ((b : List ℕ) × (y ≡ Some b))
both_some None y z h = absurd (none_some h)
both_some (Some a) None z h = absurd (none_some h)
both_some (Some a) (Some b) z h = ((a, refl), (b, refl))

row_done : RowGood end_of-Member []
unfolding value_data kind_in
row_done = record { read = λ ms found. refl; printed = tt }

row_more : (name : List ℕ) (offset : Option ℕ) (kind : Kind) {n : _} (rest : Row_of-Member n) (v : Value) (vs : List Value) → IsName name → GoodKind kind v → RowGood rest vs → RowGood (more_of-Member name offset kind rest) (v ∷ vs)
unfolding value_data kind_in
row_more name offset kind rest v vs named here there =
    record {
      read = λ ms found. (
          ap (λ o. inside name (read_under kind o) >>= (λ v. row_in rest ms >>= (λ vs. Ok (v ∷ vs)))) found.0
          ∙ ap (λ r. inside name r >>= (λ v. row_in rest ms >>= (λ vs. Ok (v ∷ vs)))) here.read
          ∙ ap (λ r. r >>= (λ vs. Ok (v ∷ vs))) (there.read ms found.1)
          );
      printed = (name_text name named, deeper _ _ (value_data kind v) (omega arith) here.printed, all_deeper _ _ (row_entries rest vs) (omega arith) there.printed);
    }

-- ---- a kind

mutual
  unfolding value_data kind_in

  pub kind_good : (order : Order) (least : ℕ) (kind : Kind) → IsKindFrom least kind → (v : Value) (wire b : List ℕ) → wire_bytes order kind v ≡ Some wire → HasBytes kind v → Shows order true kind v b → GoodKind kind v
  kind_good order least (Leaf l) h v wire b w bytes s = let good = leaf_good order least l l.shape refl h v b bytes s.1 in record { read = good.read; printed = good.printed }
  kind_good order least (Enum l names) h v wire b w bytes s = let good = enum_good l names (number_of order l.prim b) v h s.1 in record { read = good.read; printed = good.printed }
  kind_good order least (Set p names) h v wire b w bytes s = let good = set_good order p names (natural (number_of order p b)) v wire h w s.1 in record { read = good.read; printed = good.printed }
  kind_good order least (Const c) h v wire b w bytes s = let good = constant_good c h bytes in subst (GoodKind (Const c)) (sym s.1) (record { read = good.read; printed = good.printed })
  kind_good order least (Comp' n members) h v wire b w bytes s =
      let vs = s.1.0 in
      let is : v ≡ value.Comp vs = s.1.1 in
      let hidden = items_hidden-the_row-Value-0 vs in
      let values : member_values v ≡ Some vs = ap member_values is ∙ ap Some hidden in
      let row = row_good order least 0 members h.names h.kinds vs wire b (ap (row_bytes order 0 members) (sym values) ∙ w) (subst (RowHasBytes members) values bytes) s.1.2 in
      let good = comp_good n members vs (do_differ (names_in members) h.names_differ) row in
      subst (GoodKind (Comp' n members)) (sym is)
      (subst (λ l. IsGood (read_under (Comp' n members)) (suc (height (Comp' n members))) (Some (object (listed (row_entries members l)))) (value.Comp vs)) (sym hidden) good)

  row_good : (order : Order) (least e : ℕ) {n : _} (members : Row_of-Member n) → AllByRecursion IsName (names_in members) → AreKindsFrom least members → (vs : List Value) (wire b : List ℕ)
      → row_bytes order e members (Some vs) ≡ Some wire → RowHasBytes members (Some vs) → MembersShow order true e members vs b → RowGood members vs
  row_good order least e end_of-Member named h [] wire b w bytes s = row_done
  row_good order least e end_of-Member named h (v ∷ vs) wire b w bytes s = absurd s
  row_good order least e (more_of-Member name offset kind rest) named h [] wire b w bytes s = absurd s
  row_good order least e (more_of-Member name offset kind rest) named h (v ∷ vs) wire b w bytes s =
      let zeros : Option (List ℕ) = Some (replicate (cond (is_const kind) 0 (begin_of e offset - e)) 0) in
      let next = cond (is_const kind) e (begin_of e offset + width kind) in
      let two = both_some (both zeros (wire_bytes order kind v)) (row_bytes order next rest (Some vs)) wire w in
      let own = both_some zeros (wire_bytes order kind v) two.0.0 two.0.1 in
      row_more name offset kind rest v vs named.0
      (kind_good order least kind h.0 v own.1.0 _ own.1.1 bytes.0 s.0)
      (row_good order least next rest named.1 h.1 vs two.1.0 b two.1.1 bytes.1 s.1)
