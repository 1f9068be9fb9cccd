-- The members of a composite, written one after another.
use Rattle.std.proofs.Common.{◌≡◌, ℕ, Bool, true, false, List, [], ◌∷◌, ◌++◌, take, drop, Option, Some, refl, sym, ap, ap₂, ◌∙◌, subst, append_assoc}
use Rattle.std.specs.Prelude.{codes}
use Rattle.serde_json.specs.Data.{Data}
use Rattle.serde_json.specs.Written.{comma_if}
use Rattle.sbe_types.specs.declared.kind.Kind.{Comp}
use Rattle.sbe_types.specs.declared.kind.Member.{Member}
use Rattle.sbe_types.specs.declared.kind.Order.{Order}
use Rattle.sbe_types.specs.declared.message.Value.{Value}
use Rattle.sbe_types.specs.Places.{width, begin_of, end_past}
use Rattle.json_values.specs.Values.{Entry, zipped, value_data, member_entry}
use Rattle.json_values.specs.Plain.{key_text, plain_text, shown_text, entry_text, entries_text, later_behind}
use Rattle.sbe_types.proofs.ShownMembers.{ListShows, members_in}
use Rattle.json_fields.specs.Shown.{PrintsShown}
use Rattle.sbe_base.specs.Objects.{Object}
use Rattle.printers.specs.Prints.{Prints}
use Rattle.printers.specs.declared.printer.Printer.{Printer}
use Rattle.json_fields.proofs.Shown.{shows_members}
use Rattle.printers.proofs.Printing.{then_prints, reprinted, prints_nothing}
use Rattle.json_values.proofs.Entries.{entry_next, goes_on}
use Rattle.json_fields.proofs.FromBytes.{is_shown}

-- ---- the loop

-- Of all members those before the rest were written, whichever values their bytes show.
pub record Goes (order : Order) (all : List Member) (b : List ℕ) (prints : List ℕ → Type 0) (later : Bool) (e : ℕ) (rest : List Member) : Type 0 where
  pub goes : (known : Bool) (vs : List Value) → ListShows order known 0 all vs b →
      (ws : List Value) × (done : List ℕ) × ListShows order known e rest ws b × prints done
      × (done ++ entries_text later (zipped member_entry rest ws) ≡ entries_text false (zipped member_entry all vs))

pub goes_first : {order : Order} {all : List Member} {b : List ℕ} {O : Type 0} {state : O → Object (List ℕ)} {a : Printer O} → Goes order all b (Prints state a a) false 0 all
goes_first = record { goes = λ known vs h. (vs, [], h, prints_nothing, refl) }

-- the text of a member that is there: a comma, its key, and the text of its value
pub entry_is : (later : Bool) (name : List ℕ) (o : Option Data) (d : Data) → o ≡ Some d → (comma_if later ++ key_text name) ++ shown_text o ≡ entry_text later (name, o)
entry_is later name o d is = rw is (append_assoc (comma_if later) (key_text name) (plain_text d))

pub later_is : (later : Bool) (o : Option Data) (d : Data) → o ≡ Some d → later_behind later o ≡ true
later_is later o d is = rw is refl

-- a member that is there, and those after it
pub entry_goes : (later : Bool) (name : List ℕ) (o : Option Data) (d : Data) (es : List Entry) → o ≡ Some d
    → ((comma_if later ++ key_text name) ++ shown_text o) ++ entries_text true es ≡ entries_text later ((name, o) ∷ es)
entry_goes later name o d es is =
    ap₂ (λ x l. x ++ entries_text l es) (entry_is later name o d is) (sym (later_is later o d is)) ∙ sym (entry_next later name o es)

module _ (order : Order) (all : List Member) (b : List ℕ) where
  step : (known : Bool) (vs : List Value) (later : Bool) (e : ℕ) (m : Member) (rest : List Member) (ws : List Value) (done : List ℕ) {O : Type 0} {state : O → Object (List ℕ)} {start now key next : Printer O} →
      ListShows order known e (m ∷ rest) ws b → Prints state start now done → done ++ entries_text later (zipped member_entry (m ∷ rest) ws) ≡ entries_text false (zipped member_entry all vs) →
      Prints state now key (comma_if later ++ key_text m.name) → PrintsShown order m.kind (take (width m.kind) (drop (begin_of e m.offset) b)) (Prints state key next) →
      (us : List Value) × (more : List ℕ) × ListShows order known (end_past e m.offset m.kind) rest us b × Prints state start next more
      × (more ++ entries_text true (zipped member_entry rest us) ≡ entries_text false (zipped member_entry all vs))
  step known vs later e m rest [] done shows written text k w = absurd shows
  step known vs later e m rest (v ∷ ws) done shows written text k w =
      let there = is_shown order known m.kind v _ shows.0 in
      let on = entry_goes later m.name (value_data m.kind v) there.0 (zipped member_entry rest ws) there.1 in
      (ws, _, shows.1, then_prints written (then_prints k (w.text known v shows.0)), goes_on done _ _ _ _ on text)

  over : (known : Bool) (vs : List Value) (later : Bool) (e : ℕ) (ws : List Value) (done : List ℕ) →
      ListShows order known e [] ws b → done ++ entries_text later (zipped member_entry [] ws) ≡ entries_text false (zipped member_entry all vs) →
      done ++ codes "}" ≡ entries_text false (zipped member_entry all vs)
  over known vs later e [] done shows text = text
  over known vs later e (v ∷ ws) done shows text = absurd shows

  pub goes_next : {O : Type 0} {state : O → Object (List ℕ)} {start now key next : Printer O} (later : Bool) (e : ℕ) (m : Member) (rest : List Member) (p : List ℕ) → Goes order all b (Prints state start now) later e (m ∷ rest) →
      Prints state now key (comma_if later ++ key_text m.name) → p ≡ take (width m.kind) (drop (begin_of e m.offset) b) → PrintsShown order m.kind p (Prints state key next) →
      Goes order all b (Prints state start next) true (end_past e m.offset m.kind) rest
  goes_next {O} {state} {start} {now} {key} {next} later e m rest p g k is w =
      record {
        goes = λ known vs h. let so_far = g.goes known vs h in
            step known vs later e m rest so_far.0 so_far.1 so_far.2 so_far.3 so_far.4 k (subst (λ q. PrintsShown order m.kind q (Prints state key next)) is w);
      }

  -- the whole composite, with the bracket before its members and the one after them
  pub goes_over : {O : Type 0} {state : O → Object (List ℕ)} {before start now next : Printer O} (later : Bool) (e : ℕ) → Prints state before start (codes "{") → Goes order all b (Prints state start now) later e [] → Prints state now next (codes "}") →
      PrintsShown order (Comp all) b (Prints state before next)
  goes_over later e first g last =
      record {
        text = λ known v h. let members = members_in order known all v b h in
            let so_far = g.goes known members.0 members.2 in
            let text = over known members.0 later e so_far.0 so_far.1 so_far.2 so_far.4 in
            reprinted (ap (λ w. shown_text (value_data (Comp all) w)) (sym members.1))
            (shows_members all members.0 (reprinted (ap (λ t. codes "{" ++ t) text) (then_prints first (then_prints so_far.3 last))));
      }
