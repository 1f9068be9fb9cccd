-- The text of a path, step by step.
use Rattle.std.proofs.Common.{◌≡◌, ◌≤◌, ◌<◌, ◌+◌, ℕ, zero, suc, Bool, true, false, List, [], ◌∷◌, ◌++◌, length, drop, Option, Some, None, refl, sym, ap, ◌∙◌, subst, arith, append_assoc, rules}
use Rattle.std.specs.Prelude.{slice_get, unwrap_or}
use Rattle.std.specs.Option.{option_map, option_and_then, IsSome}
use Rattle.std.proofs.lemmas.List.{append-nil}
use Rattle.sbe_types.specs.declared.path.Step.{Step}
use Rattle.sbe_types.specs.declared.path.Step.TheVariants.{Part, Entry, Elem}
use Rattle.sbe_types.specs.declared.schema.Level.{Level}
use Rattle.sbe_types.specs.declared.schema.WireSchema.{WireSchema}
use Rattle.layout_tables.specs.Paths.{Inside, in_level, parts_inside, Stepped, to_part, stepped, path_from, path_found}
use Rattle.path_text.specs.Walks.{step_text}
use Rattle.sbe_base.specs.Objects.{Object}
use Rattle.printers.specs.Prints.{Prints}
use Rattle.printers.specs.declared.printer.Printer.{Printer}
use Rattle.printers.proofs.Printing.{then_prints, reprinted, prints_nothing}
use Rattle.layout_tables.proofs.Items.{drop_at, all_dropped}

-- how far the text of a path is printed: what is left of it is the text of the steps after those
pub record PathSo (found left : Option (List ℕ)) (prints : List ℕ → Type 0) : Type 0 where
  pub so : List ℕ
  pub is : option_map (λ rest. so ++ rest) left ≡ found
  pub printed : prints so

none_some : (X : Type 0) → IsSome {T = X} None → ⊥
none_some X h = cc

begin : {O : Type 0} {state : O → Object (List ℕ)} {a : Printer O} (found : Option (List ℕ)) → PathSo found found (Prints state a a)
begin found = record { so = []; is = same found; printed = prints_nothing }
  where
    same : (o : Option (List ℕ)) → option_map (λ rest. [] ++ rest) o ≡ o
    same None = refl
    same (Some x) = refl

pub path_begins : {O : Type 0} {state : O → Object (List ℕ)} {a : Printer O} (schema : WireSchema) (template : ℕ) (steps : List Step) (root : Level) → slice_get schema.messages template ≡ Some root →
    PathSo (path_found schema template steps) (path_from true (in_level root) steps) (Prints state a a)
path_begins {state = state} {a} schema template steps root at =
    subst (λ o. PathSo o (path_from true (in_level root) steps) (Prints state a a)) (sym (ap (option_and_then (λ level. path_from true (in_level level) steps)) at))
    (begin (path_from true (in_level root) steps))

pub path_within : (schema : WireSchema) (template : ℕ) (steps : List Step) → IsSome (path_found schema template steps) → template < length schema.messages
path_within schema template steps some = within schema.messages template some
  where
    within : (ls : List Level) (t : ℕ) → IsSome (option_and_then (λ level. path_from true (in_level level) steps) (slice_get ls t)) → t < length ls
    within [] t h = absurd (none_some (List ℕ) h)
    within (l ∷ ls) zero h = omega arith
    within (l ∷ ls) (suc t) h = let rest = within ls t h in omega (arith, rest)

-- the text of one step, and then that of the steps after it
abbrev after : List Step → Option Stepped → Option (List ℕ)
after steps o = option_and_then (λ (s : Stepped). option_map (λ rest. s.text ++ rest) (path_from false s.inside steps)) o

left_is : (first : Bool) (inside : Inside) (steps : List Step) (i : ℕ) (step : Step) → slice_get steps i ≡ Some step → path_from first inside (drop i steps) ≡ after (drop (i + 1) steps) (stepped first inside step)
left_is first inside steps i step at = ap (path_from first inside) (drop_at steps i step at)

-- a path leads somewhere at each step
leads_on : (found : Option (List ℕ)) (so : List ℕ) (steps : List Step) (o : Option Stepped) → option_map (λ rest. so ++ rest) (after steps o) ≡ found → IsSome found → IsSome o
leads_on found so steps None is some = absurd (none_some (List ℕ) (subst (λ (p : Option (List ℕ)). IsSome p) (sym is) some))
leads_on found so steps (Some s) is some = search rules

pub path_leads : (found : Option (List ℕ)) (first : Bool) (inside : Inside) (steps : List Step) (i : ℕ) (step : Step) {prints : List ℕ → Type 0} → PathSo found (path_from first inside (drop i steps)) prints →
    slice_get steps i ≡ Some step → IsSome found → IsSome (stepped first inside step)
path_leads found first inside steps i step h at some =
    leads_on found h.so (drop (i + 1) steps) (stepped first inside step) (ap (option_map (λ rest. h.so ++ rest)) (sym (left_is first inside steps i step at)) ∙ h.is) some

some_map : {X Y : Type 0} (f g : X → Y) (o : Option X) → IsSome (option_map f o) → IsSome (option_map g o)
some_map {X} {Y} f g None h = absurd (none_some Y h)
some_map f g (Some x) h = search rules

pub any_first : (first : Bool) (inside : Inside) (step : Step) → IsSome (stepped first inside step) → IsSome (stepped true inside step)
any_first first inside (Part i) h = some_map (to_part first) (to_part true) (slice_get (parts_inside inside) i) h
any_first first inside (Entry i) h = h
any_first first inside (Elem i) h = h

-- one more step
two_texts : (so text : List ℕ) (o : Option (List ℕ)) → option_map (λ rest. (so ++ text) ++ rest) o ≡ option_map (λ rest. so ++ rest) (option_map (λ rest. text ++ rest) o)
two_texts so text None = refl
two_texts so text (Some x) = ap Some (append_assoc so text x)

module _ {O : Type 0} {state : O → Object (List ℕ)} {a b c : Printer O} where
  goes_on : (found : Option (List ℕ)) (steps : List Step) (o : Option Stepped) (next : Inside) → PathSo found (after steps o) (Prints state a b) → option_map (λ (s : Stepped). s.inside) o ≡ Some next →
      Prints state b c (step_text o) → PathSo found (path_from false next steps) (Prints state a c)
  goes_on found steps None next h to w = cc
  goes_on found steps (Some s) next h to w =
      let same : s.inside ≡ next = cc in
      record {
        so = h.so ++ s.text;
        is = ap (λ n. option_map (λ rest. (h.so ++ s.text) ++ rest) (path_from false n steps)) (sym same) ∙ two_texts h.so s.text (path_from false s.inside steps) ∙ h.is;
        printed = then_prints h.printed w;
      }

  pub path_more : (found : Option (List ℕ)) (first : Bool) (inside next : Inside) (steps : List Step) (i : ℕ) (step : Step) → PathSo found (path_from first inside (drop i steps)) (Prints state a b) →
      slice_get steps i ≡ Some step → option_map (λ (s : Stepped). s.inside) (stepped first inside step) ≡ Some next → Prints state b c (step_text (stepped first inside step)) →
      PathSo found (path_from false next (drop (i + 1) steps)) (Prints state a c)
  path_more found first inside next steps i step h at to w =
      goes_on found (drop (i + 1) steps) (stepped first inside step) next (subst (λ o. PathSo found o (Prints state a b)) (left_is first inside steps i step at) h) to w

-- after the last step all of the text is printed
pub path_ends : {O : Type 0} {state : O → Object (List ℕ)} {a b : Printer O} (found : Option (List ℕ)) (first : Bool) (inside : Inside) (steps : List Step) (i : ℕ) → PathSo found (path_from first inside (drop i steps)) (Prints state a b) →
    length steps ≤ i → Prints state a b (unwrap_or found [])
path_ends {state = state} {a} {b} found first inside steps i h past =
    let none : path_from first inside (drop i steps) ≡ Some [] = ap (path_from first inside) (all_dropped steps i past) in
    let is : Some (h.so ++ []) ≡ found = ap (option_map (λ rest. h.so ++ rest)) (sym none) ∙ h.is in
    reprinted (sym (append-nil h.so) ∙ ap (λ o. unwrap_or o []) is) h.printed
