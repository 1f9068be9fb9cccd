-- The names of valid values, which stand for themselves.
use Rattle.std.proofs.Common.{◌≡◌, ℕ, ℤ, Bool, true, false, cond, List, [], ◌∷◌, ◌++◌, Option, Some, None, sym, ap, subst, ◌∙◌}
use Rattle.std.specs.Prelude.{codes}
use Rattle.std.specs.Option.{option_map_or}
use Rattle.serde_json.specs.Data.{string}
use Rattle.std.specs.Ordering.{int_eq}
use Rattle.sbe_types.specs.declared.kind.Named.{Named}
use Rattle.sbe_types.specs.InForm.{IsName}
use Rattle.json_values.specs.Names.{AreNamed}
use Rattle.json_values.specs.Plain.{plain_text}
use Rattle.json_values.specs.Values.{enum_data, name_of, number_data}
use Rattle.sbe_base.specs.Objects.{Object}
use Rattle.printers.specs.Prints.{Prints}
use Rattle.printers.specs.declared.printer.Printer.{Printer}
use Rattle.json_values.proofs.Plainly.{names_stand}
use Rattle.printers.proofs.Printing.{reprinted}

first_or : (s : Bool) (v : Named) (rest : Option (List ℕ)) (name : List ℕ) → IsName v.name → (rest ≡ Some name → IsName name) → cond s (Some v.name) rest ≡ Some name → IsName name
first_or true v rest name own others h = subst IsName (some_is h) own
  where
    some_is : {x y : List ℕ} → ◌≡◌ {A = Option (List ℕ)} (Some x) (Some y) → x ≡ y
    some_is h = cc
first_or false v rest name own others h = others h

-- the name that a number has is one of them
in_form : (names : List Named) (n : ℤ) (name : List ℕ) → AreNamed names → name_of names n ≡ Some name → IsName name
in_form [] n name named h = cc
in_form (v ∷ vs) n name named h = first_or (int_eq v.number n) v (name_of vs n) name named.0 (in_form vs n name named.1) h

-- a name between quotes
pub name_written : {O : Type 0} {state : O → Object (List ℕ)} {a b : Printer O} (names : List Named) (n : ℤ) (name : List ℕ) → AreNamed names → Some name ≡ name_of names n
    → Prints state a b (codes "\"" ++ (name ++ codes "\"")) → Prints state a b (plain_text (enum_data names n))
name_written names n name named is h =
    let stands = names_stand name (in_form names n name named (sym is)) in
    reprinted (ap (λ s. codes "\"" ++ (s ++ codes "\"")) (sym stands) ∙ ap (λ (o : Option (List ℕ)). plain_text (option_map_or string o (number_data n))) is) h

-- a number that no name has
pub number_written : {O : Type 0} {state : O → Object (List ℕ)} {a b : Printer O} (names : List Named) (n : ℤ) → None ≡ name_of names n → Prints state a b (plain_text (number_data n)) → Prints state a b (plain_text (enum_data names n))
number_written names n is h = reprinted (ap (λ (o : Option (List ℕ)). plain_text (option_map_or string o (number_data n))) is) h
