-- A type is read as its name and what comes after it.
use Rattle.std.proofs.Common.{◌≡◌, ℕ, List, ap, sym, subst, ◌∙◌}
use Rattle.std.specs.Prelude.{codes, Ok, Err}
use Rattle.serde_json.specs.Data.{Data, Items}
use Rattle.json_elements.specs.declared.refusal.ElementErr.{ElementErr}
use Rattle.json_elements.specs.declared.refusal.ElementErr.TheVariants.{Refused, Memory}
use Rattle.json_elements.specs.Reading.{Reading, ◌>>=◌, Gives, GivesAs}
use Rattle.json_elements.specs.Attributes.{needed}
use Rattle.json_elements.specs.Elements.{content}
use Rattle.sbe_types.specs.declared.tree.TypeEl.{TypeEl}
use Rattle.sbe_schema.specs.declared.types.Standing.{Standing}
use Rattle.sbe_schema.specs.declared.types.NumberedType.{NumberedType}
use Rattle.sbe_schema.specs.Forms.{a_name}
use Rattle.sbe_schema.specs.Types.{type_from}
use Rattle.sbe_schema.specs.TypeParts.{type_named, numbered_from}

module _ (standing : Standing) (d : Data) (children : Items) (name : List ℕ) (there : content d ≡ Ok children)
    (named : needed a_name (codes "name") d ≡ Ok name) where
  type_is : type_from standing d ≡ numbered_from (type_named name) standing children d
  type_is =
      ap (λ r. r >>= (λ (cs : Items). needed a_name (codes "name") d >>= (λ (n : List ℕ). numbered_from (type_named n) standing cs d))) there
      ∙ ap (λ r. r >>= (λ (n : List ℕ). numbered_from (type_named n) standing children d)) named

  pub type_read : (t : NumberedType) (x : TypeEl) → x ≡ type_named name t → numbered_from (type_named name) standing children d ≡ Ok (type_named name t)
      → type_from standing d ≡ Ok x
  type_read t x is h = type_is ∙ h ∙ ap Ok (sym is)

  refused : (e : ElementErr) (read : Reading TypeEl) → GivesAs (type_named name) (Err e) read → Gives (Err e) read
  refused Memory read h = h
  refused (Refused cause steps) read h = h

  pub type_refused : (e : ElementErr) → GivesAs (type_named name) (Err e) (numbered_from (type_named name) standing children d)
      → Gives (Err e) (type_from standing d)
  type_refused e h = subst (Gives (Err e)) (sym type_is) (refused e (numbered_from (type_named name) standing children d) h)
