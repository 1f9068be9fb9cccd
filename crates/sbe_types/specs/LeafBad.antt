-- The first part of a leaf's bytes that shows no value. From SBE 1.0, Field encoding.
use Rattle.std.specs.Prelude.{ℕ, zero, suc, ◌==◌, Bool, true, false, if◌then◌else◌, Option, Some, None, List, [], ◌∷◌, length, take, drop, take_while, ℤ, pos}
use Rattle.std.specs.Option.{option_or}
use Rattle.sbe_types.specs.declared.kind.Order.{Order}
use Rattle.sbe_types.specs.declared.kind.LeafShape.{LeafShape}
use Rattle.sbe_types.specs.declared.kind.LeafShape.TheVariants.{Number, RangedText, EncodedText, Octets, Numbers}
use Rattle.sbe_types.specs.declared.kind.Leaf.{Leaf as LeafOf}
use Rattle.sbe_types.specs.declared.kind.Kind.{Leaf}
use Rattle.sbe_types.specs.declared.leaf.LeafCause.TheVariants.{Range, TextByte}
use Rattle.sbe_types.specs.declared.leaf.LeafFault.{LeafFault}
use Rattle.sbe_types.specs.Numbers.{number_of, prim_width}
use Rattle.sbe_types.specs.Shown.{shown, shown_element}
use Rattle.sbe_types.specs.Shows.{is_text_byte}

-- the fault of the number at index `at`, if it shows no value
abbrev pub unshown : {X : Type 0} → ℕ → ℤ → Option X → Option LeafFault
unshown at n (Some x) = None
unshown at n None = Some (record { cause = Range; at = at; number = n })

-- the fault of the first of n elements, counted from i, that shows no value
abbrev pub elements_bad : Order → LeafOf → ℕ → ℕ → List ℕ → Option LeafFault
elements_bad order leaf i zero b = None
elements_bad order leaf i (suc n) b =
    let number = number_of order leaf.prim (take (prim_width leaf.prim) b) in
    option_or (unshown i number (shown_element leaf number)) (elements_bad order leaf (suc i) n (drop (prim_width leaf.prim) b))

-- the byte after n good bytes of a text, if there is one and it isn't a 00
abbrev pub stopped_at : ℕ → List ℕ → Option LeafFault
stopped_at n [] = None
stopped_at n (b ∷ after) = if b == 0 then None else Some (record { cause = TextByte; at = n; number = pos b })

-- the first byte before the first 00 that the text may not contain
abbrev pub text_bad : LeafOf → List ℕ → Option LeafFault
text_bad leaf b = let text = take_while (is_text_byte leaf) b in stopped_at (length text) (drop (length text) b)

-- the first fault of a single number, a text or an array
abbrev pub shape_bad : Order → LeafShape → LeafOf → List ℕ → Option LeafFault
shape_bad order Number leaf b = let number = number_of order leaf.prim b in unshown 0 number (shown (Leaf leaf) true number)
shape_bad order RangedText leaf b = text_bad leaf b
shape_bad order EncodedText leaf b = text_bad leaf b
shape_bad order Octets leaf b = elements_bad order leaf 0 leaf.length b
shape_bad order Numbers leaf b = elements_bad order leaf 0 leaf.length b

-- the first element or byte of a leaf's bytes that shows no value; none if they show a value
abbrev pub leaf_bad : Order → LeafOf → List ℕ → Option LeafFault
leaf_bad order leaf b = shape_bad order leaf.shape leaf b

-- the result that `true` or `false` and the fault slot encode
abbrev pub fault_unless : Bool → LeafFault → Option LeafFault
fault_unless true fault = None
fault_unless false fault = Some fault
