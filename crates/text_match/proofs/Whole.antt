-- A text that was written whole.
use Rattle.std.proofs.Common.{◌≡◌, ℕ, Bool, true, false, List, Option, Some, None, refl, sym, ◌∙◌}
use Rattle.tagvalue_codec.specs.Drafts.{Draft, finished}
use Rattle.bridge_terms.specs.Parts.{TagLists}
use Rattle.bridge_terms.specs.Places.{Places, Unsent, place_fields}
use Rattle.message_walk.specs.declared.halt.Halt.{Halt}
use Rattle.fix_messages.specs.Heads.{Head}
use Rattle.fix_messages.specs.Texts.{IsTextBy, IsTextPut, message_text, text_refusal}
use Rattle.back_texts.specs.Backs.{IsTextOf}

false_true : ◌≡◌ {A = Bool} false true → ⊥
false_true h = cc

written_by : (o : Option Unsent) (text : List ℕ) (d : Draft) (h : Halt) → IsTextBy o text true d h → (o ≡ None) × (finished d ≡ text)
written_by None text d h is = (refl, is.1)
written_by (Some u) text d h is = absurd (false_true (sym is.0))

pub text_is : (lists : TagLists) (limit : ℕ) (kind : List ℕ) (head : Head) (all : Places) (d : Draft) (h : Halt) (bytes text : List ℕ) → IsTextPut lists limit kind head all true d h
    → bytes ≡ finished d → bytes ≡ text → IsTextOf lists limit kind head all text
text_is lists limit kind head all d h bytes text put is same =
    let own = written_by (text_refusal lists limit kind head all) (message_text lists kind head (place_fields all.places)) d h put in
    record { unrefused = own.0; is = sym same ∙ is ∙ own.1 }
