-- One word, or another number of them.
use Rattle.std.proofs.Common.{◌≡◌, ◌≢◌, List, [], ◌∷◌, length, get_or, map, None, refl, sym, ap, arith}
use Rattle.std.specs.Prelude.{String, string_bytes}
use Rattle.std.specs.declared.alloc.Global.{Global}
use Rattle.sbe.specs.Pages.{page_of, named_page}

pub one_word : (words : List (String Global)) (word : String Global) → length words ≡ 1 → word ≡ get_or words 0 word →
    page_of (map (λ word. string_bytes word) words) ≡ named_page (string_bytes word)
one_word [] word one first = absurd (omega arith)
one_word (a ∷ []) word one first = ap (λ w. named_page (string_bytes w)) (sym first)
one_word (a ∷ b ∷ more) word one first = absurd (omega arith)

pub no_one_word : (words : List (String Global)) → length words ≢ 1 → page_of (map (λ word. string_bytes word) words) ≡ None
no_one_word [] h = refl
no_one_word (a ∷ []) h = absurd (h refl)
no_one_word (a ∷ b ∷ more) h = refl
