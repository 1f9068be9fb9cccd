-- Values that are found before SOH.
use Rattle.std.proofs.Common.{◌≡◌, ◌<◌, ◌≢◌, ℕ, suc, Bool, true, false, cond, List, [], ◌∷◌, length, take, refl, sym, ◌∙◌, subst, arith}
use Rattle.std.specs.Prelude.{◌==◌}
use Rattle.std.specs.List.{AllByRecursion}
use Rattle.std.proofs.lemmas.Bool.{eq-eqb, false≢true}
use Rattle.std.proofs.lemmas.List.{length-take-le}
use Rattle.tagvalue_codec.specs.Drafts.{IsValue}
use Rattle.tagvalue_codec.specs.Fields.{soh}
use Rattle.tagvalue_codec.specs.Reading.{plain_len}

abbrev pub IsPlainRow : List ℕ → Type 0
IsPlainRow bs = AllByRecursion (λ b. b ≢ soh) bs

plain_by : (b : ℕ) (bs : List ℕ) (is : Bool) → (b == soh) ≡ is → IsPlainRow (take (plain_len bs) bs) → IsPlainRow (take (cond is 0 (suc (plain_len bs))) (b ∷ bs))
plain_by b bs true is later = tt
plain_by b bs false is later = ((λ same. false≢true (sym is ∙ eq-eqb b soh same)), later)

-- before the first SOH is none
plain_front : (bs : List ℕ) → IsPlainRow (take (plain_len bs) bs)
plain_front [] = tt
plain_front (b ∷ bs) = plain_by b bs (b == soh) refl (plain_front bs)

-- some bytes before the first SOH are a value
pub value_before : (bs : List ℕ) (many : ℕ) → many ≡ plain_len bs → 0 < many → many < length bs → IsValue (take many bs)
value_before bs many is some within = record {
  some = omega (arith, length-take-le many bs (omega arith), some);
  plain = subst (λ (n : ℕ). IsPlainRow (take n bs)) (sym is) (plain_front bs);
}
