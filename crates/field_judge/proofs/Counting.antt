-- The number that a count field says.
use Rattle.std.proofs.Common.{◌≡◌, ℕ, Bool, true, false, cond, Option, Some, None, Result, Ok, Err, ℤ, pos, negsuc, sym, ap}
use Rattle.sbe_types.specs.declared.kind.Leaf.{Leaf as LeafOf}
use Rattle.sbe_types.specs.declared.kind.Presence.TheVariants.{Required}
use Rattle.sbe_types.specs.Shown.{admits}
use Rattle.fix_values.specs.declared.rule.V.{V}
use Rattle.fix_values.specs.declared.rule.V.TheVariants.{Range}
use Rattle.fix_values.specs.Decimals.{leaf_number}
use Rattle.fix_values.specs.Values.{spelled_number}
use Rattle.bridge_terms.specs.WayBack.{count_read}
use Rattle.field_judge.specs.Refusals.{size_of}

ok_is : {m n : ℤ} → ◌≡◌ {A = Result ℤ V} (Ok m) (Ok n) → m ≡ n
ok_is h = cc

err_is : {v w : V} → ◌≡◌ {A = Result ℤ V} (Err v) (Err w) → v ≡ w
err_is h = cc

ok_err : {n : ℤ} {v : V} {Z : Type 0} → ◌≡◌ {A = Result ℤ V} (Ok n) (Err v) → Z
ok_err h = absurd (never h)
  where
    never : {n : ℤ} {v : V} → ◌≡◌ {A = Result ℤ V} (Ok n) (Err v) → ⊥
    never k = cc

-- a type that can't be null
abbrev pub required : LeafOf → LeafOf
required leaf = record leaf { presence = Required }

pub count_ok : (leaf : LeafOf) (o : Option ℤ) (n : ℤ) → leaf_number (required leaf) (spelled_number o) ≡ Ok n → size_of n ≡ count_read leaf o
count_ok leaf None n h = ok_err (sym h)
count_ok leaf (Some (pos k)) n h = by_test (admits leaf (pos k)) h
  where
    by_test : (b : Bool) → ◌≡◌ {A = Result ℤ V} (cond b (Ok (pos k)) (Err Range)) (Ok n) → size_of n ≡ cond b (Ok k) (Err Range)
    by_test true e = ap size_of (sym (ok_is e))
    by_test false e = ok_err (sym e)
count_ok leaf (Some (negsuc k)) n h = by_test (admits leaf (negsuc k)) h
  where
    by_test : (b : Bool) → ◌≡◌ {A = Result ℤ V} (cond b (Ok (negsuc k)) (Err Range)) (Ok n) → size_of n ≡ Err Range
    by_test true e = ap size_of (sym (ok_is e))
    by_test false e = ok_err (sym e)

pub count_err : (leaf : LeafOf) (o : Option ℤ) (v : V) → leaf_number (required leaf) (spelled_number o) ≡ Err v → ◌≡◌ {A = Result ℕ V} (Err v) (count_read leaf o)
count_err leaf None v h = ap Err (sym (err_is h))
count_err leaf (Some (pos k)) v h = by_test (admits leaf (pos k)) h
  where
    by_test : (b : Bool) → ◌≡◌ {A = Result ℤ V} (cond b (Ok (pos k)) (Err Range)) (Err v) → ◌≡◌ {A = Result ℕ V} (Err v) (cond b (Ok k) (Err Range))
    by_test true e = ok_err e
    by_test false e = ap Err (sym (err_is e))
count_err leaf (Some (negsuc k)) v h = by_test (admits leaf (negsuc k)) h
  where
    by_test : (b : Bool) → ◌≡◌ {A = Result ℤ V} (cond b (Ok (negsuc k)) (Err Range)) (Err v) → ◌≡◌ {A = Result ℕ V} (Err v) (Err Range)
    by_test true e = ok_err e
    by_test false e = ap Err (sym (err_is e))
