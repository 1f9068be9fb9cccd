-- One word, and what is made of it.
use Rattle.std.proofs.Common.{◌≡◌, ℕ, ◌==◌, Bool, true, false, cond, Result, Ok, Err, sym, ap, ◌∙◌}
use Rattle.std.specs.Prelude.{IfOk}
use Rattle.rand_pcg.specs.Lcg.{Lcg}
use Rattle.rand_pcg.specs.Pcg.{pcg32}
use Rattle.vectors.specs.declared.numbers.TheConstants.{NULLS}
use Rattle.vectors.specs.Drawing.{Drawing, always, remainder, below, null_drawn, or_null}

pub drawn : (words next : Lcg) (word n : ℕ) → (word, next) ≡ pcg32 words → below n words ≡ (remainder word n, next)
unfolding below
drawn words next word n h = ap (λ (z : ℕ × Lcg). (remainder z.0 n, z.1)) (sym h)

pub null_word : (optional : Bool) (n : ℕ) (words next : Lcg) → optional ≡ true → below NULLS words ≡ (n, next) → null_drawn optional words ≡ ((n == 0), next)
null_word optional n words next is h = ap (λ o. null_drawn o words) is ∙ ap (λ (z : ℕ × Lcg). ((z.0 == 0), z.1)) h

pub null_none : (optional : Bool) (words : Lcg) → optional ≡ false → null_drawn optional words ≡ (false, words)
null_none optional words is = ap (λ o. null_drawn o words) is

module _ {A : Type 0} (optional flag is : Bool) (null : A) (draw : Drawing A) (words middle : Lcg) (same : flag ≡ optional) (h : null_drawn flag words ≡ (is, middle)) where
  told : or_null optional null draw words ≡ (cond is (always null) draw) middle
  told = ap (λ o. or_null o null draw words) (sym same) ∙ ap (λ (z : Bool × Lcg). (cond z.0 (always null) draw) z.1) h

  -- a value that was drawn null
  pub null_there : (x : A) → is ≡ true → x ≡ null → or_null optional null draw words ≡ (x, middle)
  null_there x on value = told ∙ ap (λ b. (cond b (always null) draw) middle) on ∙ ap (λ (y : A). (y, middle)) (sym value)

  -- a value that wasn't
  pub some_there : (x : A) (next : Lcg) → is ≡ false → draw middle ≡ (x, next) → or_null optional null draw words ≡ (x, next)
  some_there x next off there = told ∙ ap (λ b. (cond b (always null) draw) middle) off ∙ there

-- what follows of an answer
pub if_ok : {A E : Type 0} (P Q : A → Type 0) (r : Result A E) → ((x : A) → P x → Q x) → IfOk r P → IfOk r Q
if_ok P Q (Ok x) f h = f x h
if_ok P Q (Err e) f h = tt
