-- What is drawn from a generator's words, part by part. Own profile.
use Rattle.std.specs.Prelude.{ℕ, zero, suc, ◌+◌, ◌%◌, ◌^◌, ◌==◌, Bool, false, if◌then◌else◌, List, [], ◌∷◌}
use Rattle.rand_core.specs.Pcg32Seed.{pcg32_seed}
use Rattle.rand_pcg.specs.Lcg.{Lcg}
use Rattle.rand_pcg.specs.Pcg.{pcg32, pcg32_of_seed}
use Rattle.vectors.specs.declared.numbers.TheConstants.{NULLS}

-- A value that is drawn, and the generator after it.
abbrev pub Drawing : Type 0 → Type 0
Drawing A = Lcg → A × Lcg

-- one drawing, and then another that may depend on what was drawn
infixl 10 ◌>>=◌
abbrev pub ◌>>=◌ : {A B : Type 0} → Drawing A → (A → Drawing B) → Drawing B
(draw >>= next) words = next (draw words).0 (draw words).1

-- a value for which no word is drawn
abbrev pub always : {A : Type 0} → A → Drawing A
always x words = (x, words)

-- the number modulo n, or 0 if n is 0
abbrev pub remainder : ℕ → ℕ → ℕ
remainder word n = if n == 0 then 0 else word % n

-- the next word modulo n
unfoldable pub below : ℕ → Drawing ℕ
below n words = (remainder (pcg32 words).0 n, (pcg32 words).1)

-- what is drawn for each item, in order
unfoldable pub each : {A B : Type 0} → (A → Drawing B) → List A → Drawing (List B)
each draw [] = always []
each draw (x ∷ xs) = do
  y ← draw x
  ys ← each draw xs
  always (y ∷ ys)

-- n drawings of the same kind
unfoldable pub times : {A : Type 0} → ℕ → Drawing A → Drawing (List A)
times zero draw = always []
times (suc n) draw = do
  x ← draw
  xs ← times n draw
  always (x ∷ xs)

-- whether an optional value is null, which is drawn once in four times
abbrev pub null_drawn : Bool → Drawing Bool
null_drawn optional = if optional then (below NULLS >>= (λ n. always (n == 0))) else always false

-- null, if the value is optional and null was drawn; else what is drawn
abbrev pub or_null : {A : Type 0} → Bool → A → Drawing A → Drawing A
or_null optional null draw = null_drawn optional >>= (λ is. if is then always null else draw)

-- the generator from which message `index` of a seed is drawn
unfoldable pub words_of : ℕ → ℕ → Lcg
words_of seed index = pcg32_of_seed (pcg32_seed 16 ((seed + index) % 2 ^ 64))
