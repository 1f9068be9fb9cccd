-- A sum over entries, one by one.
use Rattle.std.proofs.Common.{◌≡◌, ℕ, List, [], ◌∷◌, ◌++◌, ℤ, pos, ◌+ℤ◌, ap, sym, ◌∙◌, subst, FitsSigned}
use Rattle.std.specs.Prelude.{unwrap_or, Option, Some, None, IfNone}
use Rattle.std.proofs.Math.IntN.{+ℤ_assoc, +ℤ_idl, +ℤ_idr}
use Rattle.std.proofs.lemmas.List.{append_assoc}
use mir.Syntax.{w128}
use Rattle.flyweight_view.specs.TypedBlocks.{TypedBlock}
use Rattle.field_lookup.specs.Values.{number_at}
use Rattle.library_examples.specs.Sums.{sum_at, PassesRange}

-- the number of an entry, or 0
abbrev pub number_or_zero : ℕ → TypedBlock → ℤ
number_or_zero field e = unwrap_or (number_at field e) (pos 0)

-- The sum goes over all entries but those that are left.
pub record Added (field : ℕ) (sum : ℤ) (left all : List TypedBlock) : Type 0 where
  pub front : List TypedBlock
  pub whole : all ≡ front ++ left
  pub is : sum ≡ sum_at field front

-- the sum over one entry more
grown : (field : ℕ) (front : List TypedBlock) (e : TypedBlock) → sum_at field (front ++ e ∷ []) ≡ sum_at field front +ℤ number_or_zero field e
grown field [] e = +ℤ_idr (number_or_zero field e) ∙ sym (+ℤ_idl (number_or_zero field e))
grown field (x ∷ front) e = ap (λ s. number_or_zero field x +ℤ s) (grown field front e) ∙ sym (+ℤ_assoc (number_or_zero field x) (sum_at field front) (number_or_zero field e))

-- the entries so far and the next one are a front
next_whole : (front : List TypedBlock) (e : TypedBlock) (rest left all : List TypedBlock) → all ≡ front ++ left → left ≡ e ∷ rest → all ≡ (front ++ e ∷ []) ++ rest
next_whole front e rest left all whole next = whole ∙ ap (λ l. front ++ l) next ∙ sym (append_assoc front (e ∷ []) rest)

pub one_more : (field : ℕ) (e : TypedBlock) (rest left all : List TypedBlock) (before n after : ℤ) → Added field before left all → left ≡ e ∷ rest → n ≡ number_or_zero field e → after ≡ before +ℤ n → Added field after rest all
one_more field e rest left all before n after added next number sum = record {
  front = added.front ++ e ∷ [];
  whole = next_whole added.front e rest left all added.whole next;
  is = sum ∙ ap (λ k. before +ℤ k) number ∙ ap (λ k. k +ℤ number_or_zero field e) added.is ∙ sym (grown field added.front e);
}

pub passes : (field : ℕ) (e : TypedBlock) (rest left all : List TypedBlock) (before n : ℤ) → Added field before left all → left ≡ e ∷ rest → n ≡ number_or_zero field e → (FitsSigned w128 (before +ℤ n) → ⊥) → PassesRange field all
passes field e rest left all before n added next number over = record {
  front = added.front ++ e ∷ [];
  back = rest;
  first = next_whole added.front e rest left all added.whole next;
  over = λ fits. over (subst (FitsSigned w128)
      (grown field added.front e ∙ ap (λ k. k +ℤ number_or_zero field e) (sym added.is) ∙ ap (λ k. before +ℤ k) (sym number)) fits);
}

pub if_none : {A P : Type 0} (o : Option A) → P → IfNone o P
if_none None p = p
if_none (Some x) p = tt
