-- The walk that copies the parts of a later version.
use Rattle.std.proofs.Common.{◌≡◌, ◌≤◌, ◌+◌, ℕ, Bool, true, false, cond, List, [], ◌∷◌, ◌++◌, length, drop, Option, Some, None, inl, inr, refl, sym, ap, ap₂, ◌∙◌, subst, append_assoc}
use Rattle.std.specs.Prelude.{slice_get}
use Rattle.std.specs.Option.{option_map}
use Rattle.regrade.specs.Each.{lifted_each, some_or, TakesNext}
use Rattle.sbe_types.specs.declared.message.GroupVal.{GroupVal}
use Rattle.sbe_types.specs.declared.message.GroupVal.TheVariants as groupval
use Rattle.sbe_types.specs.declared.schema.Group.{Group, out-Group}
use Rattle.sbe_types.specs.declared.schema.Level.{out-Level}
use Rattle.version_laws.specs.Differ.{is_old}
use Rattle.version_project.specs.IsPlain.{old_group}
use Rattle.version_project.proofs.OldParts.{since_is}
use Rattle.version_project.proofs.Items.{drop_at}
use Rattle.regrade.proofs.Items.{none_left}

module _ {P V : Type 0} (known : P → Bool) (lift : P → V → V) (absent : V) where
  first_known : (p : P) (ps : List P) (v : V) (vs : List V) → known p ≡ true → lifted_each known lift absent (p ∷ ps) (v ∷ vs) ≡ lift p v ∷ lifted_each known lift absent ps vs
  first_known p ps v vs old = ap (λ t. cond t (lift p v ∷ lifted_each known lift absent ps vs) (absent ∷ lifted_each known lift absent ps (v ∷ vs))) old

  first_lacking : (p : P) (ps : List P) (vs : List V) → known p ≡ false → lifted_each known lift absent (p ∷ ps) vs ≡ absent ∷ lifted_each known lift absent ps vs
  first_lacking p ps [] lacks = refl
  first_lacking p ps (v ∷ vs) lacks = ap (λ t. cond t (lift p v ∷ lifted_each known lift absent ps vs) (absent ∷ lifted_each known lift absent ps (v ∷ vs))) lacks

  -- a part that both versions have
  pub lift_goes : (left rest : List P) (p : P) (vs out : List V) (j : ℕ) (v r : V) (whole : List V) → left ≡ p ∷ rest → slice_get vs j ≡ Some v → known p ≡ true → r ≡ lift p v →
      out ++ lifted_each known lift absent left (drop j vs) ≡ whole → (out ++ r ∷ []) ++ lifted_each known lift absent rest (drop (j + 1) vs) ≡ whole
  lift_goes left rest p vs out j v r whole at is old e so_far =
      let more = lifted_each known lift absent rest (drop (j + 1) vs) in
      append_assoc out (r ∷ []) more ∙ ap (λ x. out ++ (x ∷ more)) e
      ∙ ap (λ l. out ++ l) (sym (ap₂ (lifted_each known lift absent) at (drop_at vs j v is) ∙ first_known p rest v (drop (j + 1) vs) old)) ∙ so_far

  -- a part that the earlier version lacks
  pub lift_passes : (left rest : List P) (p : P) (vs out : List V) (j : ℕ) (whole : List V) → left ≡ p ∷ rest → known p ≡ false →
      out ++ lifted_each known lift absent left (drop j vs) ≡ whole → (out ++ absent ∷ []) ++ lifted_each known lift absent rest (drop j vs) ≡ whole
  lift_passes left rest p vs out j whole at lacks so_far =
      append_assoc out (absent ∷ []) (lifted_each known lift absent rest (drop j vs))
      ∙ ap (λ l. out ++ l) (sym (ap (λ l. lifted_each known lift absent l (drop j vs)) at ∙ first_lacking p rest (drop j vs) lacks)) ∙ so_far

  -- a part for which there is no value
  pub lift_ends : (left rest : List P) (p : P) (vs out : List V) (j : ℕ) (whole : List V) → left ≡ p ∷ rest → length vs ≤ j →
      out ++ lifted_each known lift absent left (drop j vs) ≡ whole → (out ++ absent ∷ []) ++ lifted_each known lift absent rest (drop j vs) ≡ whole
  lift_ends left rest p vs out j whole at few so_far =
      let none = none_left vs j few in
      append_assoc out (absent ∷ []) (lifted_each known lift absent rest (drop j vs))
      ∙ ap (λ l. out ++ (absent ∷ lifted_each known lift absent rest l)) none
      ∙ ap (λ l. out ++ l) (sym (ap₂ (lifted_each known lift absent) at none)) ∙ so_far

  -- the next part, whether it has a value or not
  pub lift_next : (left rest : List P) (p : P) (vs out : List V) (j j' : ℕ) (taken : Option V) (r : V) (whole : List V) → left ≡ p ∷ rest → TakesNext (known p) vs j j' taken → r ≡ some_or absent (option_map (lift p) taken) →
      out ++ lifted_each known lift absent left (drop j vs) ≡ whole → (out ++ r ∷ []) ++ lifted_each known lift absent rest (drop j' vs) ≡ whole
  lift_next left rest p vs out j j' (Some v) r whole at takes e so_far =
      subst (λ k. (out ++ r ∷ []) ++ lifted_each known lift absent rest (drop k vs) ≡ whole) (sym takes.2) (lift_goes left rest p vs out j v r whole at takes.1 takes.0 e so_far)
  lift_next left rest p vs out j j' None r whole at takes e so_far =
      let more = lifted_each known lift absent rest (drop j vs) in
      let here : (out ++ absent ∷ []) ++ more ≡ whole = elim takes.0 [ inl lacks ↦ lift_passes left rest p vs out j whole at lacks so_far | inr few ↦ lift_ends left rest p vs out j whole at few so_far ] in
      subst (λ k. (out ++ r ∷ []) ++ lifted_each known lift absent rest (drop k vs) ≡ whole) (sym takes.1) (ap (λ x. (out ++ x ∷ []) ++ more) e ∙ here)

-- where nothing is changed
pub same_taken : {V : Type 0} (absent : V) (taken : Option V) (r : V) → r ≡ some_or absent taken → r ≡ some_or absent (option_map (λ v. v) taken)
same_taken absent None r h = h
same_taken absent (Some v) r h = h

-- a group is known by the version since which the level of its entries is effective
pub group_known : (version : ℕ) (g : Group) (vs : List GroupVal) (j j' : ℕ) (taken : Option GroupVal) → TakesNext (is_old version (out-Level (out-Group g).level).since) vs j j' taken → TakesNext (old_group version g) vs j j' taken
group_known version g vs j j' taken h = subst (λ n. TakesNext (is_old version n) vs j j' taken) (sym (since_is g)) h

-- a group that is lifted, or absent
pub group_taken : (lift : GroupVal → GroupVal) (taken : Option GroupVal) (r : GroupVal) → r ≡ some_or groupval.Absent (option_map lift taken) → r ≡ some_or groupval.Absent (option_map lift taken)
group_taken lift taken r h = h
