-- What is filled, part by part.
use Rattle.std.proofs.Common.{◌≡◌, ℕ, suc, Bool, true, false, List, [], ◌∷◌, Option, Some, None, Ok, Err, refl, sym, ap, ◌∙◌}
use Rattle.std.specs.Prelude.{if◌then◌else◌}
use Rattle.std.specs.Bool.{MatchBool}
use Rattle.sbe_types.specs.declared.path.Step.{Step}
use Rattle.sbe_types.specs.declared.path.Step.TheVariants as way
use Rattle.sbe_types.specs.declared.message.Block.{Block}
use Rattle.sbe_types.specs.declared.message.DataVal.{DataVal}
use Rattle.sbe_types.specs.declared.message.Value.{Value}
use Rattle.sbe_types.specs.declared.message.GroupVal.{GroupVal}
use Rattle.version_laws.specs.Projected.{projected_list, lifted_list}
use Rattle.version_laws.proofs.BlockMoves.{taken, passed, by_bool}
use Rattle.regrade_laws.specs.Fill.{Fills}
use Rattle.regrade_laws.specs.Filled.{in_step, then_all, filled_list, block_of}

pub step_ok : {X : Type 0} (step : Step) (a : Fills X) (x : X) → in_step step a ≡ Ok x → a ≡ Ok x
step_ok step (Ok y) x h = h
step_ok step (Err path) x h = cc

-- a list that is filled has a first one and others
pub record Splits {X : Type 0} (a : Fills X) (b : Fills (List X)) (xs : List X) : Type 0 where
  pub first : X
  pub others : List X
  pub is : xs ≡ first ∷ others
  pub one : a ≡ Ok first
  pub more : b ≡ Ok others

pub all_ok : {X : Type 0} (a : Fills X) (b : Fills (List X)) (xs : List X) → then_all a b ≡ Ok xs → Splits a b xs
all_ok (Err path) b xs h = cc
all_ok (Ok x) (Err path) xs h = cc
all_ok (Ok x) (Ok ys) xs h = record { first = x; others = ys; is = cc; one = refl; more = refl }

pub record Parts (fields : Fills (List Value)) (groups : Fills (List GroupVal)) (parts : Fills (List DataVal)) (block : Block) : Type 0 where
  pub some_fields : List Value
  pub some_groups : List GroupVal
  pub some_parts : List DataVal
  pub is : block ≡ record { fields = some_fields; groups = some_groups; parts = some_parts }
  pub has_fields : fields ≡ Ok some_fields
  pub has_groups : groups ≡ Ok some_groups
  pub has_parts : parts ≡ Ok some_parts

pub block_ok : (fields : Fills (List Value)) (groups : Fills (List GroupVal)) (parts : Fills (List DataVal)) (block : Block) → block_of fields groups parts ≡ Ok block → Parts fields groups parts block
block_ok (Err path) groups parts block h = cc
block_ok (Ok fields) (Err path) parts block h = cc
block_ok (Ok fields) (Ok groups) (Err path) block h = cc
block_ok (Ok fields) (Ok groups) (Ok parts) block h =
    record { some_fields = fields; some_groups = groups; some_parts = parts; is = cc; has_fields = refl; has_groups = refl; has_parts = refl }

-- two blocks with the same parts
pub block_same : (fs fs' : List Value) (gs gs' : List GroupVal) (ps ps' : List DataVal) → fs ≡ fs' → gs ≡ gs' → ps ≡ ps' → ◌≡◌ {A = Block} (record { fields = fs; groups = gs; parts = ps }) (record { fields = fs'; groups = gs'; parts = ps' })
block_same fs fs' gs gs' ps ps' f g p =
    ap (λ x. let b : Block = record { fields = x; groups = gs; parts = ps } in b) f ∙ ap (λ x. let b : Block = record { fields = fs'; groups = x; parts = ps } in b) g ∙ ap (λ x. let b : Block = record { fields = fs'; groups = gs'; parts = x } in b) p

-- ---- parts without a part inside

-- each part that is known has a value that isn't absent, and there are no others
abbrev pub HasList : {P V : Type 0} → (P → V → Fills V) → (P → Bool) → List P → List V → Type 0
HasList kept known [] [] = Unit {0}
HasList kept known [] (v ∷ vs) = ⊥
HasList kept known (p ∷ ps) [] = (known p ≡ false) × HasList kept known ps []
HasList kept known (p ∷ ps) (v ∷ vs) = MatchBool (known p) ((kept p v ≡ Ok v) × HasList kept known ps vs) (HasList kept known ps (v ∷ vs))

pub choice_yes : {X : Type 0} (t : Bool) (x y : X) → t ≡ true → (if t then x else y) ≡ x
choice_yes t x y e = rw e refl

pub choice_not : {X : Type 0} (t : Bool) (x y : X) → t ≡ false → (if t then x else y) ≡ y
choice_not t x y e = rw e refl

-- values that are lifted, filled and projected are what they were
pub back_list : {P V : Type 0} (kept : P → V → Fills V) (known : P → Bool) (absent : V) (i : ℕ) (ps : List P) (vs ws : List V) → HasList kept known ps vs → filled_list kept i ps (lifted_list known absent ps vs) ≡ Ok ws → projected_list known ps ws ≡ vs
back_list kept known absent i [] [] ws has h = refl
back_list kept known absent i [] (v ∷ vs) ws has h = absurd has
back_list kept known absent i (p ∷ ps) [] ws has h =
    let s = all_ok (in_step (way.Part i) (kept p absent)) (filled_list kept (suc i) ps (lifted_list known absent ps [])) ws h in
    ap (projected_list known (p ∷ ps)) s.is ∙ choice_not (known p) (s.first ∷ projected_list known ps s.others) (projected_list known ps s.others) has.0 ∙ back_list kept known absent (suc i) ps [] s.others has.1 s.more
back_list {P} {V} kept known absent i (p ∷ ps) (v ∷ vs) ws has h =
    by_bool (projected_list known (p ∷ ps) ws ≡ v ∷ vs) (known p)
    (λ is.
    let has' = taken ((kept p v ≡ Ok v) × HasList kept known ps vs) (HasList kept known ps (v ∷ vs)) (known p) is has in
    let lifts = choice_yes (known p) (v ∷ lifted_list known absent ps vs) (absent ∷ lifted_list known absent ps (v ∷ vs)) is in
    let s = all_ok (in_step (way.Part i) (kept p v)) (filled_list kept (suc i) ps (lifted_list known absent ps vs)) ws (ap (filled_list kept i (p ∷ ps)) (sym lifts) ∙ h) in
    let first : ◌≡◌ {A = Fills V} (Ok s.first) (Ok v) = sym (step_ok (way.Part i) (kept p v) s.first s.one) ∙ has'.0 in
    let same : s.first ≡ v = cc in
    let later = back_list kept known absent (suc i) ps vs s.others has'.1 s.more in
    ap (projected_list known (p ∷ ps)) s.is ∙ choice_yes (known p) (s.first ∷ projected_list known ps s.others) (projected_list known ps s.others) is
    ∙ ap (λ x. x ∷ projected_list known ps s.others) same ∙ ap (λ xs. v ∷ xs) later)
    (λ is.
    let has' = passed ((kept p v ≡ Ok v) × HasList kept known ps vs) (HasList kept known ps (v ∷ vs)) (known p) is has in
    let lifts = choice_not (known p) (v ∷ lifted_list known absent ps vs) (absent ∷ lifted_list known absent ps (v ∷ vs)) is in
    let s = all_ok (in_step (way.Part i) (kept p absent)) (filled_list kept (suc i) ps (lifted_list known absent ps (v ∷ vs))) ws (ap (filled_list kept i (p ∷ ps)) (sym lifts) ∙ h) in
    ap (projected_list known (p ∷ ps)) s.is ∙ choice_not (known p) (s.first ∷ projected_list known ps s.others) (projected_list known ps s.others) is
    ∙ back_list kept known absent (suc i) ps (v ∷ vs) s.others has' s.more)

-- each part has a value that isn't absent
abbrev pub AllThere : {P V : Type 0} → (P → V → Fills V) → List P → List V → Type 0
AllThere kept [] [] = Unit {0}
AllThere kept [] (v ∷ vs) = ⊥
AllThere kept (p ∷ ps) [] = ⊥
AllThere kept (p ∷ ps) (v ∷ vs) = (kept p v ≡ Ok v) × AllThere kept ps vs

-- where nothing is absent, nothing is filled
pub there_list : {P V : Type 0} (kept : P → V → Fills V) (i : ℕ) (ps : List P) (vs : List V) → AllThere kept ps vs → filled_list kept i ps vs ≡ Ok vs
there_list kept i [] [] has = refl
there_list kept i [] (v ∷ vs) has = absurd has
there_list kept i (p ∷ ps) [] has = absurd has
there_list kept i (p ∷ ps) (v ∷ vs) has =
    ap (λ o. then_all (in_step (way.Part i) o) (filled_list kept (suc i) ps vs)) has.0 ∙ ap (then_all (Ok v)) (there_list kept (suc i) ps vs has.1)
