-- The values of a composite's members, read one after another.
use Rattle.std.proofs.Common.{◌≡◌, ℕ, Bool, List, [], ◌∷◌, ◌++◌, take, drop, refl, sym, ap, ◌∙◌, subst, append_assoc, append-nil}
use Rattle.sbe_types.specs.declared.kind.Kind.{Comp}
use Rattle.sbe_types.specs.declared.kind.Member.{Member}
use Rattle.sbe_types.specs.declared.kind.Order.{Order}
use Rattle.sbe_types.specs.declared.message.Value.{Value}
use Rattle.sbe_types.specs.declared.message.Value.TheVariants as value
use Rattle.sbe_types.specs.Places.{width, begin_of, end_past}
use Rattle.sbe_types.proofs.ShownMembers.{ListShows, members_in}
use Rattle.tree_codec.specs.TheValues.{IsTheValue}

-- ---- the loop

-- Whichever values all members show, those before the rest were read.
pub record Goes (order : Order) (all : List Member) (b : List ℕ) (done : List Value) (e : ℕ) (rest : List Member) : Type 0 where
  pub goes : (known : Bool) (vs : List Value) → ListShows order known 0 all vs b → (ws : List Value) × ListShows order known e rest ws b × (done ++ ws ≡ vs)

pub goes_first : {order : Order} {all : List Member} {b : List ℕ} → Goes order all b [] 0 all
goes_first = record { goes = λ known vs h. (vs, h, refl) }

module _ (order : Order) (all : List Member) (b : List ℕ) where
  step : (known : Bool) (vs : List Value) (e : ℕ) (m : Member) (rest : List Member) (it : Value) (ws done : List Value) →
      ListShows order known e (m ∷ rest) ws b → done ++ ws ≡ vs → IsTheValue order m.kind (take (width m.kind) (drop (begin_of e m.offset) b)) it →
      (us : List Value) × ListShows order known (end_past e m.offset m.kind) rest us b × ((done ++ it ∷ []) ++ us ≡ vs)
  step known vs e m rest it [] done shows is w = absurd shows
  step known vs e m rest it (v ∷ ws) done shows is w =
      (ws, shows.1, append_assoc done (it ∷ []) ws ∙ ap (λ x. done ++ x ∷ ws) (w.same known v shows.0) ∙ is)

  pub goes_next : (done : List Value) (e : ℕ) (m : Member) (rest : List Member) (p : List ℕ) (it : Value) → Goes order all b done e (m ∷ rest) →
      p ≡ take (width m.kind) (drop (begin_of e m.offset) b) → IsTheValue order m.kind p it → Goes order all b (done ++ it ∷ []) (end_past e m.offset m.kind) rest
  goes_next done e m rest p it g is w =
      record {
        goes = λ known vs h. let so_far = g.goes known vs h in
            step known vs e m rest it so_far.0 done so_far.1 so_far.2 (subst (λ q. IsTheValue order m.kind q it) is w);
      }

  over : (known : Bool) (vs : List Value) (e : ℕ) (ws done : List Value) → ListShows order known e [] ws b → done ++ ws ≡ vs → done ≡ vs
  over known vs e [] done shows is = sym (append-nil done) ∙ is
  over known vs e (v ∷ ws) done shows is = absurd shows

  -- the whole composite
  pub goes_over : (done : List Value) (e : ℕ) → Goes order all b done e [] → IsTheValue order (Comp all) b (value.Comp done)
  goes_over done e g =
      record {
        same = λ known v h. let members = members_in order known all v b h in
            let so_far = g.goes known members.0 members.2 in
            ap value.Comp (over known members.0 e so_far.0 done so_far.1 so_far.2) ∙ sym members.1;
      }
