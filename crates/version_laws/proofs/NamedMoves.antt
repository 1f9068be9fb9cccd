-- Numbers by name, in composites that stand to each other.
use Rattle.std.proofs.Common.{◌≡◌, ℕ, ◌+◌, Bool, true, false, cond, List, [], ◌∷◌, take, drop, Option, refl, sym, ap, ◌∙◌}
use Rattle.std.specs.Prelude.{codes, pos}
use Rattle.std.specs.Option.{option_map_or}
use Rattle.std.specs.Str.{bytes_eq}
use Rattle.sbe_types.specs.declared.kind.Order.{Order}
use Rattle.sbe_types.specs.declared.kind.Leaf.{Leaf as LeafOf}
use Rattle.sbe_types.specs.declared.kind.Kind.{Kind, Leaf, Enum, Set, Const, Comp'}
use Rattle.sbe_types.specs.declared.kind.Member.{Member}
use Rattle.sbe_types.specs.Numbers.{number_of, natural, prim_width}
use Rattle.sbe_types.specs.Places.{width, is_const, begin_of, end_past, members_end}
use Rattle.sbe_types.specs.Shown.{admits}
use Rattle.sbe_wire.specs.Named.{Spot, spot_of, spot_named, number_named, is_admitted}
use Rattle.sbe_wire.specs.Lays.{DimensionLays}
use Rattle.version_laws.proofs.Stands.{Lists, KindStands, MembersStand}
use Rattle.version_laws.proofs.KindMoves.{same_const, same_width}

module _ (R : Lists) where
  spot_is : (p q : ℕ) (k l : Kind) → KindStands R k l → (is_const k ≡ false → p ≡ q) → spot_of p k ≡ spot_of q l
  spot_is p q (Leaf a) (Leaf b) h place =
      ap (λ (p : ℕ). spot_of p (Leaf a)) (place refl) ∙ ap (λ (l : LeafOf). spot_of q (Leaf l)) h
  spot_is p q (Enum a xs) (Enum b ys) h place = refl
  spot_is p q (Set a xs) (Set b ys) h place = refl
  spot_is p q (Const c) (Const d) h place = refl
  spot_is p q (Comp' n old) (Comp' k new) h place = refl
  spot_is p q k l h place = absurd h

  pub spots_are : (name : List ℕ) (e : ℕ) (xs : List Member) (d : ℕ) (ys : List Member) → MembersStand R e xs d ys → spot_named e name xs ≡ spot_named d name ys
  spots_are name e [] d [] h = refl
  spots_are name e [] d (y ∷ ys) h = absurd h
  spots_are name e (x ∷ xs) d [] h = absurd h
  spots_are name e (x ∷ xs) d (y ∷ ys) h =
      ap (λ n. cond (bytes_eq n name) (spot_of (begin_of e x.offset) x.kind) (spot_named (end_past e x.offset x.kind) name xs)) h.0
      ∙ ap (λ s. cond (bytes_eq y.name name) s (spot_named (end_past e x.offset x.kind) name xs)) (spot_is (begin_of e x.offset) (begin_of d y.offset) x.kind y.kind h.2 h.1)
      ∙ ap (λ s. cond (bytes_eq y.name name) (spot_of (begin_of d y.offset) y.kind) s) (spots_are name (end_past e x.offset x.kind) xs (end_past d y.offset y.kind) ys h.3)

  pub end_is : (e : ℕ) (o o' : Option ℕ) (k l : Kind) (d : ℕ) (c : Bool) → is_const k ≡ c → e ≡ d → (is_const k ≡ false → begin_of e o ≡ begin_of d o') → KindStands R k l → end_past e o k ≡ end_past d o' l
  end_is e o o' k l d true c same place h =
      ap (λ t. cond t e (begin_of e o + width k)) c ∙ same ∙ sym (ap (λ t. cond t d (begin_of d o' + width l)) (sym (same_const R k l h) ∙ c))
  end_is e o o' k l d false c same place h =
      ap (λ t. cond t e (begin_of e o + width k)) c
      ∙ ap (λ p. p + width k) (place c) ∙ ap (λ w. begin_of d o' + w) (same_width R k l h)
      ∙ sym (ap (λ t. cond t d (begin_of d o' + width l)) (sym (same_const R k l h) ∙ c))

  pub ends_are : (e : ℕ) (xs : List Member) (d : ℕ) (ys : List Member) → MembersStand R e xs d ys → e ≡ d → members_end e xs ≡ members_end d ys
  ends_are e [] d [] h same = same
  ends_are e [] d (y ∷ ys) h same = absurd h
  ends_are e (x ∷ xs) d [] h same = absurd h
  ends_are e (x ∷ xs) d (y ∷ ys) h same =
      ends_are (end_past e x.offset x.kind) xs (end_past d y.offset y.kind) ys h.3 (end_is e x.offset y.offset x.kind y.kind d (is_const x.kind) refl same h.1 h.2)

  pub numbers_are : (order : Order) (name : List ℕ) (xs ys : List Member) → MembersStand R 0 xs 0 ys → (b : List ℕ) → number_named order xs name b ≡ number_named order ys name b
  numbers_are order name xs ys h b =
      ap (λ o. option_map_or (λ (s : Spot). natural (number_of order s.leaf.prim (take (prim_width s.leaf.prim) (drop s.place b)))) o 0) (spots_are name 0 xs 0 ys h)

  pub admitted_alike : (name : List ℕ) (xs ys : List Member) → MembersStand R 0 xs 0 ys → (n : ℕ) → is_admitted xs name n ≡ is_admitted ys name n
  admitted_alike name xs ys h n = ap (λ o. option_map_or (λ (s : Spot). admits s.leaf (pos n)) o false) (spots_are name 0 xs 0 ys h)

  pub dimension_moves : (order : Order) (xs ys : List Member) → MembersStand R 0 xs 0 ys → (block count : ℕ) (b : List ℕ) → DimensionLays order xs block count b → DimensionLays order ys block count b
  dimension_moves order xs ys h block count b lies = record {
    wide = lies.wide ∙ ends_are 0 xs 0 ys h refl;
    says_block = sym (numbers_are order (codes "blockLength") xs ys h b) ∙ lies.says_block;
    says_count = sym (numbers_are order (codes "numInGroup") xs ys h b) ∙ lies.says_count;
    admitted = sym (admitted_alike (codes "numInGroup") xs ys h count) ∙ lies.admitted;
  }

  pub dimension_back : (order : Order) (xs ys : List Member) → MembersStand R 0 xs 0 ys → (block count : ℕ) (b : List ℕ) → DimensionLays order ys block count b → DimensionLays order xs block count b
  dimension_back order xs ys h block count b lies = record {
    wide = lies.wide ∙ sym (ends_are 0 xs 0 ys h refl);
    says_block = numbers_are order (codes "blockLength") xs ys h b ∙ lies.says_block;
    says_count = numbers_are order (codes "numInGroup") xs ys h b ∙ lies.says_count;
    admitted = admitted_alike (codes "numInGroup") xs ys h count ∙ lies.admitted;
  }
