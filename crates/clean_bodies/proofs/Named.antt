-- Members that are each the number of its name: the bytes of these numbers, and what is read by name.
use Rattle.std.proofs.Common.{◌≡◌, ℕ, ◌+◌, ◌-◌, ◌*◌, ◌≤◌, Bool, true, false, cond, List, [], ◌∷◌, ◌++◌, length, take, drop, Option, Some, pos, refl, sym, ap, ◌∙◌, subst, arith}
use Rattle.std.specs.Prelude.{replicate}
use Rattle.std.specs.Option.{option_map_or}
use Rattle.std.specs.Str.{bytes_eq}
use Rattle.std.proofs.lemmas.Slice.Eq.{bytes_eq-Decides}
use Rattle.byte_digits.specs.Digits.{IsBytes}
use Rattle.byte_digits.proofs.Bytes.{IsBytes-take, IsBytes-drop}
use Rattle.sbe_types.specs.declared.kind.Order.{Order}
use Rattle.sbe_types.specs.declared.kind.Leaf.{Leaf as LeafOf}
use Rattle.sbe_types.specs.declared.kind.Member.{Member}
use Rattle.sbe_types.specs.Numbers.{number_of, bytes_of, natural, prim_width}
use Rattle.sbe_types.specs.Places.{begin_of, end_past, members_end}
use Rattle.sbe_types.specs.Wire.{both}
use Rattle.sbe_types.proofs.Inverse.{bytes_of-number_of}
use Rattle.sbe_wire.specs.Named.{Spot, spot_of, spot_named, number_named}
use Rattle.sbe_wire.specs.Canonical.{number_bytes_in, named_bytes}
use Rattle.sbe_wire.proofs.Values.{slice_long}
use Rattle.writing_laws.specs.Writable.{HasNamed}
use Rattle.writing_laws.proofs.Numerals.{some_is}
use Rattle.clean_bodies.specs.Clean.{between}
use Rattle.clean_bodies.specs.Says.{SaysNumber, SayNumbers}
use Rattle.clean_bodies.proofs.Zeros.{between_append, gap_zeros, between_none, whole_between}

module _ (order : Order) (numbers : List ℕ → ℕ) (b : List ℕ) where
  -- ---- one member

  module _ (e : ℕ) (m : Member) (here : SaysNumber order (numbers m.name) e m b) where
    abbrev begin : ℕ
    begin = begin_of e m.offset

    abbrev next : ℕ
    next = end_past e m.offset m.kind

    abbrev leaf : LeafOf
    leaf = here.leaf

    abbrev w : ℕ
    w = prim_width leaf.prim

    next_is : next ≡ begin + w
    next_is =
        let ends : next ≡ begin + w * leaf.length = ap (λ k. end_past e m.offset k) here.number in
        let one : begin + w * leaf.length ≡ begin + w * 1 = ap (λ n. begin + w * n) here.single in
        omega (arith, ends, one)

    ahead : e ≤ next
    ahead = let is = next_is in let after = here.after in omega (arith, is, after)

    bytes_are : IsBytes b → next ≤ length b
        → both (Some (replicate (begin - e) 0)) (number_bytes_in order m.kind (numbers m.name)) ≡ Some (between e next b)
    bytes_are good within =
        let is = next_is in
        let after : e ≤ begin = here.after in
        let slice : List ℕ = take w (drop begin b) in
        let zeros : List ℕ = replicate (begin - e) 0 in
        let size : w ≡ next - begin = omega (arith, is) in
        let wire : bytes_of order leaf.prim (pos (numbers m.name)) ≡ Some slice =
        ap (bytes_of order leaf.prim) (sym here.is)
        ∙ bytes_of-number_of order leaf.prim slice (slice_long begin w b (omega (arith, is, within)))
        (IsBytes-take w (drop begin b) (IsBytes-drop begin b good)) in
        ap (λ k. both (Some zeros) (number_bytes_in order k (numbers m.name))) here.number
        ∙ ap (both (Some zeros)) wire
        ∙ ap (λ z. Some (z ++ slice)) (gap_zeros e begin b after (omega (arith, is, within)) here.gap)
        ∙ ap (λ n. Some (between e begin b ++ take n (drop begin b))) size
        ∙ ap Some (between_append e begin next b after (omega (arith, is)))

  -- ---- all members

  members_grow : (e : ℕ) (ms : List Member) → SayNumbers order numbers e ms b → e ≤ members_end e ms
  members_grow e [] h = omega arith
  members_grow e (m ∷ ms) h =
      let first = ahead e m h.0 in
      let rest = members_grow (end_past e m.offset m.kind) ms h.1 in
      omega (arith, first, rest)

  members_bytes : (e : ℕ) (ms : List Member) → SayNumbers order numbers e ms b → IsBytes b → members_end e ms ≤ length b
      → named_bytes order numbers e ms ≡ Some (between e (members_end e ms) b)
  members_bytes e [] h good within = ap Some (sym (between_none e b))
  members_bytes e (m ∷ ms) h good within =
      let next : ℕ = end_past e m.offset m.kind in
      let grows : next ≤ members_end next ms = members_grow next ms h.1 in
      let first : e ≤ next = ahead e m h.0 in
      ap (λ o. both o (named_bytes order numbers next ms)) (bytes_are e m h.0 good (omega (arith, grows, within)))
      ∙ ap (both (Some (between e next b))) (members_bytes next ms h.1 good within)
      ∙ ap Some (between_append e next (members_end next ms) b first grows)

  -- the bytes are those of the numbers
  pub named_are : (ms : List Member) → SayNumbers order numbers 0 ms b → IsBytes b → length b ≡ members_end 0 ms
      → named_bytes order numbers 0 ms ≡ Some b
  named_are ms h good wide = members_bytes 0 ms h good (omega (arith, wide)) ∙ ap Some (whole_between (members_end 0 ms) b (sym wide))

  abbrev read_at : Spot → ℕ
  read_at s = natural (number_of order s.leaf.prim (take (prim_width s.leaf.prim) (drop s.place b)))

  pick : (e : ℕ) (m : Member) (ms : List Member) (name : List ℕ) (spot : Spot) (here : SaysNumber order (numbers m.name) e m b) (t : Bool)
      → bytes_eq m.name name ≡ t
      → (spot_named (end_past e m.offset m.kind) name ms ≡ Some spot → read_at spot ≡ numbers name)
      → cond t (spot_of (begin_of e m.offset) m.kind) (spot_named (end_past e m.offset m.kind) name ms) ≡ Some spot
      → read_at spot ≡ numbers name
  pick e m ms name spot here true same later is =
      let it : ◌≡◌ {A = Option Spot} (Some (record { place = begin_of e m.offset; leaf = here.leaf })) (Some spot) =
      ap (spot_of (begin_of e m.offset)) (sym here.number) ∙ is in
      subst (λ s. read_at s ≡ numbers name) (some_is it) (ap natural here.is ∙ ap numbers ((bytes_eq-Decides m.name name).0 same))
  pick e m ms name spot here false same later is = later is

  spot_read : (e : ℕ) (ms : List Member) → SayNumbers order numbers e ms b → (name : List ℕ) (spot : Spot)
      → spot_named e name ms ≡ Some spot → read_at spot ≡ numbers name
  spot_read e [] h name spot is = cc
  spot_read e (m ∷ ms) h name spot is =
      pick e m ms name spot h.0 (bytes_eq m.name name) refl (λ k. spot_read (end_past e m.offset m.kind) ms h.1 name spot k) is

  -- the number that is read by a name
  pub named_read : (ms : List Member) → SayNumbers order numbers 0 ms b → (name : List ℕ) → HasNamed ms name
      → number_named order ms name b ≡ numbers name
  named_read ms h name named = ap (λ o. option_map_or read_at o 0) named.1 ∙ spot_read 0 ms h name named.0 named.1
