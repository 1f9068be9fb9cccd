-- The numbers of a header or dimension are read by their names as they were written.
use Rattle.std.proofs.Common.{◌≡◌, ℕ, ◌+◌, ◌-◌, ◌*◌, ◌≤◌, Bool, true, false, cond, List, [], ◌∷◌, ◌++◌, length, take, drop, Option, Some, None, pos, refl, sym, ap, ◌∙◌, subst, arith, append_assoc, length-append}
use Rattle.std.specs.Prelude.{replicate}
use Rattle.std.specs.Option.{option_map_or}
use Rattle.std.specs.Str.{bytes_eq}
use Rattle.std.proofs.lemmas.List.{length-replicate}
use Rattle.std.proofs.lemmas.Slice.Eq.{bytes_eq-Decides}
use Rattle.sbe_types.specs.declared.kind.Order.{Order}
use Rattle.sbe_types.specs.declared.kind.Kind.{Leaf}
use Rattle.sbe_types.specs.declared.kind.Member.{Member}
use Rattle.sbe_types.specs.Numbers.{number_of, natural, prim_width}
use Rattle.sbe_types.specs.Places.{begin_of, end_past, members_end}
use Rattle.sbe_types.specs.Shown.{admits}
use Rattle.sbe_types.specs.Wire.{both}
use Rattle.sbe_wire.specs.Named.{Spot, spot_of, spot_named, number_named, is_admitted}
use Rattle.sbe_wire.specs.Canonical.{number_bytes_in, named_bytes}
use Rattle.writing_laws.specs.Writable.{HoldNumbers, HasNamed}
use Rattle.writing_laws.proofs.Numerals.{untrue, some_is}
use Rattle.writing_laws.proofs.Slots.{joined_part}
use Rattle.writing_laws.proofs.KindFits.{numeral}

module _ (order : Order) (numbers : List ℕ → ℕ) where
  -- the number at a spot of some bytes
  abbrev read_at : Spot → List ℕ → ℕ
  read_at s b = natural (number_of order s.leaf.prim (take (prim_width s.leaf.prim) (drop s.place b)))

  -- after any e bytes each member's number is that of its name
  abbrev Reads_names : ℕ → List Member → List ℕ → Type 0
  Reads_names e ms bytes =
      (front : List ℕ) → length front ≡ e → (name : List ℕ) (spot : Spot) → spot_named e name ms ≡ Some spot → read_at spot (front ++ bytes) ≡ numbers name

  abbrev pub NamesWritten : ℕ → List Member → Type 0
  NamesWritten e ms = (bytes : List ℕ) × (named_bytes order numbers e ms ≡ Some bytes) × (e + length bytes ≡ members_end e ms) × Reads_names e ms bytes

  module _ (e : ℕ) (m : Member) (ms : List Member) where
    abbrev begin : ℕ
    begin = begin_of e m.offset

    abbrev next : ℕ
    next = end_past e m.offset m.kind

    one_more : HoldNumbers numbers e (m ∷ ms) → NamesWritten next ms → NamesWritten e (m ∷ ms)
    one_more holds there =
        let here = holds.0 in
        let l = here.leaf in
        let w = prim_width l.prim in
        let has = numeral order l.prim (pos (numbers m.name)) here.room in
        let zeros : List ℕ = replicate (begin - e) 0 in
        let wire = has.0 in
        let after : e ≤ begin = here.after in
        let wide : length wire ≡ w = has.2 in
        let gap : length zeros ≡ begin - e = length-replicate {A = ℕ} (begin - e) 0 in
        let ends : next ≡ begin + w * l.length = ap (λ k. end_past e m.offset k) here.number in
        let one : begin + w * l.length ≡ begin + w * 1 = ap (λ k. begin + w * k) here.single in
        let reached : next ≡ begin + w = omega (arith, ends, one) in
        let is : named_bytes order numbers e (m ∷ ms) ≡ Some ((zeros ++ wire) ++ there.0) =
        ap (λ k. both (both (Some zeros) (number_bytes_in order k (numbers m.name))) (named_bytes order numbers next ms)) here.number
        ∙ ap (λ o. both (both (Some zeros) o) (named_bytes order numbers next ms)) has.1
        ∙ ap (λ o. both (Some (zeros ++ wire)) o) there.1 in
        let reads : Reads_names e (m ∷ ms) ((zeros ++ wire) ++ there.0) =
        λ front at name spot is.
        let place : length front + length zeros ≡ begin = omega (arith, at, gap, after) in
        let number : natural (number_of order l.prim (take w (drop begin (front ++ ((zeros ++ wire) ++ there.0))))) ≡ numbers m.name =
        ap (λ b. natural (number_of order l.prim b)) (joined_part front zeros wire there.0 begin w place wide) ∙ ap natural has.3 in
        let there_at : length (front ++ (zeros ++ wire)) ≡ next = omega (arith, length-append front (zeros ++ wire), length-append zeros wire, place, wide, reached) in
        let later : spot_named next name ms ≡ Some spot → read_at spot (front ++ ((zeros ++ wire) ++ there.0)) ≡ numbers name =
        λ k. ap (read_at spot) (sym (append_assoc front (zeros ++ wire) there.0)) ∙ there.3 (front ++ (zeros ++ wire)) there_at name spot k in
        pick (bytes_eq m.name name) (front ++ ((zeros ++ wire) ++ there.0)) name spot l here.number refl number later is in
        ((zeros ++ wire) ++ there.0, is, omega (arith, length-append (zeros ++ wire) there.0, length-append zeros wire, gap, after, wide, reached, there.2), reads)
      where
        pick : (t : Bool) (b : List ℕ) (name : List ℕ) (spot : Spot) (l : _) → m.kind ≡ Leaf l → bytes_eq m.name name ≡ t →
            natural (number_of order l.prim (take (prim_width l.prim) (drop begin b))) ≡ numbers m.name →
            (spot_named next name ms ≡ Some spot → read_at spot b ≡ numbers name) →
            cond t (spot_of begin m.kind) (spot_named next name ms) ≡ Some spot → read_at spot b ≡ numbers name
        pick true b name spot l number same here later is =
            let it : ◌≡◌ {A = Option Spot} (Some (record { place = begin; leaf = l })) (Some spot) = ap (spot_of begin) (sym number) ∙ is in
            subst (λ s. read_at s b ≡ numbers name) (some_is it) (here ∙ ap numbers ((bytes_eq-Decides m.name name).0 same))
        pick false b name spot l number same here later is = later is

  pub names_written : (e : ℕ) (ms : List Member) → HoldNumbers numbers e ms → NamesWritten e ms
  names_written e [] holds = ([], refl, omega arith, λ front at name spot is. cc)
  names_written e (m ∷ ms) holds = one_more e m ms holds (names_written (end_past e m.offset m.kind) ms holds.1)

  -- the number of a member that is there
  pub names_read : (ms : List Member) (h : NamesWritten 0 ms) (name : List ℕ) → HasNamed ms name → number_named order ms name h.0 ≡ numbers name
  names_read ms h name named = ap (λ o. option_map_or (λ s. read_at s h.0) o 0) named.1 ∙ h.3 [] refl name named.0 named.1

-- what is admitted is there
pub admitted_named : (ms : List Member) (name : List ℕ) (n : ℕ) → is_admitted ms name n ≡ true → HasNamed ms name
admitted_named ms name n h = by (spot_named 0 name ms) refl h
  where
    by : (o : Option Spot) → spot_named 0 name ms ≡ o → option_map_or (λ s. admits s.leaf (pos n)) o false ≡ true → HasNamed ms name
    by None e k = absurd (untrue k)
    by (Some s) e k = (s, e)
