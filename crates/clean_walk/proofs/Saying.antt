-- Members that are numbers, one more.
use Rattle.std.proofs.Common.{◌≡◌, ℕ, ◌+◌, ◌-◌, ◌*◌, ◌<◌, ◌≤◌, List, [], ◌∷◌, length, take, drop, get_or, pos, sym, ap, ◌∙◌, subst, arith}
use Rattle.std.proofs.lemmas.List.{drop_more, drop_all, drop-take, take-take, take_rest}
use Rattle.sbe_types.specs.declared.kind.Order.{Order}
use Rattle.sbe_types.specs.declared.kind.Leaf.{Leaf as LeafOf}
use Rattle.sbe_types.specs.declared.kind.Kind.{Leaf}
use Rattle.sbe_types.specs.declared.kind.Member.{Member}
use Rattle.sbe_types.specs.declared.schema.Group.{Group, out-Group}
use Rattle.sbe_types.specs.declared.schema.Level.{out-Level}
use Rattle.sbe_types.specs.Numbers.{number_of, prim_width}
use Rattle.sbe_types.specs.Places.{begin_of, end_past, members_end}
use Rattle.sbe_wire.specs.Canonical.{dimension_numbers}
use Rattle.clean_bodies.specs.Clean.{AreZeros, between}
use Rattle.clean_bodies.specs.Says.{SaysNumber, SayNumbers}
use Rattle.clean_walk.specs.inner.Heads.{GroupSays}

-- a member that was read as a number
pub past_leaf : (e : ℕ) (m : Member) (leaf : LeafOf) → m.kind ≡ Leaf leaf → leaf.length ≡ 1
    → end_past e m.offset m.kind ≡ begin_of e m.offset + prim_width leaf.prim
past_leaf e m leaf number single =
    let ends : end_past e m.offset m.kind ≡ begin_of e m.offset + prim_width leaf.prim * leaf.length = ap (λ k. end_past e m.offset k) number in
    let one : begin_of e m.offset + prim_width leaf.prim * leaf.length ≡ begin_of e m.offset + prim_width leaf.prim * 1 =
    ap (λ n. begin_of e m.offset + prim_width leaf.prim * n) single in
    omega (arith, ends, one)

pub number_said : (order : Order) (n e : ℕ) (m : Member) (b : List ℕ) (leaf : LeafOf) (begin next read : ℕ)
    → m.kind ≡ Leaf leaf → leaf.length ≡ 1 → begin ≡ begin_of e m.offset → e ≤ begin
    → AreZeros (take (begin - e) (drop e b)) → next ≡ begin + prim_width leaf.prim
    → number_of order leaf.prim (take (next - begin) (drop begin b)) ≡ pos read → read ≡ n → SaysNumber order n e m b
number_said order n e m b leaf begin next read number single place after gap end is same =
    let size : next - begin ≡ prim_width leaf.prim = omega (arith, end) in
    record {
      leaf = leaf;
      number = number;
      single = single;
      after = omega (arith, place, after);
      gap = subst (λ k. AreZeros (between e k b)) place gap;
      is =
          ap (λ k. number_of order leaf.prim (take (prim_width leaf.prim) (drop k b))) (sym place)
          ∙ ap (λ k. number_of order leaf.prim (take k (drop begin b))) (sym size)
          ∙ is
          ∙ ap pos same;
    }

-- what the rest of the members gives from here on, all give
abbrev pub LeadsNumbers : Order → (List ℕ → ℕ) → List Member → List ℕ → ℕ → ℕ → Type 0
LeadsNumbers order numbers ms b i e = SayNumbers order numbers e (drop i ms) b → SayNumbers order numbers 0 ms b

pub numbers_more : (order : Order) (numbers : List ℕ → ℕ) (ms : List Member) (b : List ℕ) (i e next n : ℕ) (m : Member)
    → LeadsNumbers order numbers ms b i e → i < length ms → m ≡ get_or ms i m → n ≡ numbers m.name
    → SaysNumber order n e m b → next ≡ end_past e m.offset m.kind → LeadsNumbers order numbers ms b (i + 1) next
numbers_more order numbers ms b i e next n m leads below is number says end rest =
    let split : drop i ms ≡ m ∷ drop (i + 1) ms = drop_more ms i m below ∙ ap (λ y. y ∷ drop (i + 1) ms) (sym is) in
    leads (subst (λ l. SayNumbers order numbers e l b) (sym split)
    (subst (λ k. SaysNumber order k e m b) number says, subst (λ k. SayNumbers order numbers k (drop (i + 1) ms) b) end rest))

pub numbers_done : (order : Order) (numbers : List ℕ → ℕ) (ms : List Member) (b : List ℕ) (i e : ℕ)
    → LeadsNumbers order numbers ms b i e → length ms ≤ i → SayNumbers order numbers 0 ms b
numbers_done order numbers ms b i e leads past = leads (subst (λ l. SayNumbers order numbers e l b) (sym (drop_all i ms past)) tt)

-- ---- a dimension, and a header

-- a piece of a front
slice_front : (place many n : ℕ) (b : List ℕ) → place + many ≤ n → take many (drop place (take n b)) ≡ take many (drop place b)
slice_front place many n b within =
    let split : n ≡ place + (n - place) = omega (arith, within) in
    ap (λ k. take many (drop place (take k b))) split
    ∙ ap (take many) (drop-take place (n - place) b)
    ∙ take-take many (n - place) (drop place b) (omega (arith, within))

module _ (order : Order) (numbers : List ℕ → ℕ) (n : ℕ) (b : List ℕ) where
  number_front : (e : ℕ) (m : Member) → SaysNumber order (numbers m.name) e m b → end_past e m.offset m.kind ≤ n
      → SaysNumber order (numbers m.name) e m (take n b)
  number_front e m h within =
      let begin : ℕ = begin_of e m.offset in
      let w : ℕ = prim_width h.leaf.prim in
      let ends : end_past e m.offset m.kind ≡ begin + w = past_leaf e m h.leaf h.number h.single in
      let after : e ≤ begin = h.after in
      let gap : between e begin (take n b) ≡ between e begin b = slice_front e (begin - e) n b (omega (arith, ends, after, within)) in
      record {
        leaf = h.leaf;
        number = h.number;
        single = h.single;
        after = h.after;
        gap = subst AreZeros (sym gap) h.gap;
        is = ap (number_of order h.leaf.prim) (slice_front begin w n b (omega (arith, ends, within))) ∙ h.is;
      }

  grows : (e : ℕ) (ms : List Member) → SayNumbers order numbers e ms b → e ≤ members_end e ms
  grows e [] h = omega arith
  grows e (m ∷ ms) h =
      let ends : end_past e m.offset m.kind ≡ begin_of e m.offset + prim_width h.0.leaf.prim = past_leaf e m h.0.leaf h.0.number h.0.single in
      let after = h.0.after in
      let rest = grows (end_past e m.offset m.kind) ms h.1 in
      omega (arith, ends, after, rest)

  -- what members say is said by the bytes up to their end
  pub say_front : (e : ℕ) (ms : List Member) → SayNumbers order numbers e ms b → members_end e ms ≤ n
      → SayNumbers order numbers e ms (take n b)
  say_front e [] h within = tt
  say_front e (m ∷ ms) h within =
      let more = grows (end_past e m.offset m.kind) ms h.1 in
      (number_front e m h.0 (omega (arith, more, within)), say_front (end_past e m.offset m.kind) ms h.1 within)

pub dim_said : (order : Order) (body : List ℕ) (g : Group) (count at : ℕ) (ms : List Member) → ms ≡ (out-Group g).dim →
    SayNumbers order (dimension_numbers (out-Level (out-Group g).level).block_length count) 0 ms (take (length body - at) (drop at body)) → GroupSays order body g count at
dim_said order body g count at ms same says =
    let numbers = dimension_numbers (out-Level (out-Group g).level).block_length count in
    subst (λ l. SayNumbers order numbers 0 l (take (members_end 0 l) (drop at body))) same
    (say_front order numbers (members_end 0 ms) (drop at body) 0 ms (subst (SayNumbers order numbers 0 ms) (take_rest body at) says) (omega arith))
