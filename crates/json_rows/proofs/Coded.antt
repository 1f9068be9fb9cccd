-- Names that are kept by a byte.
use Rattle.std.proofs.Common.{◌≡◌, ◌<◌, ◌≤◌, ◌+◌, ◌-◌, ◌*◌, ◌/◌, ℕ, zero, suc, Bool, true, false, cond, not, List, [], ◌∷◌, ◌++◌, length, take, drop, set, get_or, replicate, Option, Some, None, ℤ, pos, refl, sym, ap, ap₂, ◌∙◌, subst, arith, inl, inr, append_assoc, length-append, length-drop}
use Rattle.std.specs.Prelude.{◌&&◌, codes}
use Rattle.std.specs.Ordering.{int_eq}
use Rattle.std.proofs.lemmas.Bool.{cases_eq}
use Rattle.std.proofs.lemmas.Bool.Decides.{Decides-int_eq}
use Rattle.std.proofs.Math.Nat.{mul-div_cancel_left}
use Rattle.std.proofs.lemmas.List.{length-take, take-append-le, drop-append-le, take_all, take_at, drop_at, get_or_at, get_or-set_same, get_or-set_other}
use Rattle.sbe_types.specs.declared.kind.Kind.{Kind, Leaf, Enum, Set, Const, Comp'}
use Rattle.sbe_types.specs.declared.kind.Leaf.{Leaf as LeafOf}
use Rattle.sbe_types.specs.declared.kind.Named.{Named}
use Rattle.sbe_types.specs.Shown.{is_null}
use Rattle.flat_rows.specs.Bytes.{is_byte}
use Rattle.json_rows.specs.Codes.{first_name, byte_name, between_quotes, IsTextOf, slot_at, run_in, AreTexts, IsWhole, AddsText}

untrue : ◌≡◌ {A = Bool} false true → ⊥
untrue h = cc

not_so : (t : Bool) → (t ≡ true → ⊥) → t ≡ false
not_so true h = absurd (h refl)
not_so false h = refl

-- ---- places

-- 16 bytes at a place lie within the texts
pub slot_within : (texts : List ℕ) (place : ℕ) → length (slot_at texts place) ≡ 16 → 16 * (place - 1) + 16 ≤ length texts
slot_within texts place size =
    let at = 16 * (place - 1) in
    omega (arith, size, length-take 16 (drop at texts), length-drop at texts)

-- they stay where more stands after
same_slot : (texts more : List ℕ) (place : ℕ) → length (slot_at texts place) ≡ 16 → slot_at (texts ++ more) place ≡ slot_at texts place
same_slot texts more place size =
    let at = 16 * (place - 1) in
    let room : at + 16 ≤ length texts = slot_within texts place size in
    ap (take 16) (drop-append-le at texts more (omega (arith, room))) ∙ take-append-le 16 (drop at texts) more (omega (arith, length-drop at texts, room))

-- those that were added last
last_slot : (texts slot : List ℕ) (many : ℕ) → length texts ≡ 16 * many → length slot ≡ 16 → slot_at (texts ++ slot) (many + 1) ≡ slot
last_slot texts slot many whole size =
    let at : 16 * (many + 1 - 1) ≡ length texts = omega (arith, whole) in
    ap (λ n. take 16 (drop n (texts ++ slot))) at ∙ ap (take 16) (drop_at texts slot (length texts) refl) ∙ take_all 16 slot (omega (arith, size))

-- only a byte has a place
placed_within : (index : List ℕ) (b : ℕ) → 0 < get_or index b 0 → b < length index
placed_within [] b h = absurd (omega (arith, h))
placed_within (x ∷ xs) zero h = omega arith
placed_within (x ∷ xs) (suc b) h = let rest = placed_within xs b h in omega (arith, rest)

none_there : (n b : ℕ) → ◌≡◌ {A = ℕ} (get_or (replicate n 0) b 0) 0
none_there zero b = refl
none_there (suc n) zero = refl
none_there (suc n) (suc b) = none_there n b

-- no byte has a place
pub nothing_held : (n : ℕ) (texts : List ℕ) (leaf : LeafOf) (names : List Named) → AreTexts (replicate n 0) texts leaf names
nothing_held n texts leaf names = record { hold = λ b place. absurd (omega (arith, place, none_there n b)) }

-- ---- names

differs : (n : ℤ) (b : ℕ) → (n ≡ pos b → ⊥) → int_eq n (pos b) ≡ false
differs n b h = not_so (int_eq n (pos b)) (λ is. h ((Decides-int_eq n (pos b)).0 is))

-- a name of another number stands before
other_first : (leaf : LeafOf) (names : List Named) (v : Named) (b run : ℕ) (slot : List ℕ) → (v.number ≡ pos b → ⊥) → IsTextOf (Enum leaf names) b slot run → IsTextOf (Enum leaf (v ∷ names)) b slot run
other_first leaf names v b run slot other h = record {
  size = h.size;
  few = h.few;
  name = h.name;
  named = ap (λ t. cond (is_byte leaf.prim && not (is_null leaf (pos b))) (cond t (Some v.name) (first_name names (pos b))) None) (differs v.number b other) ∙ h.named;
  text = h.text;
}

-- a name of the number stands first
own_first : (leaf : LeafOf) (names : List Named) (v : Named) (b : ℕ) (old new : List ℕ) → is_byte leaf.prim ≡ true → is_null leaf v.number ≡ false → v.number ≡ pos b → (a : AddsText old new v.name) →
    IsTextOf (Enum leaf (v ∷ names)) b a.slot (run_in a.slot)
own_first leaf names v b old new byte null is a = record {
  size = a.size;
  few = a.few;
  name = v.name;
  named =
      ap₂ (λ s t. cond (s && not t) (cond (int_eq v.number (pos b)) (Some v.name) (first_name names (pos b))) None) byte (ap (is_null leaf) (sym is) ∙ null)
      ∙ ap (λ t. cond t (Some v.name) (first_name names (pos b))) ((Decides-int_eq v.number (pos b)).1 is);
  text = a.text;
}

-- ---- one name more

-- its number is no byte
pub none_taken : (index texts : List ℕ) (leaf : LeafOf) (names : List Named) (v : Named) → length index ≡ 256 → ((b : ℕ) → b < 256 → v.number ≡ pos b → ⊥) → AreTexts index texts leaf names → AreTexts index texts leaf (v ∷ names)
none_taken index texts leaf names v size none h = record {
  hold = λ b place. other_first leaf names v b _ _ (none b (omega (arith, size, placed_within index b place))) (h.hold b place);
}

same_number : (a b : ℕ) → ◌≡◌ {A = ℤ} (pos a) (pos b) → a ≡ b
same_number a b h = cc

-- what another byte has
kept_text : (index texts more : List ℕ) (leaf : LeafOf) (names : List Named) (v : Named) (b : ℕ) → (v.number ≡ pos b → ⊥) → 0 < get_or index b 0 → AreTexts index texts leaf names →
    IsTextOf (Enum leaf (v ∷ names)) b (slot_at (texts ++ more) (get_or index b 0)) (run_in (slot_at (texts ++ more) (get_or index b 0)))
kept_text index texts more leaf names v b other place h =
    let was = h.hold b place in
    subst (λ s. IsTextOf (Enum leaf (v ∷ names)) b s (run_in s)) (sym (same_slot texts more (get_or index b 0) was.size)) (other_first leaf names v b _ _ other was)

-- the place of its number is set
place_set : (index texts more : List ℕ) (leaf : LeafOf) (names : List Named) (v : Named) (byte place : ℕ) → byte < length index → pos byte ≡ v.number → AreTexts index texts leaf names →
    (0 < place → IsTextOf (Enum leaf (v ∷ names)) byte (slot_at (texts ++ more) place) (run_in (slot_at (texts ++ more) place))) → AreTexts (set index byte place) (texts ++ more) leaf (v ∷ names)
place_set index texts more leaf names v byte place within is h own = record {
  hold = λ b has.
      elim (cases_eq b byte) [
        | inl same ↦
            let here : get_or (set index byte place) b 0 ≡ place = ap (λ k. get_or (set index byte place) k 0) same ∙ get_or-set_same index byte place 0 within in
            subst (λ k. IsTextOf (Enum leaf (v ∷ names)) k (slot_at (texts ++ more) (get_or (set index byte place) b 0)) (run_in (slot_at (texts ++ more) (get_or (set index byte place) b 0)))) (sym same)
            (subst (λ p. IsTextOf (Enum leaf (v ∷ names)) byte (slot_at (texts ++ more) p) (run_in (slot_at (texts ++ more) p))) (sym here) (own (omega (arith, has, here))))
        | inr other ↦
            let there : get_or (set index byte place) b 0 ≡ get_or index b 0 = get_or-set_other index byte b place 0 other in
            subst (λ p. IsTextOf (Enum leaf (v ∷ names)) b (slot_at (texts ++ more) p) (run_in (slot_at (texts ++ more) p))) (sym there)
            (kept_text index texts more leaf names v b (λ e. other (same_number b byte (sym e ∙ sym is))) (omega (arith, has, there)) h)
      ];
}

append_none : (xs : List ℕ) → xs ++ [] ≡ xs
append_none [] = refl
append_none (x ∷ xs) = ap (λ l. x ∷ l) (append_none xs)

-- the place of its number is taken away
pub place_cleared : (index texts : List ℕ) (leaf : LeafOf) (names : List Named) (v : Named) (byte : ℕ) → byte < length index → pos byte ≡ v.number → AreTexts index texts leaf names → AreTexts (set index byte 0) texts leaf (v ∷ names)
place_cleared index texts leaf names v byte within is h =
    subst (λ l. AreTexts (set index byte 0) l leaf (v ∷ names)) (append_none texts) (place_set index texts [] leaf names v byte 0 within is h (λ has. absurd (omega (arith, has))))

many_texts : (n many : ℕ) → n ≡ 16 * many → n / 16 ≡ many
many_texts n many is = ap (λ k. k / 16) is ∙ mul-div_cancel_left many (omega arith)

-- one text more
pub more_whole : (old new name : List ℕ) → IsWhole old → AddsText old new name → IsWhole new
more_whole old new name whole a = (whole.0 + 1, omega (arith, whole.1, ap length a.added, length-append old a.slot, a.size))

-- its text was added
pub text_added : (index old new : List ℕ) (leaf : LeafOf) (names : List Named) (v : Named) (byte place : ℕ) → byte < length index → pos byte ≡ v.number → is_byte leaf.prim ≡ true → is_null leaf v.number ≡ false →
    IsWhole old → place ≡ length old / 16 + 1 → AddsText old new v.name → AreTexts index old leaf names → AreTexts (set index byte place) new leaf (v ∷ names)
text_added index old new leaf names v byte place within is prim null whole at a h =
    let next : place ≡ whole.0 + 1 = omega (arith, at, many_texts (length old) whole.0 whole.1) in
    let stands : slot_at (old ++ a.slot) place ≡ a.slot = ap (slot_at (old ++ a.slot)) next ∙ last_slot old a.slot whole.0 whole.1 a.size in
    subst (λ l. AreTexts (set index byte place) l leaf (v ∷ names)) (sym a.added)
    (place_set index old a.slot leaf names v byte place within is h
    (λ has. subst (λ s. IsTextOf (Enum leaf (v ∷ names)) byte s (run_in s)) (sym stands) (own_first leaf names v byte old new prim null (sym is) a)))

-- ---- the bytes of a text

reassociated : (a q n r f c : List ℕ) → ((((a ++ q) ++ n) ++ r) ++ f) ++ c ≡ a ++ (((q ++ (n ++ r)) ++ f) ++ c)
reassociated a q n r f c =
    let text = q ++ (n ++ r) in
    let front : ((a ++ q) ++ n) ++ r ≡ a ++ text = ap (λ l. l ++ r) (append_assoc a q n) ∙ append_assoc a (q ++ n) r ∙ ap (λ l. a ++ l) (append_assoc q n r) in
    ap (λ l. (l ++ f) ++ c) front ∙ ap (λ l. l ++ c) (append_assoc a text f) ∙ append_assoc a (text ++ f) c

-- a name between quotes, what fills the 16 bytes, and the count
pub text_is : (old new name fill : List ℕ) (count : ℕ) → new ≡ ((((old ++ codes "\"") ++ name) ++ codes "\"") ++ fill) ++ (count ∷ []) →
    length name ≤ 13 → length fill ≡ 13 - length name → count ≡ length name + 2 → AddsText old new name
text_is old new name fill count added few long is =
    let text = between_quotes name in
    let slot = (text ++ fill) ++ count ∷ [] in
    let size : length text ≡ count = omega (arith, is, length-append (codes "\"") (name ++ codes "\""), length-append name (codes "\"")) in
    let front : length (text ++ fill) ≡ 15 = omega (arith, size, is, long, few, length-append text fill) in
    let run : run_in slot ≡ count = get_or_at (text ++ fill) count [] 0 15 front in
    record {
      slot = slot;
      added = added ∙ reassociated old (codes "\"") name (codes "\"") fill (count ∷ []);
      size = omega (arith, front, length-append (text ++ fill) (count ∷ []));
      few = omega (arith, run, is, few);
      text = ap (λ n. take n slot) run ∙ ap (take count) (append_assoc text fill (count ∷ [])) ∙ take_at text (fill ++ count ∷ []) count size;
    }

-- ---- what a look says

-- what a byte that has a name is
pub record IsNamedByte (leaf : LeafOf) (names : List Named) (b : ℕ) (name : List ℕ) : Type 0 where
  pub byte : is_byte leaf.prim ≡ true
  pub value : is_null leaf (pos b) ≡ false
  pub first : first_name names (pos b) ≡ Some name

both_tests : (s t : Bool) (o : Option (List ℕ)) (name : List ℕ) → cond (s && not t) o None ≡ Some name → (s ≡ true) × (t ≡ false) × (o ≡ Some name)
both_tests true true o name h = cc
both_tests true false o name h = (refl, refl, h)
both_tests false t o name h = cc

pub named_byte : (leaf : LeafOf) (names : List Named) (b : ℕ) (name : List ℕ) → byte_name (Enum leaf names) b ≡ Some name → IsNamedByte leaf names b name
named_byte leaf names b name h =
    let at = both_tests (is_byte leaf.prim) (is_null leaf (pos b)) (first_name names (pos b)) name h in
    record { byte = at.0; value = at.1; first = at.2 }
