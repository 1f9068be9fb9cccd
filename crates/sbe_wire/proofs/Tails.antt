-- What is read of groups and data is what lies in them.
use Rattle.std.proofs.Common.{◌≡◌, ◌⊎◌, inl, inr, ℕ, ◌+◌, ◌≤◌, ◌<◌, Bool, true, false, cond, List, ◌++◌, length, take, drop, Result, Ok, Err, refl, sym, ap, ◌∙◌, subst, arith, length-append, length-take, length-drop}
use Rattle.std.proofs.Math.Seq.{take-append_seam, drop-append_seam}
use Rattle.std.proofs.lemmas.List.{take-append-drop, take-append-le}
use Rattle.std.proofs.lemmas.Bool.Decides.{nat_tests}
use Rattle.std.specs.Prelude.{not, ◌&&◌, nat_le, nat_lt, pos, codes}
use Rattle.sbe_types.specs.declared.kind.Order.{Order}
use Rattle.sbe_types.specs.declared.kind.Member.{Member}
use Rattle.sbe_types.specs.declared.schema.DataField.{DataField}
use Rattle.sbe_types.specs.declared.message.DataVal.{DataVal}
use Rattle.sbe_types.specs.declared.message.DataVal.TheVariants as dataval
use Rattle.sbe_types.specs.Numbers.{number_of, natural, prim_width}
use Rattle.sbe_types.specs.Places.{members_end}
use Rattle.sbe_types.specs.Shown.{admits}
use Rattle.sbe_wire.specs.declared.codes.FCode.TheVariants as code
use Rattle.sbe_wire.specs.Versions.{is_alive}
use Rattle.sbe_wire.specs.Named.{number_named, place_named, is_admitted}
use Rattle.sbe_wire.specs.Lays.{DataLies, DataLays}
use Rattle.sbe_wire.specs.Faults.{Fault, fault_at, TooShort, count_of, DataFault, DimensionRefused, DimensionFault, DimensionGood}
use Rattle.sbe_wire.specs.Reading.{Reader, bytes_read, read_and_check, data_whole, data_read, dimension_of, dimension_read}
use Rattle.sbe_wire.specs.Agree.{Reads}
use Rattle.sbe_wire.proofs.Combine.{ok_is, err_is, restated, so_many, choice, All, JudgedOf, JudgedFault, computed}
use Rattle.sbe_wire.proofs.Judging.{never}

-- ---- data

module _ (order : Order) (part : DataField) where
  abbrev w : ℕ
  w = prim_width part.length.prim

  abbrev count : List ℕ → ℕ
  count b = count_of order part b

  abbrev value_in : List ℕ → Result DataVal Fault
  value_in whole = Ok (dataval.Bytes (drop w whole))

  -- n bytes after the length number
  abbrev piece : ℕ → Reader DataVal
  piece n = read_and_check (bytes_read (w + n)) value_in

  abbrev PieceIs : ℕ → DataVal → List ℕ → Type 0
  PieceIs n = JudgedOf (λ x b. (length b ≡ w + n) × (x ≡ b)) (λ v whole. v ≡ dataval.Bytes (drop w whole))

  abbrev PieceFault : ℕ → Fault → List ℕ → Type 0
  PieceFault n = JudgedFault (TooShort (w + n)) (λ x b. (length b ≡ w + n) × (x ≡ b)) (λ f whole. ⊥)

  piece_reads : (n : ℕ) → Reads (piece n) (PieceIs n) (PieceFault n)
  piece_reads n =
      computed (bytes_read (w + n)) value_in (λ x b. (length b ≡ w + n) × (x ≡ b)) (TooShort (w + n)) All (λ v whole. v ≡ dataval.Bytes (drop w whole)) (λ f whole. ⊥)
      (so_many (w + n)) (λ x b h. tt)
      (record { sound = λ a v g h. sym (ok_is h); complete = λ a v h. ap Ok (sym h); told = λ a f g h. absurd (never h); only = λ a f h. absurd h })

  abbrev DataIs : DataVal → List ℕ → Type 0
  DataIs v b = (bytes : List ℕ) × (v ≡ dataval.Bytes bytes) × DataLies order part bytes b

  abbrev DataBad : Fault → List ℕ → Type 0
  DataBad fault b =
      TooShort w fault b
      ⊎ ((w ≤ length b)
      × (((admits part.length (pos (count b)) ≡ false) × (fault ≡ fault_at code.Length 0 (pos (count b))))
      ⊎ ((admits part.length (pos (count b)) ≡ true) × TooShort (w + count b) fault b)))

  -- the count stands in the first bytes
  count_in : (front rest : List ℕ) → w ≤ length front → count (front ++ rest) ≡ natural (number_of order part.length.prim (take w front))
  count_in front rest h = ap (λ b. natural (number_of order part.length.prim b)) (take-append-le w front rest h)

  abbrev answer : Bool → Bool → List ℕ → Result (DataVal × List ℕ) Fault
  answer t u b = cond t (cond u (piece (count b) b) (Err (fault_at code.Length 0 (pos (count b))))) (Err (fault_at code.Truncated 0 (pos w)))

  data_sound : (b : List ℕ) (v : DataVal) (rest : List ℕ) (t u : Bool) → admits part.length (pos (count b)) ≡ u → answer t u b ≡ Ok (v, rest) → (front : List ℕ) × (b ≡ front ++ rest) × DataIs v front
  data_sound b v rest false u d h = cc
  data_sound b v rest true false d h = cc
  data_sound b v rest true true d h =
      let found = (piece_reads (count b)).sound b v rest h in
      let front = found.0 in
      let long : length front ≡ w + count b = found.2.1.0 in
      let is : v ≡ dataval.Bytes (drop w front) = found.2.2 ∙ ap (λ k. dataval.Bytes (drop w k)) found.2.1.1 in
      let enough : w ≤ length front = omega (arith, long) in
      let counted : natural (number_of order part.length.prim (take w front)) ≡ count b = sym (count_in front rest enough) ∙ ap count (sym found.1) in
      let left : length (drop w front) ≡ count b = simp length-drop (omega (arith, long)) in (
        front,
        found.1,
        (
          drop w front,
          is,
          record {
            before = take w front;
            whole = sym (take-append-drop w front);
            wide = simp length-take (omega arith);
            counts = counted ∙ sym left;
            admitted = ap (λ n. admits part.length (pos n)) left ∙ d;
          },
        ),
      )

  data_complete : (v : DataVal) (front rest : List ℕ) → DataIs v front → data_whole order part (front ++ rest) ≡ Ok (v, rest)
  data_complete v front rest h =
      let lies = h.2 in
      let bytes = h.0 in
      let long : length front ≡ w + length bytes = omega (arith, ap length lies.whole, length-append lies.before bytes, lies.wide) in
      let enough : w ≤ length front = omega (arith, long) in
      let head : take w front ≡ lies.before = ap (take w) lies.whole ∙ ap (λ n. take n (lies.before ++ bytes)) (sym lies.wide) ∙ take-append_seam lies.before bytes in
      let body : drop w front ≡ bytes = ap (drop w) lies.whole ∙ ap (λ n. drop n (lies.before ++ bytes)) (sym lies.wide) ∙ drop-append_seam lies.before bytes in
      let counted : count (front ++ rest) ≡ length bytes = count_in front rest enough ∙ ap (λ k. natural (number_of order part.length.prim k)) head ∙ lies.counts in
      let t_is : nat_le w (length (front ++ rest)) ≡ true = grind (arith, nat_tests, length-append) in
      let u_is : admits part.length (pos (count (front ++ rest))) ≡ true = ap (λ n. admits part.length (pos n)) counted ∙ lies.admitted in
      let read : piece (length bytes) (front ++ rest) ≡ Ok (v, rest) = (piece_reads (length bytes)).complete v front rest (front, (long, refl), h.1 ∙ ap dataval.Bytes (sym body)) in
      ap (λ t. answer t (admits part.length (pos (count (front ++ rest)))) (front ++ rest)) t_is
      ∙ ap (λ u. answer true u (front ++ rest)) u_is
      ∙ ap (λ n. piece n (front ++ rest)) counted ∙ read

  data_told : (b : List ℕ) (f : Fault) (t u : Bool) → nat_le w (length b) ≡ t → admits part.length (pos (count b)) ≡ u → answer t u b ≡ Err f → DataBad f b
  data_told b f false u e d h = inl (grind (arith, nat_tests), sym (err_is h))
  data_told b f true false e d h = inr (grind (arith, nat_tests), inl (d, sym (err_is h)))
  data_told b f true true e d h = elim ((piece_reads (count b)).told b f h) [
    | inl k ↦ inr (grind (arith, nat_tests), inr (d, k))
    | inr k ↦ absurd k.5
  ]

  data_only : (b : List ℕ) (f : Fault) → DataBad f b → data_whole order part b ≡ Err f
  data_only b f h = elim h [
    | inl k ↦
        let t_is : nat_le w (length b) ≡ false = let short : length b < w = k.0 in grind (arith, nat_tests) in
        ap (λ t. answer t (admits part.length (pos (count b))) b) t_is ∙ ap Err (sym k.1)
    | inr k ↦
        let long : w ≤ length b = k.0 in
        let t_is : nat_le w (length b) ≡ true = grind (arith, nat_tests) in
        ap (λ t. answer t (admits part.length (pos (count b))) b) t_is ∙ elim k.1 [
          | inl j ↦ ap (λ u. answer true u b) j.0 ∙ ap Err (sym j.1)
          | inr j ↦ ap (λ u. answer true u b) j.0 ∙ (piece_reads (count b)).only b f (inl j.1)
        ]
  ]

  whole_reads : Reads (data_whole order part) DataIs DataBad
  whole_reads = record {
    sound = λ b v rest h. data_sound b v rest (nat_le w (length b)) (admits part.length (pos (count b))) refl h;
    complete = data_complete;
    told = λ b f h. data_told b f (nat_le w (length b)) (admits part.length (pos (count b))) refl refl h;
    only = data_only;
  }

  pub data_reads : (version : ℕ) → Reads (data_read order version part) (DataLays order version part) (DataFault order version part)
  data_reads version = choice (is_alive version part.since) (data_whole order part) dataval.Absent DataIs DataBad whole_reads

-- ---- a dimension

module _ (order : Order) (dim : List Member) (least : ℕ) where
  abbrev block_in : List ℕ → ℕ
  block_in head = number_named order dim (codes "blockLength") head

  abbrev count_in_dimension : List ℕ → ℕ
  count_in_dimension head = number_named order dim (codes "numInGroup") head

  abbrev choices : Bool → Bool → List ℕ → Result (ℕ × ℕ) Fault
  choices t u head =
      cond (not t) (Err (fault_at code.Count (place_named dim (codes "numInGroup")) (pos (count_in_dimension head))))
      (cond u (Err (fault_at code.BlockShort (place_named dim (codes "blockLength")) (pos (block_in head)))) (Ok (block_in head, count_in_dimension head)))

  abbrev adm : List ℕ → Bool
  adm head = is_admitted dim (codes "numInGroup") (count_in_dimension head)

  abbrev low : List ℕ → Bool
  low head = nat_lt 0 (count_in_dimension head) && nat_lt (block_in head) least

  not_low : (n k : ℕ) (t u : Bool) → nat_lt 0 n ≡ t → nat_lt k least ≡ u → (t && u) ≡ false → (n ≡ 0) ⊎ (least ≤ k)
  not_low n k false u e d h = inl (grind (arith, nat_tests))
  not_low n k true false e d h = inr (grind (arith, nat_tests))
  not_low n k true true e d h = cc

  is_low : (n k : ℕ) (t u : Bool) → nat_lt 0 n ≡ t → nat_lt k least ≡ u → (t && u) ≡ true → (0 < n) × (k < least)
  is_low n k false u e d h = cc
  is_low n k true false e d h = cc
  is_low n k true true e d h = (grind (arith, nat_tests), grind (arith, nat_tests))

  good_low : (n k : ℕ) → (n ≡ 0) ⊎ (least ≤ k) → (nat_lt 0 n && nat_lt k least) ≡ false
  good_low n k h = elim h [
    | inl e ↦ ap (λ n. nat_lt 0 n && nat_lt k least) e
    | inr e ↦ let t_is : nat_lt k least ≡ false = grind (arith, nat_tests) in ap (λ u. nat_lt 0 n && u) t_is ∙ and_false (nat_lt 0 n)
  ]
    where
      and_false : (t : Bool) → (t && false) ≡ false
      and_false true = refl
      and_false false = refl

  dimension_sound : (head : List ℕ) (d : ℕ × ℕ) (t u : Bool) → length head ≡ members_end 0 dim → adm head ≡ t → low head ≡ u → choices t u head ≡ Ok d → DimensionGood order dim least d head
  dimension_sound head d false u long e c h = cc
  dimension_sound head d true true long e c h = cc
  dimension_sound head d true false long e c h =
      let whole : DimensionGood order dim least (block_in head, count_in_dimension head) head =
      (record { wide = long; says_block = refl; says_count = refl; admitted = e }, not_low (count_in_dimension head) (block_in head) _ _ refl refl c) in
      subst (λ d. DimensionGood order dim least d head) (ok_is h) whole

  dimension_complete : (head : List ℕ) (d : ℕ × ℕ) → DimensionGood order dim least d head → dimension_of order dim least head ≡ Ok d
  dimension_complete head d h =
      let t_is : adm head ≡ true = ap (is_admitted dim (codes "numInGroup")) h.0.says_count ∙ h.0.admitted in
      let u_is : low head ≡ false = ap (λ n. nat_lt 0 n && nat_lt (block_in head) least) h.0.says_count ∙ ap (λ k. nat_lt 0 d.1 && nat_lt k least) h.0.says_block ∙ good_low d.1 d.0 h.1 in
      ap (λ t. choices t (low head) head) t_is ∙ ap (λ u. choices true u head) u_is
      ∙ ap (λ k. Ok (k, count_in_dimension head)) h.0.says_block ∙ ap (λ n. Ok (d.0, n)) h.0.says_count

  dimension_told : (head : List ℕ) (f : Fault) (t u : Bool) → adm head ≡ t → low head ≡ u → choices t u head ≡ Err f → DimensionRefused order dim least f head
  dimension_told head f false u e c h = inl (e, sym (err_is h))
  dimension_told head f true true e c h =
      let both = is_low (count_in_dimension head) (block_in head) _ _ refl refl c in
      inr (e, both.0, both.1, sym (err_is h))
  dimension_told head f true false e c h = absurd (never h)

  dimension_only : (head : List ℕ) (f : Fault) → DimensionRefused order dim least f head → dimension_of order dim least head ≡ Err f
  dimension_only head f h = elim h [
    | inl k ↦ ap (λ t. choices t (low head) head) k.0 ∙ ap Err (sym k.1)
    | inr k ↦
        let some : 0 < count_in_dimension head = k.1 in
        let short : block_in head < least = k.2 in
        let t_is : nat_lt 0 (count_in_dimension head) ≡ true = grind (arith, nat_tests) in
        let u_is : nat_lt (block_in head) least ≡ true = grind (arith, nat_tests) in
        ap (λ t. choices t (low head) head) k.0 ∙ ap (λ t. choices true (t && nat_lt (block_in head) least) head) t_is ∙ ap (λ u. choices true (true && u) head) u_is ∙ ap Err (sym k.3)
  ]

  dimension_fault_to : (f : Fault) (b : List ℕ) → JudgedFault (TooShort (members_end 0 dim)) (λ x b. (length b ≡ members_end 0 dim) × (x ≡ b)) (λ g head. DimensionRefused order dim least g head) f b → DimensionFault order dim least f b
  dimension_fault_to f b h = elim h [
    | inl e ↦ inl e
    | inr e ↦
        let front : e.1 ≡ take (members_end 0 dim) b = sym (ap (take (members_end 0 dim)) e.3 ∙ ap (λ n. take n (e.1 ++ e.2)) (sym e.4.0) ∙ take-append_seam e.1 e.2) in
        inr (omega (arith, ap length e.3, length-append e.1 e.2, e.4.0), subst (DimensionRefused order dim least f) (e.4.1 ∙ front) e.5)
  ]

  dimension_fault_from : (f : Fault) (b : List ℕ) → DimensionFault order dim least f b → JudgedFault (TooShort (members_end 0 dim)) (λ x b. (length b ≡ members_end 0 dim) × (x ≡ b)) (λ g head. DimensionRefused order dim least g head) f b
  dimension_fault_from f b h = elim h [
    | inl e ↦ inl e
    | inr e ↦
        let long : members_end 0 dim ≤ length b = e.0 in
        inr (take (members_end 0 dim) b, take (members_end 0 dim) b, drop (members_end 0 dim) b, sym (take-append-drop (members_end 0 dim) b), (simp length-take (omega arith), refl), e.1)
  ]

  pub dimension_reads : Reads (dimension_read order dim least) (DimensionGood order dim least) (DimensionFault order dim least)
  dimension_reads =
      restated (dimension_read order dim least)
      (JudgedOf (λ x b. (length b ≡ members_end 0 dim) × (x ≡ b)) (DimensionGood order dim least)) (DimensionGood order dim least)
      (JudgedFault (TooShort (members_end 0 dim)) (λ x b. (length b ≡ members_end 0 dim) × (x ≡ b)) (λ g head. DimensionRefused order dim least g head)) (DimensionFault order dim least)
      (λ d b h. subst (λ a. DimensionGood order dim least d a) h.1.1 h.2) (λ d b h. (b, (h.0.wide, refl), h))
      dimension_fault_to dimension_fault_from
      (computed (bytes_read (members_end 0 dim)) (dimension_of order dim least) (λ x b. (length b ≡ members_end 0 dim) × (x ≡ b)) (TooShort (members_end 0 dim)) (λ head. length head ≡ members_end 0 dim)
      (DimensionGood order dim least) (λ g head. DimensionRefused order dim least g head)
      (so_many (members_end 0 dim)) (λ x b h. ap length h.1 ∙ h.0)
      (record {
        sound = λ head d g h. dimension_sound head d (adm head) (low head) g refl refl h;
        complete = dimension_complete;
        told = λ head f g h. dimension_told head f (adm head) (low head) refl refl h;
        only = dimension_only;
      }))
