-- What is remembered, as bytes are released and more come, and as it is used.
use Rattle.std.proofs.Common.{◌≡◌, ℕ, ◌+◌, ◌-◌, ◌<◌, ◌≤◌, ◌%◌, List, ◌++◌, length, take, drop, set, sum, sym, ap, ◌∙◌, subst, arith, length-append, length-drop, take-add, drop-drop}
use Rattle.std.specs.List.{AllByRecursion}
use Rattle.std.proofs.lemmas.List.{take-append-le, drop-append-le}
use Rattle.std.proofs.lemmas.List.Sums.{sum_by-append}
use Rattle.tagvalue_codec.specs.Reading.{plain_len}
use Rattle.tagvalue_codec.proofs.Lists.{plain_front}
use Rattle.raw_walk.specs.declared.ends.End.{End}
use Rattle.raw_walk.specs.declared.ends.Ends.{Ends}
use Rattle.raw_walk.specs.declared.sums.SumAt.{SumAt}
use Rattle.raw_walk.specs.declared.sums.Sums.{Sums}
use Rattle.raw_walk.specs.declared.recall.Recall.{Recall}
use Rattle.raw_walk.specs.Recalled.{Held, held_at, IsEnd, AreEnds, IsSumAt, IsCell, IsLast, AreSums, Recalls}
use Rattle.raw_walk.proofs.Alls.{all_set, all_to}

sum_append : (xs ys : List ℕ) → sum (xs ++ ys) ≡ sum xs + sum ys
sum_append xs ys = sum_by-append (λ x. x) xs ys

-- ---- bytes are released

end_left : (place n : ℕ) (bytes : List ℕ) (e : End) → n ≤ length bytes → IsEnd (held_at place bytes) e → IsEnd (held_at (place + n) (drop n bytes)) e
end_left place n bytes e low is = λ from some.
    let r = is (omega (arith, from)) some in
    let there : n + (e.from - (place + n)) ≡ e.from - place = omega (arith, from) in
    record {
      within = omega (arith, r.within, length-drop n bytes, low);
      plain = ap (λ b. e.from + plain_len b) (drop-drop (e.from - (place + n)) n bytes ∙ ap (λ k. drop k bytes) there) ∙ r.plain;
    }

pub ends_left : (place n : ℕ) (bytes : List ℕ) (ends : Ends) → n ≤ length bytes → AreEnds (held_at place bytes) ends → AreEnds (held_at (place + n) (drop n bytes)) ends
ends_left place n bytes ends low are = record {
  some = are.some;
  each = all_to (IsEnd (held_at place bytes)) (IsEnd (held_at (place + n) (drop n bytes))) ends.cells.items (λ e is. end_left place n bytes e low is) are.each;
}

-- the sum up to a place is that of what is released and of what is left up to it
sum_left : (n k : ℕ) (bytes : List ℕ) → sum (take (n + k) bytes) ≡ sum (take n bytes) + sum (take k (drop n bytes))
sum_left n k bytes = ap sum (take-add n k bytes) ∙ sum_append (take n bytes) (take k (drop n bytes))

at_left : (place n before : ℕ) (bytes : List ℕ) (s : SumAt) → place + n ≤ s.at → IsSumAt (held_at place bytes) before s → IsSumAt (held_at (place + n) (drop n bytes)) (before + sum (take n bytes)) s
at_left place n before bytes s low is =
    let k = s.at - (place + n) in
    let there : s.at - place ≡ n + k = omega (arith, low) in
    let all : before + sum (take (s.at - place) bytes) ≡ before + sum (take n bytes) + sum (take k (drop n bytes)) = omega (arith, ap (λ j. sum (take j bytes)) there ∙ sum_left n k bytes) in
    is ∙ ap (λ j. j % 256) all

pub sums_left : (place n : ℕ) (bytes : List ℕ) (s : Sums) → n ≤ length bytes → AreSums (held_at place bytes) s → AreSums (held_at (place + n) (drop n bytes)) s
sums_left place n bytes s low are =
    let before = are.before + sum (take n bytes) in
    record {
      before = before;
      some = are.some;
      each = all_to (IsCell (held_at place bytes) are.before s.last) (IsCell (held_at (place + n) (drop n bytes)) before s.last) s.cells.items
          (λ c is at. let r = is (omega (arith, at)) in (r.0, at_left place n are.before bytes c at r.1)) are.each;
      last = λ at. let r = are.last (omega (arith, at)) in record { within = omega (arith, r.within, length-drop n bytes, low); is = at_left place n are.before bytes s.last at r.is };
    }

pub recalls_left : (place n : ℕ) (bytes : List ℕ) (r : Recall) → n ≤ length bytes → Recalls (held_at place bytes) r → Recalls (held_at (place + n) (drop n bytes)) r
recalls_left place n bytes r low are = record { ends = ends_left place n bytes r.ends low are.ends; sums = sums_left place n bytes r.sums low are.sums }

-- ---- more bytes come

end_more : (place : ℕ) (bytes more : List ℕ) (e : End) → IsEnd (held_at place bytes) e → IsEnd (held_at place (bytes ++ more)) e
end_more place bytes more e is = λ from some.
    let r = is from some in
    let k = e.from - place in
    let low : k ≤ length bytes = omega (arith, from, some, r.within) in
    let less : plain_len (drop k bytes) < length (drop k bytes) = omega (arith, r.within, r.plain, from, length-drop k bytes) in
    record {
      within = omega (arith, r.within, length-append bytes more);
      plain = ap (λ b. e.from + plain_len b) (drop-append-le k bytes more low) ∙ ap (λ n. e.from + n) (plain_front (drop k bytes) more less) ∙ r.plain;
    }

at_more : (place before : ℕ) (bytes more : List ℕ) (s : SumAt) → s.at ≤ place + length bytes → IsSumAt (held_at place bytes) before s → IsSumAt (held_at place (bytes ++ more)) before s
at_more place before bytes more s low is =
    let within : s.at - place ≤ length bytes = omega (arith, low) in
    is ∙ ap (λ b. (before + sum b) % 256) (sym (take-append-le (s.at - place) bytes more within))

pub recalls_more : (place : ℕ) (bytes more : List ℕ) (r : Recall) → Recalls (held_at place bytes) r → Recalls (held_at place (bytes ++ more)) r
recalls_more place bytes more r are =
    let sums = are.sums in
    record {
      ends = record {
        some = are.ends.some;
        each = all_to (IsEnd (held_at place bytes)) (IsEnd (held_at place (bytes ++ more))) r.ends.cells.items (λ e is. end_more place bytes more e is) are.ends.each;
      };
      sums = record {
        before = sums.before;
        some = sums.some;
        each = all_to (IsCell (held_at place bytes) sums.before r.sums.last) (IsCell (held_at place (bytes ++ more)) sums.before r.sums.last) r.sums.cells.items
            (λ c is at. let x = is at in let within = (sums.last (omega (arith, at, x.0))).within in (x.0, at_more place sums.before bytes more c (omega (arith, within, x.0)) x.1)) sums.each;
        last = λ at. let x = sums.last at in record { within = omega (arith, x.within, length-append bytes more); is = at_more place sums.before bytes more r.sums.last x.within x.is };
      };
    }

-- ---- it is used

-- a value that was searched
pub end_found : (place : ℕ) (bytes : List ℕ) (from to : ℕ) → to < length bytes → to ≡ from + plain_len (drop from bytes) → IsEnd (held_at place bytes) (record { from = place + from; to = place + to })
end_found place bytes from to within is = λ low some.
    let here : place + from - place ≡ from = omega arith in
    record { within = omega (arith, within); plain = ap (λ k. place + from + plain_len (drop k bytes)) here ∙ omega (arith, is) }

-- a value that is remembered
pub end_known : (place : ℕ) (bytes : List ℕ) (from : ℕ) (e : End) → e.from ≡ place + from → e.from < e.to → IsEnd (held_at place bytes) e → (place ≤ e.to) × (e.to - place ≡ from + plain_len (drop from bytes))
end_known place bytes from e at some is =
    let r = is (omega (arith, at)) some in
    let here : e.from - place ≡ from = omega (arith, at) in
    let plain : e.from + plain_len (drop from bytes) ≡ e.to = ap (λ k. e.from + plain_len (drop k bytes)) (sym here) ∙ r.plain in
    (omega (arith, at, some), omega (arith, plain, at))

-- one more end
pub ends_put : (h : Held) (old new : Ends) (i : ℕ) (e : End) → new.cells.items ≡ set old.cells.items i e → length new.cells.items ≡ length old.cells.items → AreEnds h old → IsEnd h e → AreEnds h new
ends_put h old new i e is long are one = record {
  some = omega (arith, long, are.some);
  each = subst (AllByRecursion (IsEnd h)) (sym is) (all_set (IsEnd h) old.cells.items i e are.each one);
}

-- the sum of some bytes, from two sums
between : (before first end to low high near : ℕ) (bytes : List ℕ) → end ≤ to → low ≡ (before + sum (take first bytes)) % 256 → high ≡ (before + sum (take end bytes)) % 256 →
    near ≡ sum (take first bytes) % 256 + sum (take (to - end) (drop end bytes)) % 256 → (near + 256 + high - low) % 256 ≡ sum (take to bytes) % 256
between before first end to low high near bytes low_end is_low is_high is_near =
    let a = sum (take first bytes) in
    let b = sum (take end bytes) in
    let c = sum (take (to - end) (drop end bytes)) in
    let there : to ≡ end + (to - end) = omega (arith, low_end) in
    let all : sum (take to bytes) ≡ b + c = ap (λ k. sum (take k bytes)) there ∙ sum_left end (to - end) bytes in
    omega (arith, all, is_low, is_high, is_near)

-- a remembered sum of the first bytes
pub sum_known : (place k before : ℕ) (bytes : List ℕ) (last s : SumAt) → s.at ≡ place + k → IsCell (held_at place bytes) before last s → s.sum ≡ (before + sum (take k bytes)) % 256
sum_known place k before bytes last s at is =
    let here : s.at - place ≡ k = omega (arith, at) in
    (is (omega (arith, at))).1 ∙ ap (λ j. (before + sum (take j bytes)) % 256) here

pub sum_between : (place first end to near : ℕ) (bytes : List ℕ) (s : Sums) (low high : SumAt) → AreSums (held_at place bytes) s → end ≤ to → low.at ≡ place + first → high.at ≡ place + end →
    ((h : Held) (before : ℕ) → AllByRecursion (IsCell h before s.last) s.cells.items → IsCell h before s.last low) → ((h : Held) (before : ℕ) → AllByRecursion (IsCell h before s.last) s.cells.items → IsCell h before s.last high) →
    near ≡ sum (take first bytes) % 256 + sum (take (to - end) (drop end bytes)) % 256 → (near + 256 + high.sum - low.sum) % 256 ≡ sum (take to bytes) % 256
sum_between place first end to near bytes s low high are low_end at_low at_high is_low is_high is_near =
    between are.before first end to low.sum high.sum near bytes low_end (sum_known place first are.before bytes s.last low at_low (is_low (held_at place bytes) are.before are.each))
    (sum_known place end are.before bytes s.last high at_high (is_high (held_at place bytes) are.before are.each)) is_near

-- one more sum, at a place after the last one
pub sums_put : (place : ℕ) (bytes : List ℕ) (old new : Sums) (i : ℕ) (x : SumAt) (before : ℕ) → new.cells.items ≡ set old.cells.items i x → new.last ≡ x → 0 < length new.cells.items →
    AllByRecursion (λ c. place ≤ c.at → (c.at ≤ x.at) × IsSumAt (held_at place bytes) before c) old.cells.items → x.at ≤ place + length bytes → IsSumAt (held_at place bytes) before x → AreSums (held_at place bytes) new
sums_put place bytes old new i x before is last some each within one =
    let h = held_at place bytes in
    let here : AllByRecursion (IsCell h before x) new.cells.items = subst (AllByRecursion (IsCell h before x)) (sym is) (all_set (IsCell h before x) old.cells.items i x each (λ low. (omega arith, one))) in
    record {
      before = before;
      some = some;
      each = subst (λ l. AllByRecursion (IsCell h before l) new.cells.items) (sym last) here;
      last = λ low. subst (IsLast h before) (sym last) (record { within = within; is = one });
    }

-- a new beginning after all places
pub sums_begin : (place : ℕ) (bytes : List ℕ) (old new : Sums) (i : ℕ) (x : SumAt) → new.cells.items ≡ set old.cells.items i x → new.last ≡ x → x.at ≡ place → x.sum ≡ 0 → old.last.at < place → 0 < length new.cells.items → AreSums (held_at place bytes) old → AreSums (held_at place bytes) new
sums_begin place bytes old new i x is last at none beyond some are =
    let h = held_at place bytes in
    let here : x.at - place ≡ 0 = omega (arith, at) in
    sums_put place bytes old new i x 0 is last some
    (all_to (IsCell h are.before old.last) (λ c. place ≤ c.at → (c.at ≤ x.at) × IsSumAt h 0 c) old.cells.items (λ c was low. absurd (omega (arith, (was low).0, low, beyond))) are.each)
    (omega (arith, at))
    (none ∙ ap (λ k. (0 + sum (take k bytes)) % 256) (sym here))

-- a sum of some bytes more
pub sums_extend : (place width : ℕ) (bytes : List ℕ) (old new : Sums) (i : ℕ) (x : SumAt) → new.cells.items ≡ set old.cells.items i x → new.last ≡ x → 0 < length new.cells.items → place ≤ old.last.at → AreSums (held_at place bytes) old →
    x.at ≡ old.last.at + width → x.at ≤ place + length bytes → x.sum ≡ (old.last.sum + sum (take width (drop (old.last.at - place) bytes)) % 256) % 256 → AreSums (held_at place bytes) new
sums_extend place width bytes old new i x is last some low are at within sum_is =
    let h = held_at place bytes in
    let k = old.last.at - place in
    let there : x.at - place ≡ k + width = omega (arith, at, low) in
    let was : old.last.sum ≡ (are.before + sum (take k bytes)) % 256 = (are.last low).is in
    let all : sum (take (x.at - place) bytes) ≡ sum (take k bytes) + sum (take width (drop k bytes)) = ap (λ j. sum (take j bytes)) there ∙ sum_left k width bytes in
    sums_put place bytes old new i x are.before is last some
    (all_to (IsCell h are.before old.last) (λ c. place ≤ c.at → (c.at ≤ x.at) × IsSumAt h are.before c) old.cells.items (λ c was low. let w = was low in (omega (arith, w.0, at), w.1)) are.each)
    within (omega (arith, sum_is, was, all))
