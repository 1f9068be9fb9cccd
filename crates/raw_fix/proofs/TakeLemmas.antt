-- What a stream takes, by what its items tell; and what is taken one after another.
use Rattle.std.proofs.Common.{◌≡◌, ◌+◌, ◌-◌, ℕ, List, [], ◌∷◌, ◌++◌, length, take, Some, None, Ok, Err, Result, Option, refl, sym, ap, ◌∙◌, subst, arith, length-drop}
use Rattle.std.specs.Prelude.{nat_lt}
use Rattle.std.proofs.Math.Seq.{take-append-add, take-append_seam}
use Rattle.open_framing.proofs.PieceLemmas.{more_behind}
use Rattle.frame_stream.specs.Window.{let_go_of}
use Rattle.tagvalue_codec.specs.declared.data_tags.Pair.{Pair}
use Rattle.tagvalue_codec.specs.declared.table.FixField.{FixField}
use Rattle.raw_fix.specs.declared.taken.RawTaken.{RawTaken}
use Rattle.raw_fix.specs.declared.taken.RawTaken.TheVariants as taken
use Rattle.raw_fix.specs.declared.taken.RawErr.{RawErr}
use Rattle.raw_fix.specs.declared.taken.RawErr.TheVariants as err
use Rattle.raw_fix.specs.declared.taken.RawEnded.{RawEnded}
use Rattle.raw_fix.specs.declared.taken.RawEnded.TheVariants as ended
use Rattle.raw_fix.specs.declared.taken.Run.{Run}
use Rattle.raw_fix.specs.declared.items.Settled.{Settled}
use Rattle.raw_fix.specs.declared.items.Settled.TheVariants as settled
use Rattle.raw_fix.specs.Raw.{Texts, Item, Garbled, IsItem, item_bytes, Raw}
use Rattle.raw_fix.specs.Stream.{RawState, RawBetween, ahead, room, Garbles, Unsettled, TakesBy, item_of_answer, TakesItems, raw_end}
use Rattle.raw_fix.specs.Items.{ItemState, IsRawStream, Nexts, raw_shown, settled_answer, text_length}
use Rattle.raw_fix.specs.Taking.{Lefts, TakesRaw, RawTextOf, TableOf, RawCause, end_answer, raw_ended_of}
use Rattle.raw_fix.proofs.RawLemmas.{raw_more}

-- the text taken before is let go first
module _ (texts : Texts) (s new : ItemState) (text : ℕ) (end : Option RawEnded) (lefts : Lefts) where
  abbrev from : ItemState
  from = record { held = let_go_of text s.held; begun = s.begun; met = s.met }

  abbrev Takes : Result Settled RawErr → Type 0
  Takes result = TakesRaw texts (raw_shown text s end) (raw_shown (text_length result) new (raw_ended_of (settled_answer result))) lefts (settled_answer result)

  pub takes_next : (result : Result Settled RawErr) → Nexts texts from new lefts result → Takes result
  takes_next (Ok (settled.Message n)) h = record { from = h.from; falls = h.falls; held = h.held; comes = h.comes; meets = h.meets; ended = refl; counted = record { there = omega (arith, h.there, length-drop n new.held.bytes); within = h.within }; most = ap (λ k. k - 6) h.size; input = h.limit }
  takes_next (Ok (settled.Garbled run)) h = record { from = h.from; falls = h.falls; held = h.held; comes = h.comes; meets = h.meets; ended = refl; counted = record { there = h.there; within = h.within }; most = ap (λ k. k - 6) h.size; input = h.limit }
  takes_next (Ok settled.End) h = record { from = h.from; falls = h.falls; held = h.held; comes = h.comes; meets = h.meets; ended = refl; counted = record { there = h.there; within = h.within }; most = ap (λ k. k - 6) h.size; input = h.limit }
  takes_next (Err err.InputLimit) h = record { from = h.from; falls = h.falls; held = h.held; comes = h.comes; meets = h.meets; ended = refl; counted = record { there = h.there; within = h.within }; most = ap (λ k. k - 6) h.size; input = h.limit }
  takes_next (Err err.ReadFault) h = record { from = h.from; falls = h.falls; held = h.held; comes = h.comes; meets = h.meets; ended = refl; counted = record { there = h.there; within = h.within }; most = ap (λ k. k - 6) h.size; input = h.limit }

-- ---- an end that stays

pub ended_text : (text : ℕ) (s : ItemState) (end : Option RawEnded) (e : RawEnded) → IsRawStream text s.held end → end ≡ Some e → RawTextOf (raw_shown text s end) (end_answer e)
ended_text text s end e is at = by_end e where
  none : take text s.held.bytes ≡ []
  none = ap (λ k. take k s.held.bytes) (is.ended e at)

  by_end : (told : RawEnded) → RawTextOf (raw_shown text s end) (end_answer told)
  by_end ended.End = none
  by_end ended.Limit = none

pub ended_table : (tags : List Pair) (text : List ℕ) (table : List FixField) (e : RawEnded) → table ≡ [] → TableOf tags text (end_answer e) table
ended_table tags text table ended.End none = none
ended_table tags text table ended.Limit none = none

pub ended_cause : (faults : ℕ) (e : RawEnded) → RawCause faults faults (end_answer e)
ended_cause faults ended.End = refl
ended_cause faults ended.Limit = refl

-- ---- one after another

-- the item stands at the front of the stream, and the rest is that of the next state
record Stands (texts : Texts) (old next : RawState) (b : RawBetween) (item : Item) : Type 0 where
  is : IsItem texts (nat_lt (room old) (length b.stream)) (take (room old) b.stream) item
  fresh : next.run ≡ None
  falls : room old ≡ length (item_bytes item) + room next
  whole : b.stream ≡ item_bytes item ++ (next.held ++ b.left)

some_is : {A : Type 0} {x y : A} → Some x ≡ Some y → x ≡ y
some_is e = cc

item_stands : (texts : Texts) (old next : RawState) (b : RawBetween) (told : RawTaken) (item : Item) → old.run ≡ None → TakesBy texts old next b (Ok told) → item_of_answer b.stream next told ≡ Some item → Stands texts old next b item
item_stands texts old next b taken.Message item none t e = subst (Stands texts old next b) (some_is e) (record { is = t.2; fresh = t.1; falls = t.3; whole = t.4 })
item_stands texts old next b (taken.Garbled code at many) item none t e =
    let run : Run = record { code = code; at = at; length = many } in
    let garbles : Garbles texts (ahead b.stream old) t.0 None run = subst (λ r. Garbles texts (ahead b.stream old) t.0 r run) none t.1 in
    let front : take many b.stream ≡ t.0 = ap (take many) t.4 ∙ ap (λ k. take k (t.0 ++ (next.held ++ b.left))) garbles.2 ∙ take-append_seam t.0 (next.held ++ b.left) in
    let same : record { kind = Garbled code; bytes = t.0 } ≡ item = ap (λ x. let i : Item = record { kind = Garbled code; bytes = x } in i) (sym front) ∙ some_is e in
    subst (Stands texts old next b) same (record { is = garbles.0; fresh = t.2; falls = t.3; whole = t.4 })
item_stands texts old next b taken.End item none t e = cc

-- the same item by the bytes after it
item_in_front : (texts : Texts) (front stream : List ℕ) (most : ℕ) (item : Item) → IsItem texts (nat_lt (length front + most) (length (front ++ stream))) (take (length front + most) (front ++ stream)) item →
    IsItem texts (nat_lt most (length stream)) (front ++ take most stream) item
item_in_front texts front stream most item is =
    subst (λ y. IsItem texts (nat_lt most (length stream)) y item) (take-append-add front stream most) (subst (λ t. IsItem texts t (take (length front + most) (front ++ stream)) item) (more_behind front stream most) is)

raw_by_end : (texts : Texts) (next new : RawState) (b : RawBetween) (end : RawEnded) → next.run ≡ None → TakesBy texts next new b (end_answer end) → Raw texts b.stream (room next) [] (raw_end end)
raw_by_end texts next new b ended.End none t = t.1
raw_by_end texts next new b ended.Limit none t = subst (λ r. Unsettled texts b.stream (room next) r) none t.0

pub takes_are_items : (texts : Texts) (items : List Item) (old next new : RawState) (b : RawBetween) (left' : List ℕ) (end : RawEnded) → old.run ≡ None → TakesItems texts items old next b →
    TakesBy texts next new (record { stream = b.left; left = left' }) (end_answer end) → Raw texts b.stream (room old) items (raw_end end)
takes_are_items texts [] old next new b left' end none h t =
    let last = raw_by_end texts next new (record { stream = b.left; left = left' }) end (ap (λ (s : RawState). s.run) h.1 ∙ none) t in
    subst (λ x. Raw texts x (room old) [] (raw_end end)) (sym h.0) (subst (λ (s : RawState). Raw texts b.left (room s) [] (raw_end end)) h.1 last)
takes_are_items texts (item ∷ items) old next new b left' end none h t =
    let mid = h.1 in
    let stream = mid.held ++ h.2 in
    let front = item_bytes item in
    let at = item_stands texts old mid (record { stream = b.stream; left = h.2 }) h.0 item none h.3 h.4 in
    let later = takes_are_items texts items mid next new (record { stream = stream; left = b.left }) left' end at.fresh h.5 t in
    let whole : IsItem texts (nat_lt (room old) (length (front ++ stream))) (take (room old) (front ++ stream)) item = subst (λ x. IsItem texts (nat_lt (room old) (length x)) (take (room old) x) item) at.whole at.is in
    let is : IsItem texts (nat_lt (length front + room mid) (length (front ++ stream))) (take (length front + room mid) (front ++ stream)) item =
    subst (λ n. IsItem texts (nat_lt n (length (front ++ stream))) (take n (front ++ stream)) item) at.falls whole in
    let all = raw_more texts stream (room mid) item items (raw_end end) (item_in_front texts front stream (room mid) item is) later in
    subst (λ x. Raw texts x (room old) (item ∷ items) (raw_end end)) (sym at.whole) (subst (λ n. Raw texts (front ++ stream) n (item ∷ items) (raw_end end)) (sym at.falls) all)
