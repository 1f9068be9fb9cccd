-- A take that a fault cut off and the one after it are one take.
use Rattle.std.proofs.Common.{◌≡◌, ◌+◌, ℕ, List, [], ◌∷◌, ◌++◌, length, take, Option, Some, None, Result, Ok, Err, sym, ap, ◌∙◌, subst, refl, arith, append_assoc, length-append}
use Rattle.std.specs.Prelude.{nat_lt}
use Rattle.std.proofs.Math.Seq.{take-append-add}
use Rattle.open_framing.proofs.PieceLemmas.{more_behind}
use Rattle.raw_fix.specs.declared.taken.Run.{Run}
use Rattle.raw_fix.specs.declared.taken.RawTaken.{RawTaken}
use Rattle.raw_fix.specs.declared.taken.RawTaken.TheVariants as taken
use Rattle.raw_fix.specs.declared.taken.RawErr.{RawErr}
use Rattle.raw_fix.specs.declared.taken.RawErr.TheVariants as err
use Rattle.raw_fix.specs.Raw.{Texts, Raw, End, InputLimit, IsItem, message}
use Rattle.raw_fix.specs.Stream.{RawState, IsCounted, Ahead, ahead, room, place, Garbles, LetsGo, Stuck, Unsettled, TakesBy}
use Rattle.raw_fix.proofs.ResumeLemmas.{in_front, lets_go_garbles, lets_go_more}
use Rattle.raw_fix.proofs.CourseLemmas.{none_gone, unsettled_by}

module _ (texts : Texts) (old mid : RawState) (stream left : List ℕ) (before : IsCounted old) (after : IsCounted mid) (same : mid.input ≡ old.input) (t : TakesBy texts old mid (record { stream = stream; left = left }) (Err err.ReadFault)) where
  abbrev gone : List ℕ
  gone = t.0

  abbrev rest : List ℕ
  rest = mid.held ++ left

  place_is : place mid ≡ place old + length gone
  place_is = omega (arith, t.2, before.there, before.within, after.there, after.within, same)

  bytes_are : take (room old) stream ≡ gone ++ take (room mid) rest
  bytes_are = ap (take (room old)) t.3 ∙ ap (λ k. take k (gone ++ rest)) t.2 ∙ take-append-add gone rest (room mid)

  goes_is : nat_lt (room old) (length stream) ≡ nat_lt (room mid) (length rest)
  goes_is = ap (λ x. nat_lt (room old) (length x)) t.3 ∙ ap (λ k. nat_lt k (length (gone ++ rest))) t.2 ∙ more_behind gone rest (room mid)

  ahead_is : ahead stream old ≡ in_front gone (ahead rest mid) (place old)
  ahead_is =
      ap (λ x. let n : Ahead = record { place = place old; bytes = x; goes_on = nat_lt (room old) (length stream) } in n) bytes_are
      ∙ ap (λ g. let n : Ahead = record { place = place old; bytes = gone ++ take (room mid) rest; goes_on = g } in n) goes_is

  lets : LetsGo texts (in_front gone (ahead rest mid) (place old)) gone old.run mid.run
  lets = subst (λ n. LetsGo texts n gone old.run mid.run) ahead_is t.1

  -- where no garbled item was begun, nothing was let go
  nothing : mid.run ≡ None → (old.run ≡ None) × (gone ≡ [])
  nothing none = none_gone texts (in_front gone (ahead rest mid) (place old)) gone old.run mid.run none lets

  stream_is : gone ≡ [] → stream ≡ rest
  stream_is none = t.3 ∙ ap (λ g. g ++ rest) none

  room_is : gone ≡ [] → room old ≡ room mid
  room_is none = omega (arith, t.2, ap length none)

  limit_on : (s : Option Run) → mid.run ≡ s → Unsettled texts rest (room mid) s → Unsettled texts stream (room old) old.run
  limit_on None is h =
      let none = nothing is in
      let raw : Raw texts stream (room old) [] InputLimit = subst (λ x. Raw texts x (room old) [] InputLimit) (sym (stream_is none.1)) (subst (λ k. Raw texts rest k [] InputLimit) (sym (room_is none.1)) h) in
      subst (λ r. Unsettled texts stream (room old) r) (sym none.0) raw
  limit_on (Some run) is h =
      let go = subst (λ g. LetsGo texts (record { place = place old; bytes = gone ++ take (room mid) rest; goes_on = g }) gone old.run mid.run) h.0 lets in
      unsettled_by texts stream (room old) (place old) gone (take (room mid) rest) old.run mid.run (goes_is ∙ h.0) bytes_are go (subst (λ s. Stuck texts (take (room mid) rest) s) (sym is) h.1)

  pub resumes : (new : RawState) (left' : List ℕ) (result : Result RawTaken RawErr) → TakesBy texts mid new (record { stream = rest; left = left' }) result → TakesBy texts old new (record { stream = stream; left = left' }) result
  resumes new left' (Ok taken.Message) h =
      let none = nothing h.0 in
      let here : IsItem texts (nat_lt (room old) (length rest)) (take (room old) rest) (message new.text) = subst (λ k. IsItem texts (nat_lt k (length rest)) (take k rest) (message new.text)) (sym (room_is none.1)) h.2 in
      let is : IsItem texts (nat_lt (room old) (length stream)) (take (room old) stream) (message new.text) = subst (λ x. IsItem texts (nat_lt (room old) (length x)) (take (room old) x) (message new.text)) (sym (stream_is none.1)) here in
      (none.0, h.1, is, room_is none.1 ∙ h.3, stream_is none.1 ∙ h.4)
  resumes new left' (Ok (taken.Garbled code at many)) h =
      let run : Run = record { code = code; at = at; length = many } in
      let whole = lets_go_garbles texts (ahead rest mid) (place old) gone h.0 old.run mid.run run place_is lets h.1 in (
        gone ++ h.0,
        subst (λ n. Garbles texts n (gone ++ h.0) old.run run) (sym ahead_is) whole,
        h.2,
        omega (arith, t.2, h.3, length-append gone h.0),
        t.3 ∙ ap (λ x. gone ++ x) h.4 ∙ sym (append_assoc gone h.0 (new.held ++ left')),
      )
  resumes new left' (Ok taken.End) h =
      let none = nothing h.0 in
      let raw : Raw texts stream (room old) [] End = subst (λ x. Raw texts x (room old) [] End) (sym (stream_is none.1)) (subst (λ k. Raw texts rest k [] End) (sym (room_is none.1)) h.1) in
      (none.0, raw, stream_is none.1 ∙ h.2)
  resumes new left' (Err err.InputLimit) h =
      (limit_on mid.run refl h.0, (gone ++ h.1.0, h.1.1, t.3 ∙ ap (λ x. gone ++ x) h.1.2 ∙ sym (append_assoc gone h.1.0 (new.held ++ h.1.1 ∷ left'))))
  resumes new left' (Err err.ReadFault) h =
      let whole = lets_go_more texts (ahead rest mid) (place old) gone h.0 old.run mid.run new.run place_is lets h.1 in (
        gone ++ h.0,
        subst (λ n. LetsGo texts n (gone ++ h.0) old.run new.run) (sym ahead_is) whole,
        omega (arith, t.2, h.2, length-append gone h.0),
        t.3 ∙ ap (λ x. gone ++ x) h.3 ∙ sym (append_assoc gone h.0 (new.held ++ left')),
      )
