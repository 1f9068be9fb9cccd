-- Frames one after another are cut into their items.
use Rattle.std.proofs.Common.{◌≡◌, ◌≢◌, ◌≤◌, ◌+◌, ◌-◌, ℕ, false, List, [], ◌∷◌, ◌++◌, length, map, refl, sym, ap, subst, arith, length-append}
use Rattle.std.specs.Prelude.{nat_lt, take}
use Rattle.std.specs.List.{AllByRecursion}
use Rattle.std.proofs.lemmas.Bool.Decides.{nat_tests}
use Rattle.sbe_base.specs.declared.status.Limits.{Limits}
use Rattle.open_framing.specs.Frames.{Cut, End, IsFrame, Item, end_of, frame_of}
use Rattle.open_framing.specs.Pieces.{concat_pieces}
use Rattle.open_framing.proofs.FrameLemmas.{cut_more}
use Rattle.command_steps.specs.Splits.{Frame, Frames, Splits, frames_end}
use Rattle.command_steps.specs.Splits as ends

none_taken : (n : ℕ) → ◌≡◌ {A = List ℕ} (take n []) []
none_taken n = grind arith

-- a frame has bytes
some_bytes : (item : Item) (more : List ℕ) → [] ≢ frame_of item ++ more
some_bytes item more h = cc

goes_no_further : (n : ℕ) → nat_lt n 0 ≡ false
goes_no_further n = grind (arith, nat_tests)

nothing_cut : (limit input : ℕ) → Cut [] limit input [] End
nothing_cut limit input = record {
  rest = [];
  pieces = record { whole = none_taken input; each = tt; longest = λ item more is. some_bytes item more };
  ends = ap (λ k. end_of limit k []) (sym (goes_no_further input));
}

frames_cut : (limit more : ℕ) (items : List Item) → AllByRecursion (IsFrame limit) items → Cut (concat_pieces frame_of items) limit (length (concat_pieces frame_of items) + more) items End
frames_cut limit more [] all = nothing_cut limit (0 + more)
frames_cut limit more (item ∷ items) all =
    let rest = concat_pieces frame_of items in
    let size : length (frame_of item) + (length rest + more) ≡ length (frame_of item ++ rest) + more = omega (arith, length-append (frame_of item) rest) in
    subst (λ n. Cut (frame_of item ++ rest) limit n (item ∷ items) End) size (cut_more rest limit (length rest + more) item items End all.0 (frames_cut limit more items all.1))

-- frames within the limits are split into their items
pub frames_split : (limits : Limits) (items : List Item) → AllByRecursion (IsFrame limits.frame) items → length (concat_pieces frame_of items) ≤ limits.input
    → Splits (Frames limits) (concat_pieces frame_of items) (map Frame items) ends.End
frames_split limits items all within =
    let size : length (concat_pieces frame_of items) + (limits.input - length (concat_pieces frame_of items)) ≡ limits.input = omega (arith, within) in
    let cut = subst (λ n. Cut (concat_pieces frame_of items) limits.frame n items End) size (frames_cut limits.frame (limits.input - length (concat_pieces frame_of items)) items all) in
    (items, End, cut, refl, refl)
