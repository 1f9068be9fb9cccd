-- A command that has one reply to each piece has one report.
use Rattle.std.proofs.Common.{◌≡◌, ℕ, List, refl, sym, ap, ◌∙◌, subst}
use Rattle.open_framing.specs.Heads.{IsBytes}
use Rattle.command_steps.specs.Splits.{Piece, PieceEnd}
use Rattle.replies.specs.Reply.{Written}
use Rattle.command_steps.specs.Replies.{Answering, none_kept, Replies}
use Rattle.command_steps.specs.Ends.{Outcome, closed, PiecesReport}
use Rattle.command_steps.specs.declared.kept.Kept.{Kept}
use Rattle.command_steps.proofs.Splitting.{splits_once, splits_some}
use Rattle.command_steps.proofs.Folding.{AnswersOnce, replies_once, replies_some, splits_suit}

pub pieces_once : (on : Answering) (input : List ℕ) (a b : Outcome) → AnswersOnce on → PiecesReport on input a → PiecesReport on input b → a ≡ b
pieces_once on input a b placed h k =
    let cut = splits_once on.reading input h.0 k.0 h.1 k.1 h.4 k.4 in
    let there : Replies on none_kept k.0 h.2 h.3 = subst (λ (xs : List Piece). Replies on none_kept xs h.2 h.3) cut.0 h.5 in
    let same = replies_once on none_kept k.0 h.2 k.2 h.3 k.3 placed there k.5 in
    h.6 ∙ ap (λ (e : PieceEnd). closed on e h.2 h.3) cut.1 ∙ ap (λ (w : Written). closed on k.1 w h.3) same.0 ∙ ap (λ (n : Kept). closed on k.1 k.2 n) same.1 ∙ sym k.6

pub pieces_some : (on : Answering) (input : List ℕ) → AnswersOnce on → IsBytes input → (outcome : Outcome) × PiecesReport on input outcome
pieces_some on input placed good =
    let cut = splits_some on.reading input good in
    let all = replies_some on none_kept cut.0 placed (splits_suit on.reading input cut.0 cut.1 cut.2) in
    (closed on cut.1 all.0 all.1, (cut.0, cut.1, all.0, all.1, cut.2, all.2, refl))
