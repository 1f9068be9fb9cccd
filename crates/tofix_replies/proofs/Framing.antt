-- The bytes of a frame.
use Rattle.std.proofs.Common.{◌≡◌, ◌+◌, ◌++◌, ℕ, List, length, ap, append_assoc, ◌∙◌}
use Rattle.byte_digits.specs.Digits.{digits_high_first}
use Rattle.open_framing.specs.Frames.{frame}
use Rattle.open_framing.specs.declared.head.TheConstants.{HEAD_BYTES}

-- the head of a frame, and its body after it
pub head_is : (encoding : ℕ) (body head : List ℕ) → head ≡ digits_high_first 4 (length body + HEAD_BYTES) ++ digits_high_first 2 encoding → head ++ body ≡ frame encoding body
head_is encoding body head h = ap (λ x. x ++ body) h ∙ append_assoc (digits_high_first 4 (length body + HEAD_BYTES)) (digits_high_first 2 encoding) body
