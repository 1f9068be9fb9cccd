use Rattle.std.proofs.Common.{◌≡◌, ◌++◌, length, map, string_bytes}
use Rattle.command_words.specs.Words.{values_of}
use Rattle.command_words.proofs.words.values_of.Given as goal

-- the values so far, and those of what is left
abbrev pub invariant-loop-left : goal.invariant-loop-left
invariant-loop-left l =
    l.names ++ values_of l.option (map (λ word. string_bytes word) l.left)
    ≡ values_of l.option (map (λ word. string_bytes word) l.fn.options)

abbrev pub decreases-loop-left : goal.decreases-loop-left
decreases-loop-left l = length l.left
