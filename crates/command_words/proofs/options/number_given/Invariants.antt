use Rattle.std.proofs.Common.{◌≡◌, length, map, string_bytes}
use Rattle.command_words.specs.Words.{values_of, number_by}
use Rattle.command_words.proofs.WordOptions.{number_after}
use Rattle.command_words.proofs.options.number_given.Given as goal

abbrev pub invariant-loop-left : goal.invariant-loop-left
invariant-loop-left l =
    number_after l.range l.given (values_of l.option (map (λ word. string_bytes word) l.left))
    ≡ number_by l.range (values_of l.option (map (λ word. string_bytes word) l.fn.options))

abbrev pub decreases-loop-left : goal.decreases-loop-left
decreases-loop-left l = length l.left
