use Rattle.std.proofs.Common.{◌≡◌, length, map, string_bytes}
use Rattle.command_words.specs.Words.{are_options}
use Rattle.command_words.proofs.forms.Row.takes_all.Given as goal

abbrev pub invariant-loop-left : goal.invariant-loop-left
invariant-loop-left l =
    are_options l.self.options (map (λ word. string_bytes word) l.left)
    ≡ are_options l.self.options (map (λ word. string_bytes word) l.fn.options)

abbrev pub decreases-loop-left : goal.decreases-loop-left
decreases-loop-left l = length l.left
