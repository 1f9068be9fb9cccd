use Rattle.std.proofs.Common.{◌≡◌, map, string_bytes, drop, find}
use Rattle.command_words.specs.Words.{fits, rows}
use Rattle.command_words.proofs.words.read_words.Given as goal

-- none of the forms so far fits
abbrev pub invariant-loop-place : goal.invariant-loop-place
invariant-loop-place l =
    find (λ row. fits row (map (λ word. string_bytes word) l.words)) (drop l.place rows)
    ≡ find (λ row. fits row (map (λ word. string_bytes word) l.words)) rows
