-- A front of a buffer that is passed over.
use Rattle.std.proofs.Common.{◌≡◌, ℕ, ◌≤◌, Bool, true, false, List, ◌++◌, length, take, drop, Option, Some, None, sym, ap, ◌∙◌, subst}
use Rattle.std.specs.Prelude.{if◌then◌else◌}
use Rattle.std.specs.Io.KnownBytes.{Consumes, prepend_known}
use Rattle.std.specs.Io.BufRead.{DropsConsumable}
use Rattle.std.proofs.lemmas.List.{take-append-drop, take-append-le}

-- the bytes that a buffered reader has, where it has room for any
abbrev known : Bool → List ℕ → Option (List ℕ) → Option (List ℕ)
known empty buffer inner = if empty then None else prepend_known buffer inner

pub passes : (empty : Bool) (buffer : List ℕ) (inner new : Option (List ℕ)) (n : ℕ) → n ≤ length buffer → DropsConsumable (known empty buffer inner) new (Some (length buffer)) n →
    Consumes (known empty buffer inner) new (take n buffer)
passes true buffer inner new n within dropped = tt
passes false buffer None new n within dropped = tt
passes false buffer (Some rest) new n within dropped =
    let front : take n (buffer ++ rest) ≡ take n buffer = take-append-le n buffer rest within in
    let all : buffer ++ rest ≡ take n buffer ++ drop n (buffer ++ rest) = sym (take-append-drop n (buffer ++ rest)) ∙ ap (λ t. t ++ drop n (buffer ++ rest)) front in
    subst (λ o. Consumes (Some (buffer ++ rest)) o (take n buffer)) (sym (dropped within)) all
