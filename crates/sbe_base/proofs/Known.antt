-- Known bytes that are added in steps.
use Rattle.std.proofs.Common.{◌≡◌, ℕ, ◌+◌, ◌-◌, List, ◌++◌, length, take, drop, Option, Some, None, sym, ap, ◌∙◌, arith, append_assoc}
use Rattle.std.specs.Io.KnownBytes.{Appends, Keeps}
use Rattle.std.proofs.lemmas.List.{take-append-drop}
use Rattle.std.proofs.Math.Seq.{take-add}
use Rattle.std.proofs.lemmas.Slice.{between_to_end}
use Rattle.sbe_base.specs.Causes.{AppendsPart}

-- what is appended twice, is appended as one
pub appends_more : (a b c : Option (List ℕ)) (x y : List ℕ) → Appends a b x → Appends b c y → Appends a c (x ++ y)
appends_more None b c x y h k = tt
appends_more (Some a) None c x y h k = absurd h
appends_more (Some a) (Some b) None x y h k = absurd k
appends_more (Some a) (Some b) (Some c) x y h k = k ∙ ap (λ r. r ++ y) h ∙ append_assoc a x y

-- a call that keeps the bytes appends nothing more
pub appends_kept : (a b c : Option (List ℕ)) (x : List ℕ) → Appends a b x → Keeps b c → Appends a c x
appends_kept None b c x h k = tt
appends_kept (Some a) None c x h k = absurd h
appends_kept (Some a) (Some b) None x h k = absurd k
appends_kept (Some a) (Some b) (Some c) x h k = k ∙ h

-- a front by its length is a front
pub part_of_front : (old new : Option (List ℕ)) (bytes : List ℕ) (n : ℕ) → Appends old new (take n bytes) → AppendsPart old new bytes
part_of_front old new bytes n h = (take n bytes, drop n bytes, sym (take-append-drop n bytes), h)

-- what a write to the rest took goes on from the front
pub front_more : (bytes : List ℕ) (done n : ℕ) → take (done + n) bytes ≡ take done bytes ++ take n (take (length bytes - done) (drop done bytes))
front_more bytes done n =
    let rest : take (length bytes - done) (drop done bytes) ≡ drop done bytes = between_to_end bytes done (length bytes) (omega arith) in
    take-add done n bytes ∙ ap (λ r. take done bytes ++ take n r) (sym rest)
