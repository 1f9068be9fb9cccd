-- Members that are lent.
use Rattle.std.specs.Prelude.{List, map}
use Rattle.std.specs.Borrow.{Bor}

-- the members that are lent
abbrev pub lent_members : {A : Type 0} → List (Bor A) → List A
lent_members members = map (λ m. m.now) members
