-- What holds of each member that may be read.
use Rattle.std.proofs.Common.{ℕ, List, [], Some, Ok}
use Rattle.std.specs.List.{AllByRecursion}
use Rattle.serde_json.specs.Data.{Data}
use Rattle.json_elements.specs.Reading.{Reading, inside}
use Rattle.json_elements.specs.Elements.{content}
use Rattle.json_elements.specs.KnownChildren.{Reads, known_children}
use Rattle.json_elements.proofs.Yields.{Yields, ok_yields, then_yields, inside_yields, IfRead, children_yield}
use Rattle.map_elements.specs.References.{members, known}

pub members_yield : {A : Type 0} (P : A → Type 0) (by : Reads A) → ((before : List A) (name : List ℕ) (d : Data) → Yields (IfRead P) (by before name d)) → (d : Data) → Yields (AllByRecursion P) (members by d)
members_yield P by each d = then_yields (AllByRecursion P) (content d) (known_children by [] 0) (λ children _. children_yield P by each [] tt 0 children)

pub known_yields : {A : Type 0} (P : A → Type 0) (name : List ℕ) (read : Reading A) → Yields P read → Yields (IfRead P) (known name read)
known_yields P name read h = then_yields (IfRead P) (inside name read) (λ x. Ok (Some x)) (λ x at. ok_yields (IfRead P) (Some x) (inside_yields P name read h x at))
