-- Structures that are known to have no tag twice. Tags are replaced by numbers, and one pass checks as many numbers as
-- a word has bits.
use Rattle.std.specs.Prelude.{◌≡◌, ℕ, ◌+◌, ◌-◌, ◌*◌, ◌%◌, ◌^◌, ◌<◌, ◌≤◌, nat_le, nat_lt, nat_eq, ◌&&◌, Bool, true, false, if◌then◌else◌, List, [], ◌∷◌, length, Option, Some, None, slice_get}
use Rattle.std.specs.Int.RustNames.{bit_and, bit_or}
use Rattle.reference_graph.specs.declared.graph.Link.{Link}
use Rattle.reference_graph.specs.declared.graph.Link.TheVariants.{Field, To}
use Rattle.reference_graph.specs.declared.graph.Node.{Node}
use Rattle.reference_graph.specs.declared.distinct.TheConstants.{WIDTH}
use Rattle.reference_graph.specs.Graphs.{of_link, folded}
use Rattle.reference_graph.specs.Structures.{tags, is_ambiguous}

-- ---- what the words of a pass give

-- the bit of a number in the pass over the numbers from `first` on; other numbers have none
abbrev pub mark : ℕ → ℕ → ℕ
mark first number = if nat_le first number && nat_lt (number - first) WIDTH then 1 * 2 ^ (number - first) % 2 ^ 128 else 0

-- The bit of a count's number, if there is one.
abbrev pub count_mark : ℕ → Option ℕ → ℕ
count_mark first None = 0
count_mark first (Some number) = mark first number

-- The word of an entry, if it is known; one without bits if there is no entry.
abbrev pub entry_word : Option (Option ℕ) → Option ℕ
entry_word None = Some 0
entry_word (Some word) = word

-- the word that a pass gives for one link
abbrev pub link_word : List (Option ℕ) → ℕ → Link → Option ℕ
link_word words first (Field number) = Some (mark first number)
link_word words first (To i) = entry_word (slice_get words i)

-- Continues with one more part, if it doesn't share a bit with those before.
abbrev pub with_word : (ℕ → Option ℕ) → ℕ → Option ℕ → Option ℕ
with_word more all None = None
with_word more all (Some word) = if nat_eq (bit_and all word) 0 then more (bit_or all word) else None

-- the bits of links, added to those so far, if no two parts share one
abbrev pub links_word : List (Option ℕ) → ℕ → ℕ → List Link → Option ℕ
links_word words first all [] = Some all
links_word words first all (l ∷ ls) = with_word (λ both. links_word words first both ls) all (link_word words first l)

-- The bits of a node.
abbrev pub node_word : List (Option ℕ) → ℕ → Node → Option ℕ
node_word words first node = links_word words first (count_mark first node.count) node.links

-- ---- what they mean

-- 1 for true, 0 for false
abbrev pub one_if : Bool → ℕ
one_if true = 1
one_if false = 0

-- how often a number occurs among these
abbrev pub times : ℕ → List ℕ → ℕ
times n [] = 0
times n (t ∷ ts) = one_if (nat_eq n t) + times n ts

-- a word has the bits of these numbers, and no number with a bit occurs twice
pub record IsMarked (first word : ℕ) (numbers : List ℕ) : Type 0 where
  pub covered : (n : ℕ) → 0 < times n numbers → bit_and word (mark first n) ≡ mark first n
  pub once : (n : ℕ) → 0 < mark first n → times n numbers ≤ 1

-- the numbers of the node with an index, through at most k names
abbrev pub numbers_at : ℕ → List Node → ℕ → List ℕ
numbers_at k graph i = of_link tags graph (folded tags k graph) (To i)

-- the words are right for each node that has one, through however many names
abbrev pub AreMarked : List Node → ℕ → List (Option ℕ) → Type 0
AreMarked graph first words = (i word k : ℕ) → slice_get words i ≡ Some (Some word) → IsMarked first word (numbers_at k graph i)

-- a pass visited the nodes: only those with a word in all passes before have one now
pub record Passed (graph : List Node) (first : ℕ) (before after : List (Option ℕ)) : Type 0 where
  pub long : length after ≡ length graph
  pub marked : AreMarked graph first after
  pub also : (i word : ℕ) → slice_get after i ≡ Some (Some word) → (other : ℕ) × (slice_get before i ≡ Some (Some other))

-- no node with a word has a number below `first` twice
pub record AreClear (graph : List Node) (first : ℕ) (words : List (Option ℕ)) : Type 0 where
  pub long : length words ≡ length graph
  pub clear : (i word k n : ℕ) → slice_get words i ≡ Some (Some word) → n < first → times n (numbers_at k graph i) ≤ 1

-- no node with a word has a tag twice
pub record AreDistinct (graph : List Node) (words : List (Option ℕ)) : Type 0 where
  pub long : length words ≡ length graph
  pub distinct : (i word : ℕ) (node : Node) → slice_get words i ≡ Some (Some word) → slice_get graph i ≡ Some node → is_ambiguous graph node.links ≡ false
