-- The next entry of a group.
use Rattle.std.proofs.Common.{◌≡◌, ℕ, ◌+◌, ◌<◌, List, [], ◌∷◌, ◌++◌, length, drop, get_or, Ok}
use Rattle.json_data.specs.declared.data.Json.{Json}
use Rattle.json_data.specs.Trees.{data_of, items_of}
use Rattle.sbe_types.specs.declared.schema.Level.{Level}
use Rattle.sbe_types.specs.declared.message.Block.{Block}
use Rattle.line_values.specs.Objects.{each, at_item}
use Rattle.line_values.proofs.ItemSteps.{each_more}
use Rattle.line_values.proofs.ListSteps.{with_front}
use Rattle.line_reading.specs.Lines.{entry_in, block_read}

pub entries_more : (level : Level) (vs : List Json) (front : List Block) (i : ℕ) (d : Json) (x : Block) → i < length vs → d ≡ get_or vs i d → at_item i (entry_in (block_read level) (data_of d)) ≡ Ok x
    → with_front (front ++ x ∷ []) (each (entry_in (block_read level)) (i + 1) (items_of (drop (i + 1) vs))) ≡ with_front front (each (entry_in (block_read level)) i (items_of (drop i vs)))
entries_more level vs front i d x h is read = each_more (entry_in (block_read level)) vs front i d x h is read
