-- Why a body doesn't have a tree.
use Rattle.std.specs.Prelude.{◌≡◌, ℕ, List, ⊤}
use Rattle.std.specs.Result.{result_ok}
use Rattle.sbe_types.specs.declared.schema.WireSchema.{WireSchema}
use Rattle.sbe_wire.specs.Faults.{FirstFault}
use Rattle.body_walk.specs.Heads.{header_template}
use Rattle.body_walk.specs.Refusals.{refused}
use Rattle.tree_codec.specs.declared.decoding.DecodeErr.{DecodeErr}
use Rattle.tree_codec.specs.declared.decoding.DecodeErr.TheVariants.{Refused, Memory}

-- the first fault of the body, with the template that its header names; nothing is required when out of memory
abbrev pub IsRefused : WireSchema → List ℕ → DecodeErr → Type 0
IsRefused schema body (Refused r) = FirstFault schema (refused r) body × (r.template ≡ result_ok (header_template schema body))
IsRefused schema body Memory = ⊤
