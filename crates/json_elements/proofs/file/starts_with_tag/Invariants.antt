use Rattle.std.proofs.Common.{◌≡◌, drop}
use Rattle.json_elements.specs.Files.{is_tag}
use Rattle.json_elements.proofs.file.starts_with_tag.Given as goal

abbrev pub invariant-loop-byte : goal.invariant-loop-byte
invariant-loop-byte l = is_tag (drop l.byte-index l.text) ≡ is_tag l.text
