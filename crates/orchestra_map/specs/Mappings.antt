-- The mapping of a file.
use Rattle.std.specs.Prelude.{◌≡◌, ℕ, List, Result, Ok, Err, ⊤}
use Rattle.json_elements.specs.declared.refusal.Cause.{Cause}
use Rattle.json_elements.specs.declared.refusal.Cause.TheVariants as cause
use Rattle.json_elements.specs.Reading.{Reading}
use Rattle.map_types.specs.declared.codes.MCode.{MCode}
use Rattle.map_types.specs.declared.codes.MCode.TheVariants as code
use Rattle.map_types.specs.declared.codes.MapErr.{MapErr}
use Rattle.map_types.specs.declared.codes.MapErr.TheVariants.{Refused, Memory}
use Rattle.map_types.specs.declared.tree.Repository.{Repository}
use Rattle.map_types.specs.Trees.{members_of}
use Rattle.map_elements.specs.Repositories.{repository_of}
use Rattle.map_rules.specs.Verdicts.{Refusal, Verdict}
use Rattle.map_rules.specs.Rules.{verdict}

-- The code for the cause of a refusal in an element, an attribute or the file.
abbrev pub code_of : Cause → MCode
code_of cause.Xml = code.Xml
code_of cause.NotJson = code.NotJson
code_of cause.Shape = code.Shape
code_of cause.Missing = code.BadAttribute
code_of cause.BadAttribute = code.BadAttribute
code_of cause.Limit = code.Limit

-- A mapping, or its first refusal.
abbrev pub Mapping : Type 0
Mapping = Result Repository Refusal

-- a repository, if its members keep their rules
abbrev pub kept : Repository → Verdict → Mapping
kept repository (Ok x) = Ok repository
kept repository (Err e) = Err e

-- the mapping of what was read: its elements are checked first, then the rules of its members
abbrev pub mapping_from : Reading Repository → Mapping
mapping_from (Ok repository) = kept repository (verdict (members_of repository))
mapping_from (Err e) = Err (record { code = code_of e.cause; path = e.path })

-- the mapping of a file, or the first refusal
abbrev pub map_of : List ℕ → Mapping
map_of bytes = mapping_from (repository_of bytes)

-- the answer is the mapping, unless it is out of memory
abbrev pub Answers : Result Repository MapErr → Mapping → Type 0
Answers (Ok repository) mapping = mapping ≡ Ok repository
Answers (Err Memory) mapping = ⊤
Answers (Err (Refused code path)) mapping = mapping ≡ Err (record { code = code; path = path })
