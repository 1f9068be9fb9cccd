-- The files of the command are judged in one way.
use Rattle.std.proofs.Common.{◌≡◌, ℕ, List, Option, Result, Ok, Err, refl, sym, ap, ◌∙◌, subst}
use Rattle.sbe_types.specs.declared.schema.WireSchema.{WireSchema}
use Rattle.map_types.specs.declared.tree.Repository.{Repository}
use Rattle.map_files.specs.Maps.{file_map}
use Rattle.dump_lines.specs.Dumped.{AreInOrder}
use Rattle.dump_lines.specs.declared.schemas.Schemas.{Schemas}
use Rattle.schema_files.specs.FileChecks.{alone, file_schema, refused_as, JudgesMore}
use Rattle.schema_files.specs.declared.files.FileRefusal.{FileRefusal}
use Rattle.schema_files.specs.declared.files.FileRole.{FileRole}
use Rattle.schema_files.specs.declared.files.FileRole.TheVariants as role
use Rattle.schema_files.specs.declared.files.RefusedFile.{RefusedFile}
use Rattle.schema_files.proofs.Judging.{file_checked, more_once, more_some, more_good}
use Rattle.tofix_command.specs.Bridges.{translating_by, BridgeWords, GoesOnTo, JudgesMapped, JudgesRest, JudgesTranslating, Translating}

-- ---- one file after another

module _ {X Y : Type 0} (at : FileRole) (Next : Result Y RefusedFile → X → Type 0) where
  goes_once : (a b : Result Y RefusedFile) (r : Result X FileRefusal) → ((x : X) → r ≡ Ok x → Next a x → Next b x → a ≡ b) → GoesOnTo at r (Next a) a → GoesOnTo at r (Next b) b → a ≡ b
  goes_once a b (Ok x) once h k = once x refl h k
  goes_once a b (Err why) once h k = h ∙ sym k

  goes_some : (r : Result X FileRefusal) → ((x : X) → r ≡ Ok x → (a : Result Y RefusedFile) × Next a x) → (a : Result Y RefusedFile) × GoesOnTo at r (Next a) a
  goes_some (Ok x) some = some x refl
  goes_some (Err why) some = (Err (refused_as at why), refl)

ok_same : {s t : Translating} → ◌≡◌ {A = Result Translating RefusedFile} (Ok s) (Ok t) → s ≡ t
ok_same h = cc

never : {t : Translating} {file : RefusedFile} → ◌≡◌ {A = Result Translating RefusedFile} (Ok t) (Err file) → ⊥
never h = cc

goes_good : {X : Type 0} (at : FileRole) (r : Result X FileRefusal) (Next : X → Type 0) (t : Translating) → ((x : X) → r ≡ Ok x → Next x → AreInOrder t.schemas) → GoesOnTo at r Next (Ok t) → AreInOrder t.schemas
goes_good at (Ok x) Next t good h = good x refl h
goes_good at (Err why) Next t good h = absurd (never h)

-- ---- the further schemas

module _ (words : BridgeWords) (contents : List ℕ → Option (List ℕ)) where
  rest_once : (first : WireSchema) (repository : Repository) (a b : Result Translating RefusedFile) → JudgesRest contents words first a repository → JudgesRest contents words first b repository → a ≡ b
  rest_once first repository a b h k =
      h.2 ∙ ap (λ schemas. translating_by words repository schemas) (more_once contents words.also (alone first) 1 h.0 k.0 h.1 k.1) ∙ sym k.2

  rest_some : (first : WireSchema) (repository : Repository) → (a : Result Translating RefusedFile) × JudgesRest contents words first a repository
  rest_some first repository =
      let schemas = more_some contents words.also (alone first) 1 in
      (translating_by words repository schemas.0, (schemas.0, schemas.1, refl))

  rest_good : (first : WireSchema) (repository : Repository) (t : Translating) → file_schema (contents words.schema) ≡ Ok first → JudgesRest contents words first (Ok t) repository → AreInOrder t.schemas
  rest_good first repository t is h = by h.0 h.1 h.2
    where
      by : (schemas : Result Schemas RefusedFile) → JudgesMore contents (alone first) 1 words.also schemas → ◌≡◌ {A = Result Translating RefusedFile} (Ok t) (translating_by words repository schemas) → AreInOrder t.schemas
      by (Ok all) more e =
          subst AreInOrder (sym (ap (λ (u : Translating). u.schemas) (ok_same e))) (more_good contents words.also (alone first) all 1 (file_checked (contents words.schema) first is, tt) more)
      by (Err file) more e = absurd (never e)

  -- ---- all files

  pub translating_once : (a b : Result Translating RefusedFile) → JudgesTranslating words contents a → JudgesTranslating words contents b → a ≡ b
  translating_once a b h k =
      goes_once role.Schema (JudgesMapped contents words) a b (file_schema (contents words.schema))
      (λ first is x y. goes_once role.Map (JudgesRest contents words first) a b (file_map (contents words.map)) (λ repository there p q. rest_once first repository a b p q) x y) h k

  pub translating_some : (a : Result Translating RefusedFile) × JudgesTranslating words contents a
  translating_some =
      goes_some role.Schema (JudgesMapped contents words) (file_schema (contents words.schema))
      (λ first is. goes_some role.Map (JudgesRest contents words first) (file_map (contents words.map)) (λ repository there. rest_some first repository))

  pub translating_good : (t : Translating) → JudgesTranslating words contents (Ok t) → AreInOrder t.schemas
  translating_good t h =
      goes_good role.Schema (file_schema (contents words.schema)) (JudgesMapped contents words (Ok t)) t
      (λ first is next. goes_good role.Map (file_map (contents words.map)) (JudgesRest contents words first (Ok t)) t (λ repository there rest. rest_good first repository t is rest) next) h
