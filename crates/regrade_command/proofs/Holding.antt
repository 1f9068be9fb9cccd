-- What a frame that is written holds.
use Rattle.std.proofs.Common.{◌≡◌, ◌∙◌, ℕ, List, Some, None, Ok, sym, ap}
use Rattle.sbe_types.specs.declared.schema.WireSchema.{WireSchema}
use Rattle.sbe_types.specs.declared.message.Msg.{Msg}
use Rattle.sbe_wire.specs.Canonical.{canonical}
use Rattle.sbe_wire.specs.Misfit.{misfit}
use Rattle.sbe_wire.specs.Reading.{message_of}
use Rattle.schema_facts.specs.IsChecked.{IsChecked}
use Rattle.open_framing.specs.Frames.{Item}
use Rattle.replies.specs.Reply.{Reply}
use Rattle.replies.specs.declared.verdict.Verdict.{Verdict}
use Rattle.replies.specs.declared.verdict.Verdict.TheVariants as verdict
use Rattle.build_command.specs.Build.{body_limit}
use Rattle.writing_laws.proofs.MessageMisfit.{none_fits}
use Rattle.writing_laws.proofs.ReadAgain.{body_read}
use Rattle.writable_schemas.proofs.CheckedSchemas.{schema_writable}
use Rattle.regrade_command.specs.Regrade.{Regrading, IsRegradable, IsRegraded, other_encoding, a_fault, no_template, no_fill, no_room, a_frame, HoldsRewritten}

-- a message without a misfit is what is read of its body
pub read_back : (schema : WireSchema) (n : Msg) (limit : ℕ) (body : List ℕ) → IsChecked schema → misfit schema n limit ≡ None →
    canonical schema n ≡ Some body → message_of schema body ≡ Ok n
read_back schema n limit body checked none there =
    let writable = schema_writable schema checked in
    body_read schema checked.placed writable n (none_fits schema n limit checked.placed writable none).0 body there

module _ (on : Regrading) (number : ℕ) (item : Item) (reply : Reply) (dropped filled : ℕ) (told : reply.verdict ≡ verdict.Regraded dropped filled) where
  not_refused : reply.verdict ≡ verdict.Refused → ⊥
  not_refused is = let both : ◌≡◌ {A = Verdict} verdict.Refused (verdict.Regraded dropped filled) = sym is ∙ told in cc

  pub holds : IsRegradable on.pair → IsRegraded on number item reply → HoldsRewritten on.pair item reply.output
  holds good h = elim h [
    | other_encoding differs is ↦ absurd (not_refused (ap (λ (r : Reply). r.verdict) is))
    | a_fault same f first is ↦ absurd (not_refused (ap (λ (r : Reply). r.verdict) is))
    | no_template same m rewrites is ↦ absurd (not_refused (ap (λ (r : Reply). r.verdict) is))
    | no_fill same m path rewrites n moves is ↦ absurd (not_refused (ap (λ (r : Reply). r.verdict) is))
    | no_room same m n rewrites why unfit is ↦ absurd (not_refused (ap (λ (r : Reply). r.verdict) is))
    | a_frame same m n rewrites fits body there is ↦
        (m, n, body, rewrites.0, rewrites.1, ap (λ (r : Reply). r.output) is, read_back on.pair.to n (body_limit on.frame) body good.to fits there)
  ]
