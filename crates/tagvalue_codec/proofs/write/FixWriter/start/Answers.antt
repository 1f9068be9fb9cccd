use Rattle.std.proofs.Common.{◌+◌, ◌≤◌, ℕ, List, [], ◌∷◌, ◌++◌, length, sym, ap, ◌∙◌, subst}
use Rattle.tagvalue_codec.specs.declared.write.Phase.TheVariants.{Open}
use Rattle.tagvalue_codec.specs.Fields.{field_bytes}
use Rattle.tagvalue_codec.specs.Texts.{text_over}
use Rattle.tagvalue_codec.specs.declared.framed.TheConstants.{BEFORE, SPARE}
use Rattle.tagvalue_codec.specs.declared.room.TheConstants.{TEXT_LIMIT}
use Rattle.tagvalue_codec.specs.Rooms.{head_bytes, begin_in}
use Rattle.tagvalue_codec.specs.Drafts.{Draft, IsFull, typed, ready_bytes}
use Rattle.tagvalue_codec.proofs.Drafting.{typed_is, head_long, typed_long, within_by, full_by, begin_here}
use Rattle.tagvalue_codec.proofs.write.FixWriter.start.Goals as goal

pub returns-in-Err-clause-full : goal.returns-in-Err-clause-full
returns-in-Err-clause-full c =
    let body = field_bytes (typed c.args.msg_type.now) in
    subst (λ (l : ℕ). IsFull l c.args.begin.now body c.in-Err.full) (c.clear.ensures.limit ∙ ap (λ (d : Draft). d.limit) c.self.view_is)
    (full_by c.clear.new.self.limit (length c.args.begin.now + 5) (length c.args.msg_type.now + 4) c.args.begin.now body c.in-Err.full (sym (head_long c.args.begin.now)) (sym (typed_long c.args.msg_type.now)) c.in-Err.ensures.full)

pub returns-clause-fits : goal.returns-clause-fits
returns-clause-fits c =
    let body = field_bytes (typed c.args.msg_type.now) in
    subst (λ (l : ℕ). length (text_over c.args.begin.now body) ≤ l) (c.clear.ensures.limit ∙ ap (λ (d : Draft). d.limit) c.self.view_is)
    (within_by c.clear.new.self.limit (length c.args.begin.now + 5) (length c.args.msg_type.now + 4) c.args.begin.now body (sym (head_long c.args.begin.now)) (sym (typed_long c.args.msg_type.now)) c.in-Ok.ensures.ok)

pub invariant_of-self-2 : goal.invariant_of-self-2
invariant_of-self-2 c =
    let n = length c.args.begin.now in
    let body = field_bytes (typed c.args.msg_type.now) in
    let text_is = c.put_head.ensures.bytes ∙ ap (λ b. b ++ head_bytes c.args.begin.now) c.clear.ensures.bytes in
    let begin_is = ap (begin_in n) text_is ∙ begin_here c.args.begin.now in
    let body_is = c.append_ready.ensures.bytes ∙ ap (λ b. b ++ ready_bytes (51 ∷ 53 ∷ 61 ∷ []) c.args.msg_type.now) c.clear-2.ensures.bytes ∙ sym (typed_is c.args.msg_type.now) in
    let limit_is = c.put_head.ensures.limit ∙ c.clear.ensures.limit in
    let fits = within_by c.clear.new.self.limit (n + 5) (length c.args.msg_type.now + 4) c.args.begin.now body (sym (head_long c.args.begin.now)) (sym (typed_long c.args.msg_type.now)) c.in-Ok.ensures.ok in (
      c.append_ready.ensures.size ∙ c.clear-2.ensures.size ∙ c.self.invariant.0 ∙ ap (λ l. l + SPARE) (sym limit_is),
      subst (λ (l : ℕ). l ≤ TEXT_LIMIT) (sym limit_is) c.self.invariant.1,
      (
        text_is ∙ ap head_bytes (sym begin_is),
        subst (λ (b : List ℕ). length (text_over b c.append_ready.new.self.bytes) ≤ c.put_head.new.room.limit) (sym begin_is)
            (subst (λ (b : List ℕ). length (text_over c.args.begin.now b) ≤ c.put_head.new.room.limit) (sym body_is)
            (subst (λ (l : ℕ). length (text_over c.args.begin.now body) ≤ l) (sym c.put_head.ensures.limit) fits)),
        c.append_ready.ensures.start ∙ c.clear-2.ensures.start ∙ ap (λ (k : ℕ). k + BEFORE) (sym (ap length text_is ∙ head_long c.args.begin.now)),
      ),
    )

pub returns-clause-ok : goal.returns-clause-ok
returns-clause-ok c =
    let text_is = c.put_head.ensures.bytes ∙ ap (λ b. b ++ head_bytes c.args.begin.now) c.clear.ensures.bytes in
    let begin_is = ap (begin_in (length c.args.begin.now)) text_is ∙ begin_here c.args.begin.now in
    let body_is = c.append_ready.ensures.bytes ∙ ap (λ b. b ++ ready_bytes (51 ∷ 53 ∷ 61 ∷ []) c.args.msg_type.now) c.clear-2.ensures.bytes ∙ sym (typed_is c.args.msg_type.now) in
    let limit_is = c.put_head.ensures.limit ∙ c.clear.ensures.limit ∙ ap (λ (d : Draft). d.limit) c.self.view_is in
    λ i. record { phase = Open; begin = begin_is i; body = body_is i; limit = limit_is i }
