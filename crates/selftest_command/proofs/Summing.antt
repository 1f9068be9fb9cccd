-- What each message adds to the sums.
use Rattle.std.proofs.Common.{◌≡◌, ◌≤◌, ◌+◌, ◌*◌, ◌==◌, ◌↔◌, ℕ, zero, suc, Bool, true, false, List, [], ◌∷◌, length, Result, Ok, Err, refl, sym, ap, ◌∙◌, subst, arith, add-one}
use Rattle.std.specs.Prelude.{is_ok}
use Rattle.std.proofs.lemmas.Bool.Decides.{nat_tests}
use Rattle.sbe_types.specs.declared.schema.WireSchema.{WireSchema}
use Rattle.sbe_types.specs.declared.schema.Level.{Level}
use Rattle.sbe_types.specs.declared.message.Msg.{Msg}
use Rattle.sbe_wire.specs.Placed.{IsPlaced}
use Rattle.sbe_wire.specs.Lays.{Lays}
use Rattle.sbe_wire.specs.Faults.{Fault, FirstFault}
use Rattle.sbe_wire.specs.Reading.{message_of}
use Rattle.sbe_wire.proofs.Messages.{message_judges}
use Rattle.vectors.specs.Messages.{generated}
use Rattle.vectors.proofs.BlockParts.{none_generated}
use Rattle.selftest_command.specs.declared.sums.Sums.{Sums}
use Rattle.selftest_command.specs.declared.sums.TheConstants.{MOST_ADDED}
use Rattle.selftest_command.specs.declared.trial.Trial.{Trial}
use Rattle.selftest_command.specs.Selftest.{AreWithin, added, no_sums, lies_in, drawn_sums, sums_until}

-- ---- bounds

pub within_added : (a b : ℕ) (x y : Sums) → AreWithin a x → AreWithin b y → AreWithin (a + b) (added x y)
within_added a b x y h k = record {
  frames = omega (arith, h.frames, k.frames);
  skipped = omega (arith, h.skipped, k.skipped);
  bytes = omega (arith, h.bytes, k.bytes);
  byte_sum = omega (arith, h.byte_sum, k.byte_sum);
  altered = omega (arith, h.altered, k.altered);
}

pub within_more : (a b : ℕ) (x : Sums) → a ≤ b → AreWithin a x → AreWithin b x
within_more a b x more h = record {
  frames = omega (arith, h.frames);
  skipped = omega (arith, h.skipped);
  bytes = omega (arith, h.bytes);
  byte_sum = omega (arith, h.byte_sum);
  altered = omega (arith, h.altered);
}

-- ---- altered bodies

pub lies_there : (schema : WireSchema) (body : List ℕ) (m : Msg) → IsPlaced schema → Lays schema m body → true ≡ lies_in schema body
lies_there schema body m placed h = sym (ap is_ok ((message_judges schema placed).complete body m h))

pub lies_nowhere : (schema : WireSchema) (body : List ℕ) (f : Fault) → IsPlaced schema → FirstFault schema f body → false ≡ lies_in schema body
lies_nowhere schema body f placed h = sym (ap is_ok ((message_judges schema placed).only body f h))

pub lies_law : (schema : WireSchema) → IsPlaced schema → (body : List ℕ) → (lies_in schema body ≡ true) ↔ ((m : Msg) × Lays schema m body)
lies_law schema placed body = (λ h. by (message_of schema body) refl h, λ found. ap is_ok ((message_judges schema placed).complete body found.0 found.1))
  where
    by : (r : Result Msg Fault) → message_of schema body ≡ r → is_ok r ≡ true → (m : Msg) × Lays schema m body
    by (Ok m) e h = (m, (message_judges schema placed).sound body m tt e)
    by (Err f) e h = cc

-- ---- one message after another

pub sums_next : (schema : WireSchema) (trial : Trial) (n : ℕ) (sums one next : Sums) → sums ≡ sums_until schema trial n → one ≡ drawn_sums schema trial n (generated schema trial.seed n) → next ≡ added sums one →
    next ≡ sums_until schema trial (n + 1)
unfolding sums_until
sums_next schema trial n sums one next so_far drawn is =
    rw add-one (is ∙ ap (λ (s : Sums). added s one) so_far ∙ ap (λ (o : Sums). added (sums_until schema trial n) o) drawn)

pub none_yet : (schema : WireSchema) (trial : Trial) (sums : Sums) → sums ≡ no_sums → (sums ≡ sums_until schema trial 0) × AreWithin 0 sums
unfolding sums_until
none_yet schema trial sums is =
    (is, subst (AreWithin 0) (sym is) (record { frames = omega arith; skipped = omega arith; bytes = omega arith; byte_sum = omega arith; altered = omega arith }))

pub within_next : (n : ℕ) (sums one next : Sums) → AreWithin (MOST_ADDED * n) sums → AreWithin MOST_ADDED one → next ≡ added sums one → AreWithin (MOST_ADDED * (n + 1)) next
within_next n sums one next h k is =
    subst (AreWithin (MOST_ADDED * (n + 1))) (sym is) (within_more (MOST_ADDED * n + MOST_ADDED) (MOST_ADDED * (n + 1)) (added sums one) (omega arith) (within_added (MOST_ADDED * n) MOST_ADDED sums one h k))

-- ---- no message

some_there : (x : Level) (xs : List Level) → (length (x ∷ xs) == 0) ≡ true → ⊥
some_there x xs h = apart (sym h ∙ some)
  where
    some : (length (x ∷ xs) == 0) ≡ false
    some = grind (arith, nat_tests)

    apart : ◌≡◌ {A = Bool} true false → ⊥
    apart e = cc

none_there : (messages : List Level) → (length messages == 0) ≡ true → messages ≡ []
none_there [] h = refl
none_there (x ∷ xs) h = absurd (some_there x xs h)

pub none_sums : (schema : WireSchema) (trial : Trial) (index : ℕ) (sums : Sums) (messages : List Level) (is_empty : Bool) → messages ≡ schema.messages → is_empty ≡ (length messages == 0) → is_empty ≡ true → sums ≡ no_sums →
    sums ≡ drawn_sums schema trial index (generated schema trial.seed index)
none_sums schema trial index sums messages is_empty same test empty is =
    is ∙ sym (ap (drawn_sums schema trial index) (none_generated schema trial.seed index (sym same ∙ none_there messages (sym test ∙ empty))))

pub none_added : (schema : WireSchema) (trial : Trial) (n : ℕ) → schema.messages ≡ [] → sums_until schema trial n ≡ no_sums
unfolding sums_until
none_added schema trial zero none = refl
none_added schema trial (suc n) none =
    ap (λ sums. added sums (drawn_sums schema trial n (generated schema trial.seed n))) (none_added schema trial n none)
    ∙ ap (λ drawn. added no_sums (drawn_sums schema trial n drawn)) (none_generated schema trial.seed n none)
