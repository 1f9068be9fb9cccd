use Rattle.std.proofs.Common.{subst, sym, ◌∙◌, rules, FitsSigned}
use mir.Syntax.{w64}
use Rattle.std.proofs.lemmas.Int.{to_z-of_z}
use Rattle.sbe_types.specs.declared.kind.Primitive.TheVariants as primitive
use Rattle.flat_rows.specs.Quick.{IsQuickAs}
use Rattle.flat_rows.proofs.Looks.{number_kind, text_kind}
use Rattle.flat_rows.proofs.judge.shows_value.Goals as goal

pub returns-in-I8 : goal.returns-in-I8
returns-in-I8 c = λ yes.
    let row = c.args.row.now in
    let fits : FitsSigned w64 c.number_in.result = search rules in
    number_kind row.kind primitive.I8 row.quick c.args.known c.args.bytes.now _ _ (subst (λ l. IsQuickAs l row.quick row.kind) c.in-I8.is c.requires.row.quick) c.requires.wide
    (to_z-of_z w64 c.number_in.result fits ∙ c.number_in.ensures) c.shows_number.ensures yes

pub returns-in-I16 : goal.returns-in-I16
returns-in-I16 c = λ yes.
    let row = c.args.row.now in
    let fits : FitsSigned w64 c.number_in-in-I16.result = search rules in
    number_kind row.kind primitive.I16 row.quick c.args.known c.args.bytes.now _ _ (subst (λ l. IsQuickAs l row.quick row.kind) c.in-I16.is c.requires.row.quick) c.requires.wide
    (to_z-of_z w64 c.number_in-in-I16.result fits ∙ c.number_in-in-I16.ensures) c.shows_number-in-I16.ensures yes

pub returns-in-I32 : goal.returns-in-I32
returns-in-I32 c = λ yes.
    let row = c.args.row.now in
    let fits : FitsSigned w64 c.number_in-in-I32.result = search rules in
    number_kind row.kind primitive.I32 row.quick c.args.known c.args.bytes.now _ _ (subst (λ l. IsQuickAs l row.quick row.kind) c.in-I32.is c.requires.row.quick) c.requires.wide
    (to_z-of_z w64 c.number_in-in-I32.result fits ∙ c.number_in-in-I32.ensures) c.shows_number-in-I32.ensures yes

pub returns-in-I64 : goal.returns-in-I64
returns-in-I64 c = λ yes.
    let row = c.args.row.now in
    let fits : FitsSigned w64 c.number_in-in-I64.result = search rules in
    number_kind row.kind primitive.I64 row.quick c.args.known c.args.bytes.now _ _ (subst (λ l. IsQuickAs l row.quick row.kind) c.in-I64.is c.requires.row.quick) c.requires.wide
    (to_z-of_z w64 c.number_in-in-I64.result fits ∙ c.number_in-in-I64.ensures) c.shows_number-in-I64.ensures yes

pub returns-in-U8 : goal.returns-in-U8
returns-in-U8 c = λ yes.
    let row = c.args.row.now in
    let fits : FitsSigned w64 c.number_in-in-U8.result = search rules in
    number_kind row.kind primitive.U8 row.quick c.args.known c.args.bytes.now _ _ (subst (λ l. IsQuickAs l row.quick row.kind) c.in-U8.is c.requires.row.quick) c.requires.wide
    (to_z-of_z w64 c.number_in-in-U8.result fits ∙ c.number_in-in-U8.ensures) c.shows_number-in-U8.ensures yes

pub returns-in-U16 : goal.returns-in-U16
returns-in-U16 c = λ yes.
    let row = c.args.row.now in
    let fits : FitsSigned w64 c.number_in-in-U16.result = search rules in
    number_kind row.kind primitive.U16 row.quick c.args.known c.args.bytes.now _ _ (subst (λ l. IsQuickAs l row.quick row.kind) c.in-U16.is c.requires.row.quick) c.requires.wide
    (to_z-of_z w64 c.number_in-in-U16.result fits ∙ c.number_in-in-U16.ensures) c.shows_number-in-U16.ensures yes

pub returns-in-U32 : goal.returns-in-U32
returns-in-U32 c = λ yes.
    let row = c.args.row.now in
    let fits : FitsSigned w64 c.number_in-in-U32.result = search rules in
    number_kind row.kind primitive.U32 row.quick c.args.known c.args.bytes.now _ _ (subst (λ l. IsQuickAs l row.quick row.kind) c.in-U32.is c.requires.row.quick) c.requires.wide
    (to_z-of_z w64 c.number_in-in-U32.result fits ∙ c.number_in-in-U32.ensures) c.shows_number-in-U32.ensures yes

pub returns-in-Text : goal.returns-in-Text
returns-in-Text c = λ yes.
    let row = c.args.row.now in
    text_kind row.kind row.quick c.args.known c.args.bytes.now (subst (λ l. IsQuickAs l row.quick row.kind) c.in-Text.is c.requires.row.quick) c.requires.wide (sym c.is_text.ensures ∙ yes)

pub shows_set-requires-clause-bits : goal.shows_set-requires-clause-bits
shows_set-requires-clause-bits c =
    let row = c.args.row.now in
    subst (λ l. IsQuickAs l row.quick row.kind) c.in-Set.is c.requires.row.quick

pub returns-in-Set : goal.returns-in-Set
returns-in-Set c = λ yes. c.shows_set.ensures yes c.args.known

pub returns-in-Other : goal.returns-in-Other
returns-in-Other c = λ yes. c.shows_kind.ensures yes c.args.known
