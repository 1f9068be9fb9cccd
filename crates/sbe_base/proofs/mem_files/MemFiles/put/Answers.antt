use Rattle.std.proofs.Common.{◌≡◌, ◌++◌, ◌∷◌, [], slice_set, ◌∙◌, ap, subst, refl}
use Rattle.sbe_base.specs.Memory.{FilesState, Replaces}
use Rattle.sbe_base.proofs.Names.{told_of, put_over, put_behind}
use Rattle.sbe_base.proofs.mem_files.MemFiles.put.Goals as goal

pub returns-in-Some-clause-ok : goal.returns-in-Some-clause-ok
returns-in-Some-clause-ok c =
    let files = c.self.inside.files.items in
    let file = c.index_mut.result.now in
    let told = told_of c.args.name.now _ files _ _ c.as_bytes.ensures.value c.as_slice.ensures.value c.place_of.ensures ∙ c.in-Some.is in
    let before : FilesState = record { files = files; calls = c.self.inside.calls } in
    let after : FilesState = record { files = slice_set files c.in-Some.i (record { name = file.name; bytes = c.in_ok-bytes.bytes }); calls = c.self.inside.calls } in
    let put = ap (λ bytes. slice_set files c.in-Some.i (record { name = file.name; bytes = bytes })) c.in_ok-bytes.ensures in
    let P : FilesState → Type 0 = λ old. Replaces old after c.args.name.now c.args.bytes.now in
    subst P c.self.view_is (put_over before after c.args.name.now c.args.bytes.now c.in-Some.i file told c.index_mut.ensures.value put refl)

pub returns-in_ok-push-in-None-clause-ok : goal.returns-in_ok-push-in-None-clause-ok
returns-in_ok-push-in-None-clause-ok c =
    let files = c.self.inside.files.items in
    let told = told_of c.args.name.now _ files _ _ c.as_bytes.ensures.value c.as_slice.ensures.value c.place_of.ensures ∙ c.in-None.is in
    let before : FilesState = record { files = files; calls = c.self.inside.calls } in
    let after : FilesState = record { files = c.push.new.self.items; calls = c.self.inside.calls } in
    let put : c.push.new.self.items ≡ files ++ (record { name = c.args.name.now; bytes = c.args.bytes.now }) ∷ [] =
    c.in_ok-push-in-None.ensures.items ∙ ap (λ name. files ++ (record { name = name; bytes = c.in_ok-bytes.bytes }) ∷ []) (c.in_ok-name-in-None.ensures ∙ c.as_bytes-in-None.ensures.value) ∙ ap (λ bytes. files ++ (record { name = c.args.name.now; bytes = bytes }) ∷ []) c.in_ok-bytes.ensures in
    let P : FilesState → Type 0 = λ old. Replaces old after c.args.name.now c.args.bytes.now in
    subst P c.self.view_is (put_behind before after c.args.name.now c.args.bytes.now told put refl)
