use Rattle.std.proofs.Common.{rules, ◌≡◌, ◌<◌, ◌≤◌, ◌++◌, length, ◌∙◌, sym, ap, subst, Some}
use Rattle.sbe_base.specs.Loads.{MayLoad}
use Rattle.sbe_base.specs.Memory.{found}
use Rattle.sbe_base.proofs.Names.{told_of, found_there, found_nowhere}
use Rattle.sbe_base.proofs.mem_files.MemFilesFiles.load.Goals as goal

pub returns-in_default-clause-loads : goal.returns-in_default-clause-loads
returns-in_default-clause-loads c =
    let told = told_of c.args.name.now _ c.self.inside.files.items _ _ c.as_bytes.ensures.value c.as_slice.ensures.value c.place_of.ensures in
    ap (λ s. found c.args.name.now s.files) (sym c.self.view_is) ∙ found_nowhere c.args.name.now c.self.inside.files.items (told ∙ c.in_default.is)

pub returns-then-bytes-limit-clause-loads : goal.returns-then-bytes-limit-clause-loads
returns-then-bytes-limit-clause-loads c =
    let told = told_of c.args.name.now _ c.self.inside.files.items _ _ c.as_bytes.ensures.value c.as_slice.ensures.value c.place_of.ensures in
    let there = found_there c.args.name.now c.self.inside.files.items c.in-Some.i c.index.result.now (told ∙ c.in-Some.is) c.index.ensures in
    (c.index.result.now.bytes, ap (λ s. found c.args.name.now s.files) (sym c.self.view_is) ∙ there, subst (λ bytes. c.args.limit < length bytes) c.as_slice-bytes.ensures c.if-bytes-limit.true)

pub returns-clause-loads : goal.returns-clause-loads
returns-clause-loads c =
    let told = told_of c.args.name.now _ c.self.inside.files.items _ _ c.as_bytes.ensures.value c.as_slice.ensures.value c.place_of.ensures in
    let there = found_there c.args.name.now c.self.inside.files.items c.in-Some.i c.index.result.now (told ∙ c.in-Some.is) c.index.ensures in
    let into : c.extend_from_slice.new.self.items ≡ c.index.result.now.bytes = c.in-Ok.ensures.items ∙ ap (λ front. front ++ c.as_slice-bytes.result.now) c.clear.ensures.items ∙ c.as_slice-bytes.ensures in
    (ap (λ s. found c.args.name.now s.files) (sym c.self.view_is) ∙ there ∙ ap Some (sym into), search rules)

pub returns-in_default-extend_from_slice-clause-memory : goal.returns-in_default-extend_from_slice-clause-memory
returns-in_default-extend_from_slice-clause-memory c =
    let told = told_of c.args.name.now _ c.self.inside.files.items _ _ c.as_bytes.ensures.value c.as_slice.ensures.value c.place_of.ensures in
    let there = found_there c.args.name.now c.self.inside.files.items c.in-Some.i c.index.result.now (told ∙ c.in-Some.is) c.index.ensures in
    let fits : length c.index.result.now.bytes ≤ c.args.limit = subst (λ bytes. length bytes ≤ c.args.limit) c.as_slice-bytes.ensures c.if-bytes-limit.false in
    λ want. subst (λ file. MayLoad file c.args.limit) (sym (ap (λ s. found c.args.name.now s.files) (sym c.self.view_is) ∙ there)) fits
