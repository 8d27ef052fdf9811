use Rattle.std.proofs.Common.{◌++◌, ◌∙◌, ap, sym, subst, List, ℕ, reverse}
use Rattle.lzk_circbytes.specs.Numbered.{Shape, shape, numbered, coefs_of, constants_of}
use Rattle.lzk_circbytes.specs.Spelling.{layers_bytes}
use Rattle.lzk_circbytes.specs.Files.{IsFile}
use Rattle.lzk_circbytes.proofs.OneFile.{file_parts, file_of-IsFile}
use Rattle.lzk_circbytes.proofs.encoding.encode.Goals as goal

pub returns-clause-same : goal.returns-clause-same
returns-clause-same g c =
    let F = g.F.Field in
    let s : Shape = shape F.coding.id F.coding.bytes F.coding.size in
    let w = numbered F.coding.number c.args.circuit.now in
    let cs = constants_of w in
    let ks = coefs_of w.version cs in
    let given = c.deref-3.ensures.value ∙ c.in_ok-coefs.ensures.numbers in
    c.in_ok-push_layers.ensures ∙ ap (λ (xs : List ℕ). c.in_ok-out.out.items ++ layers_bytes xs 0 (reverse w.layers)) given ∙ ap (λ (xs : List ℕ). xs ++ layers_bytes ks 0 (reverse w.layers)) c.in_ok-out.ensures ∙ file_parts s w cs

pub returns-clause-file : goal.returns-clause-file
returns-clause-file g c =
    let F = g.F.Field in
    let s : Shape = shape F.coding.id F.coding.bytes F.coding.size in
    subst (λ (xs : List ℕ). IsFile F.ops F.coding.number s c.args.circuit.now xs) (sym (returns-clause-same g c)) (file_of-IsFile F.ops F.coding.size F.coding.number F.coding.element F.coding.bytes F.laws F.coding.id c.args.circuit.now c.coefs_of.ensures.valid)
