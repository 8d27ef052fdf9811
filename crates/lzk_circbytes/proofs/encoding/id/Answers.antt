use Rattle.std.proofs.Common.{◌++◌, ◌∙◌, ap, subst, List, ℕ, [], reverse}
use Rattle.sha2.specs.Sha256.{sha256}
use Rattle.sha2.specs.Hashers.{Holds256}
use Rattle.lzk_circbytes.specs.Numbered.{Shape, shape, numbered, constants_of}
use Rattle.lzk_circbytes.specs.Spelling.{layers_bytes}
use Rattle.lzk_circbytes.specs.Fits.{head_bytes}
use Rattle.lzk_circbytes.proofs.OneFile.{file_parts}
use Rattle.lzk_circbytes.proofs.encoding.id.Goals as goal

pub returns : goal.returns
returns g c =
    let F = g.F.Field in
    let s : Shape = shape F.coding.id F.coding.bytes F.coding.size in
    let w = numbered F.coding.number c.args.circuit.now in
    let cs = constants_of w in
    let given = c.deref-3.ensures.value ∙ c.in_ok-coefs.ensures.numbers in
    let head = c.as_slice.ensures.value ∙ c.in_ok-piece.ensures in
    let begun : Holds256 c.update.new.self (head_bytes s w cs) = subst (λ (xs : List ℕ). Holds256 c.update.new.self xs) head (c.update.ensures [] c.new-hasher.ensures) in
    let all = c.in_ok-absorb_layers.ensures (head_bytes s w cs) begun in
    c.finalize.ensures (head_bytes s w cs ++ layers_bytes c.deref-3.result.now 0 (reverse w.layers)) all
    ∙ ap sha256 (ap (λ (xs : List ℕ). head_bytes s w cs ++ layers_bytes xs 0 (reverse w.layers)) given ∙ file_parts s w cs)
