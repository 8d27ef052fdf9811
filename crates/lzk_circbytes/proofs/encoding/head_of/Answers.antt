use Rattle.std.proofs.Common.{drop, ◌≤◌, ◌++◌, ◌∙◌, ap, sym, subst, arith, List, ℕ, length}
use Rattle.lzk_circbytes.specs.Numbered.{Shape, shape, numbered, zeros_of, constants_of}
use Rattle.lzk_circbytes.specs.Fits.{head_bytes}
use Rattle.lzk_circbytes.proofs.Bodies.{coefs_behind, zeros_few}
use Rattle.lzk_circbytes.proofs.OneFile.{few}
use Rattle.lzk_circbytes.proofs.encoding.head_of.Goals as goal

pub push_head-requires-after_bounds : goal.push_head-requires-after_bounds
push_head-requires-after_bounds g c =
    let F = g.F.Field in
    let circuit = c.args.circuit.now in
    let is = c.constants_part.ensures ∙ ap (λ (v : ℕ). drop (zeros_of v) c.args.coefs.now) c.version.ensures.version ∙ ap (drop (zeros_of circuit.version)) c.requires
    ∙ coefs_behind circuit.version (constants_of (numbered F.coding.number circuit)) in
    omega (arith, few F.ops F.coding.size F.coding.number F.coding.element F.coding.bytes F.laws F.coding.id circuit c.valid_laws.ensures, ap length is)

pub constants_part-requires : goal.constants_part-requires
constants_part-requires g c =
    let F = g.F.Field in
    let circuit = c.args.circuit.now in
    let cs = constants_of (numbered F.coding.number circuit) in
    subst (λ (v : ℕ). zeros_of v ≤ length c.args.coefs.now) (sym c.version.ensures.version)
    (omega (arith, zeros_few circuit.version cs, ap length c.requires))

pub returns : goal.returns
returns g c =
    let F = g.F.Field in
    let s : Shape = shape F.coding.id F.coding.bytes F.coding.size in
    let w = numbered F.coding.number c.args.circuit.now in
    let cs = constants_of w in
    let given = c.constants_part.ensures ∙ ap (λ (v : ℕ). drop (zeros_of v) c.args.coefs.now) c.version.ensures.version ∙ ap (drop (zeros_of w.version)) c.requires
    ∙ coefs_behind w.version cs in
    c.in_ok-push_head.ensures ∙ ap (λ (xs : List ℕ). xs ++ head_bytes s w c.constants_part.result.now) c.new-out.ensures.items ∙ ap (λ (xs : List ℕ). head_bytes s w xs) given
