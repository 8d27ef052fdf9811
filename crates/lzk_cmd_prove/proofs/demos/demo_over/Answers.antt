use Rattle.std.proofs.Common.{ℕ, refl, sym, ap, ◌∙◌}
use Rattle.lzk_demo.specs.Demo.{demo_private, demo_public}
use Rattle.lzk_goldilocks.specs.Elements.{ops}
use Rattle.lzk_cmd_files.specs.Lines.{demo_line}
use Rattle.lzk_cmd_prove.proofs.Told.{demo_told}
use Rattle.lzk_cmd_prove.proofs.demos.demo_over.Goals as goal

pub returns : goal.returns
returns g c =
    let n = c.args.demo.now.n in
    let len = c.in_ok-bytes.bytes in
    let text = sym (c.in_ok-text.ensures ∙ ap (λ (depth : ℕ). demo_line n depth len) c.depth.ensures.depth) in
    demo_told n c.args.by.seed c.args.demo.now.circuit.now (demo_public ops n) (demo_private ops n) len _ c.requires.compiled refl refl c.in_ok-bytes.ensures (record { status = refl; text = text })
