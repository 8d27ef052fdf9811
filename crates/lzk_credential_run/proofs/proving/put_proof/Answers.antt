use Rattle.std.proofs.Common.{ℕ, ◌≡◌, length, refl, ap, ◌∙◌, arith}
use Rattle.std.specs.Prelude.{string_bytes}
use Rattle.lzk_cmd_files.specs.Seen.{seen}
use Rattle.lzk_cmd_files.specs.Lines.{proved_line}
use Rattle.lzk_credential_run.specs.Proved.{PutsProof}
use Rattle.lzk_credential_run.specs.Orders.{order_of}
use Rattle.lzk_credential_run.proofs.ProveEnds.{no_proof, proof_put}
use Rattle.lzk_credential_run.proofs.Steps.{no_memory}
use Rattle.lzk_credential_run.proofs.proving.put_proof.Goals as goal

pub returns-in_err-bytes : goal.returns-in_err-bytes
returns-in_err-bytes g c =
    no_proof (order_of c.args.task.now.order) c.args.policy.now c.args.inputs.now c.args.seed (seen g.S.Shelf c.args.shelf.now) c.in_err-bytes.field-0.0 _ c.in_err-bytes.ensures c.from_residual.ensures.1

pub returns-in_err-text : goal.returns-in_err-text
returns-in_err-text g c =
    no_memory (PutsProof (order_of c.args.task.now.order) c.args.policy.now c.args.inputs.now c.args.seed) (seen g.S.Shelf c.args.shelf.now) (seen g.S.Shelf c.args.shelf.now) _ refl c.from_residual-in_err-text.ensures.1

pub returns : goal.returns
returns g c =
    let count : c.in_ok-bytes.bytes.len ≡ length c.in_ok-bytes.bytes.items = omega (arith, c.in_ok-bytes.bytes.ok.0) in
    let text = c.in_ok-text.ensures ∙ (ap (λ (n : ℕ). proved_line c.args.task.now.order.proof.now n) c.len.ensures ∙ ap (λ (n : ℕ). proved_line c.args.task.now.order.proof.now n) count) in
    proof_put (order_of c.args.task.now.order) c.args.policy.now c.args.inputs.now c.args.seed c.in_ok-bytes.bytes.items c.deref.result.now (string_bytes c.in_ok-text.text) (seen g.S.Shelf c.args.shelf.now) (seen g.S.Shelf c.put_file.new.shelf) c.put_file.result
    c.in_ok-bytes.ensures c.deref.ensures.value text c.put_file.ensures.puts
