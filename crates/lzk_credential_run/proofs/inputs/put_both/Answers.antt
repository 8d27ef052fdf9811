use Rattle.std.proofs.Common.{refl, List, ℕ, subst}
use Rattle.std.specs.Prelude.{string_bytes}
use Rattle.lzk_cmd_files.specs.Seen.{seen}
use Rattle.lzk_cmd_files.specs.Walks.{Puts}
use Rattle.lzk_credential_run.specs.Given.{PutsBoth}
use Rattle.lzk_credential_run.proofs.InputEnds.{no_memory, first_wants, first_fails, second_ends}
use Rattle.lzk_credential_run.proofs.inputs.put_both.Goals as goal

pub returns-in_err-text : goal.returns-in_err-text
returns-in_err-text g c =
    no_memory (PutsBoth c.args.public_file.now c.args.first.now c.args.private_file.now c.args.second.now) c.args.public_file.now (seen g.S.Shelf c.args.shelf.now) (seen g.S.Shelf c.args.shelf.now) _ refl c.from_residual.ensures.1

pub returns-in_err-done : goal.returns-in_err-done
returns-in_err-done g c =
    first_wants c.args.public_file.now c.args.first.now c.args.private_file.now c.args.second.now (string_bytes c.new.result) (seen g.S.Shelf c.args.shelf.now) (seen g.S.Shelf c.put_file.new.shelf) c.in_err-done.field-0.0 _ c.in_err-done.ensures.puts c.from_residual-in_err-done.ensures.1

pub returns-then-done-ne0 : goal.returns-then-done-ne0
returns-then-done-ne0 g c =
    first_fails c.args.public_file.now c.args.first.now c.args.private_file.now c.args.second.now (string_bytes c.new.result) (seen g.S.Shelf c.args.shelf.now) (seen g.S.Shelf c.put_file.new.shelf) c.in_ok-done.done c.in_ok-done.ensures.puts c.if-done-ne0.true

pub returns : goal.returns
returns g c =
    let mid = seen g.S.Shelf c.put_file.new.shelf in
    let new = seen g.S.Shelf c.put_file-2.new.shelf in
    let puts = subst (λ (t : List ℕ). Puts c.args.private_file.now c.args.second.now t mid new c.put_file-2.result) c.in_ok-text.ensures c.put_file-2.ensures.puts in
    second_ends c.args.public_file.now c.args.first.now c.args.private_file.now c.args.second.now (string_bytes c.new.result) (seen g.S.Shelf c.args.shelf.now) mid new c.in_ok-done.done c.put_file-2.result c.in_ok-done.ensures.puts c.if-done-ne0.false c.in_ok-done.ensures.moves puts
