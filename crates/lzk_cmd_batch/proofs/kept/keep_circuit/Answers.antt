use Rattle.std.proofs.lemmas.Result.{IfOk-from_err}
use Rattle.std.proofs.Common.{ℕ, Err, refl, ◌∙◌, arith}
use Rattle.lzk_circbytes.specs.declared.any.AnyCircuit.{AnyCircuit}
use Rattle.lzk_cmd_files.specs.Decoded.{circuit_files}
use Rattle.lzk_cmd_files.specs.Seen.{seen}
use Rattle.lzk_cmd_files.specs.declared.circuits.Held.{Held}
use Rattle.lzk_cmd_batch.proofs.Keeping.{over, refused, no_last, last_circuit, put_behind}
use Rattle.lzk_cmd_files.specs.declared.ending.Halt.TheVariants as halts
use Rattle.lzk_cmd_files.proofs.Steps.{no_bytes}
use Rattle.lzk_cmd_batch.specs.Batched.{among}
use Rattle.lzk_cmd_batch.proofs.kept.keep_circuit.Goals as goal

pub returns-in_err-circuit-clause-gives : goal.returns-in_err-circuit-clause-gives
returns-in_err-circuit-clause-gives g c =
    let old = seen g.S.Shelf c.args.shelf.now in
    let new = seen g.S.Shelf c.read_file.new.shelf in
    let h = c.in_err-circuit.field-0.0 in
    no_last old new c.args.kept.now c.args.kept.now c.args.name.now c.args.taken h _
    (refused circuit_files (λ (found : AnyCircuit × ℕ). found) c.args.name.now old new c.args.taken (Err h) (λ (x : Held). x.circuit) c.in_ok-bytes.bytes.items c.deref.result.now c.len.result c.in_ok-taken.taken h
    c.deref.ensures.value (c.len.ensures ∙ c.in_ok-bytes.bytes.ok.0) c.in_ok-bytes.ensures.gives c.in_ok-taken.ensures c.in_err-circuit.ensures.decodes refl) c.from_residual-in_err-circuit.ensures.1

pub returns-clause-gives : goal.returns-clause-gives
returns-clause-gives g c =
    last_circuit (seen g.S.Shelf c.args.shelf.now) (seen g.S.Shelf c.read_file.new.shelf) c.args.kept.now c.push-2.new.self.items c.args.name.now c.args.taken c.in_ok-circuit.field-0.circuit c.in_ok-bytes.bytes.items c.deref.result.now c.len.result c.in_ok-taken.taken
    c.in_ok-push-2.ensures.items c.deref.ensures.value (c.len.ensures ∙ c.in_ok-bytes.bytes.ok.0) c.in_ok-bytes.ensures.gives c.in_ok-taken.ensures c.in_ok-circuit.ensures.decodes

pub returns-clause-kept : goal.returns-clause-kept
returns-clause-kept g c =
    put_behind (g.S.Shelf.held c.args.shelf.now) c.args.kept.now (record { files = c.push.new.self; all = c.push-2.new.self }) c.args.name c.in_ok-circuit.field-0.circuit c.in_ok-circuit.field-0.id c.in_ok-bytes.bytes.items c.deref.result.now c.len-2.result
    c.requires.kept c.in_ok-push.ensures.items c.in_ok-push-2.ensures.items c.deref.ensures.value (c.len-2.ensures ∙ c.in_ok-bytes.bytes.ok.0) c.in_ok-bytes.ensures.fits c.in_ok-bytes.ensures.gives c.in_ok-circuit.ensures.decodes c.in_ok-circuit.ensures.id

pub returns-in_err-bytes-clause-kept : goal.returns-in_err-bytes-clause-kept
returns-in_err-bytes-clause-kept g c = IfOk-from_err _ _ c.from_residual.ensures.0

pub returns-in_err-bytes-clause-reads : goal.returns-in_err-bytes-clause-reads
returns-in_err-bytes-clause-reads g c = c.read_file.ensures.reads

pub returns-in_err-taken-clause-kept : goal.returns-in_err-taken-clause-kept
returns-in_err-taken-clause-kept g c = IfOk-from_err _ _ c.from_residual-in_err-taken.ensures.0

pub returns-in_err-taken-clause-reads : goal.returns-in_err-taken-clause-reads
returns-in_err-taken-clause-reads g c = c.read_file.ensures.reads

pub returns-in_err-circuit-clause-kept : goal.returns-in_err-circuit-clause-kept
returns-in_err-circuit-clause-kept g c = IfOk-from_err _ _ c.from_residual-in_err-circuit.ensures.0

pub returns-in_err-circuit-clause-reads : goal.returns-in_err-circuit-clause-reads
returns-in_err-circuit-clause-reads g c = c.read_file.ensures.reads

pub returns-in_err-push-clause-kept : goal.returns-in_err-push-clause-kept
returns-in_err-push-clause-kept g c = IfOk-from_err _ _ c.from_residual-in_err-push.ensures.0

pub returns-in_err-push-clause-reads : goal.returns-in_err-push-clause-reads
returns-in_err-push-clause-reads g c = c.read_file.ensures.reads

pub returns-in_err-push-2-clause-kept : goal.returns-in_err-push-2-clause-kept
returns-in_err-push-2-clause-kept g c = IfOk-from_err _ _ c.from_residual-in_err-push-2.ensures.0

pub returns-in_err-push-2-clause-reads : goal.returns-in_err-push-2-clause-reads
returns-in_err-push-2-clause-reads g c = c.read_file.ensures.reads

pub returns-clause-reads : goal.returns-clause-reads
returns-clause-reads g c = c.read_file.ensures.reads

pub count_in-requires-clause-taken : goal.count_in-requires-clause-taken
count_in-requires-clause-taken g c = c.requires.taken

pub returns-in_err-bytes-clause-gives : goal.returns-in_err-bytes-clause-gives
returns-in_err-bytes-clause-gives g c =
    let old = seen g.S.Shelf c.args.shelf.now in
    let new = seen g.S.Shelf c.read_file.new.shelf in
    let h = c.in_err-bytes.field-0.0 in
    no_last old new c.args.kept.now c.args.kept.now c.args.name.now c.args.taken h _
    (no_bytes (among c.args.taken circuit_files) (λ (found : AnyCircuit × ℕ). found) c.args.name.now old new (Err h) h c.in_err-bytes.ensures.gives refl) c.from_residual.ensures.1

pub returns-in_err-taken-clause-gives : goal.returns-in_err-taken-clause-gives
returns-in_err-taken-clause-gives g c =
    let old = seen g.S.Shelf c.args.shelf.now in
    let new = seen g.S.Shelf c.read_file.new.shelf in
    let h = c.in_err-taken.field-0.0 in
    no_last old new c.args.kept.now c.args.kept.now c.args.name.now c.args.taken h _
    (over circuit_files (λ (found : AnyCircuit × ℕ). found) c.args.name.now old new c.args.taken (Err h) c.in_ok-bytes.bytes.items c.len.result h
    (c.len.ensures ∙ c.in_ok-bytes.bytes.ok.0) c.in_ok-bytes.ensures.gives c.in_err-taken.ensures refl) c.from_residual-in_err-taken.ensures.1

pub returns-in_err-push-clause-gives : goal.returns-in_err-push-clause-gives
returns-in_err-push-clause-gives g c = no_last (seen g.S.Shelf c.args.shelf.now) (seen g.S.Shelf c.read_file.new.shelf) c.args.kept.now (record { files = c.push.new.self; all = c.args.kept.now.all }) c.args.name.now c.args.taken halts.Memory _ tt c.from_residual-in_err-push.ensures.1

pub returns-in_err-push-2-clause-gives : goal.returns-in_err-push-2-clause-gives
returns-in_err-push-2-clause-gives g c = no_last (seen g.S.Shelf c.args.shelf.now) (seen g.S.Shelf c.read_file.new.shelf) c.args.kept.now (record { files = c.push.new.self; all = c.push-2.new.self }) c.args.name.now c.args.taken halts.Memory _ tt c.from_residual-in_err-push-2.ensures.1

pub count_in-requires-clause-bytes : goal.count_in-requires-clause-bytes
count_in-requires-clause-bytes g c = omega (arith, c.len.ensures, c.in_ok-bytes.bytes.ok.0, c.in_ok-bytes.ensures.fits)
