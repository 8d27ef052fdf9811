use Rattle.std.proofs.Common.{◌≡◌}
use Rattle.std.specs.Prelude.{count_by}
use Rattle.std.proofs.lemmas.Result.{IfOk-weaker}
use Rattle.lzk_expr.specs.Trees.{is_public, is_private}
use Rattle.lzk_expr.specs.View.{statements_of, tree_of}
use Rattle.lzk_level.specs.Compiled.{version_of, field_of, publics_of, privates_of, depth_of, source_layers, HasSourceValues, HasReducedLayers}
use Rattle.lzk_level.specs.SomeCircuit.{IsCircuitOf}
use Rattle.lzk_source.proofs.compiler.compile.Goals as goal

pub returns-clause-version : goal.returns-clause-version
returns-clause-version c = IfOk-weaker c.compile_code.result (IsCircuitOf (tree_of c.args.source.now)) (λ x. version_of x ≡ 1) (λ _ h. h.version_is) (c.compile_code.ensures.circuit (tree_of c.args.source.now) c.in_ok-code.ensures)

pub returns-clause-field : goal.returns-clause-field
returns-clause-field c = IfOk-weaker c.compile_code.result (IsCircuitOf (tree_of c.args.source.now)) (λ x. field_of x ≡ c.args.source.now.field_is) (λ _ h. h.field_is) (c.compile_code.ensures.circuit (tree_of c.args.source.now) c.in_ok-code.ensures)

pub returns-clause-publics : goal.returns-clause-publics
returns-clause-publics c = IfOk-weaker c.compile_code.result (IsCircuitOf (tree_of c.args.source.now)) (λ x. publics_of x ≡ count_by is_public (statements_of c.args.source.now.statements)) (λ _ h. h.publics) (c.compile_code.ensures.circuit (tree_of c.args.source.now) c.in_ok-code.ensures)

pub returns-clause-privates : goal.returns-clause-privates
returns-clause-privates c = IfOk-weaker c.compile_code.result (IsCircuitOf (tree_of c.args.source.now)) (λ x. privates_of x ≡ count_by is_private (statements_of c.args.source.now.statements)) (λ _ h. h.privates) (c.compile_code.ensures.circuit (tree_of c.args.source.now) c.in_ok-code.ensures)

pub returns-clause-layers : goal.returns-clause-layers
returns-clause-layers c = IfOk-weaker c.compile_code.result (IsCircuitOf (tree_of c.args.source.now)) (λ x. depth_of x ≡ source_layers (tree_of c.args.source.now)) (λ _ h. h.layers) (c.compile_code.ensures.circuit (tree_of c.args.source.now) c.in_ok-code.ensures)

pub returns-clause-outputs : goal.returns-clause-outputs
returns-clause-outputs c = IfOk-weaker c.compile_code.result (IsCircuitOf (tree_of c.args.source.now)) (HasSourceValues (statements_of c.args.source.now.statements)) (λ _ h. h.outputs) (c.compile_code.ensures.circuit (tree_of c.args.source.now) c.in_ok-code.ensures)

pub returns-clause-reduced : goal.returns-clause-reduced
returns-clause-reduced c = IfOk-weaker c.compile_code.result (IsCircuitOf (tree_of c.args.source.now)) HasReducedLayers (λ _ h. h.reduced) (c.compile_code.ensures.circuit (tree_of c.args.source.now) c.in_ok-code.ensures)

pub returns-clause-within : goal.returns-clause-within
returns-clause-within c = c.compile_code.ensures.within (tree_of c.args.source.now) c.in_ok-code.ensures

pub returns-clause-fault : goal.returns-clause-fault
returns-clause-fault c = c.compile_code.ensures.fault (tree_of c.args.source.now) c.in_ok-code.ensures
