pub mod Accepted
pub mod Chains
pub mod Complete
pub mod Laws
pub mod Made
pub mod OneEnd
pub mod Outcome
pub mod Promise
pub mod Run
pub mod RunSteps
pub mod Sights
pub mod SomeEnd
pub mod Status
pub use Rattle.lzk_cmd_words.specs as lzk_cmd_words
pub use Rattle.lzk_cmd_files.specs as lzk_cmd_files
pub use Rattle.lzk_cmd_circuits.specs as lzk_cmd_circuits
pub use Rattle.lzk_cmd_verify.specs as lzk_cmd_verify
pub use Rattle.lzk_cmd_batch.specs as lzk_cmd_batch
pub use Rattle.lzk_cmd_prove.specs as lzk_cmd_prove
pub use Rattle.lzk_outside.specs as lzk_outside
pub use Rattle.lzk_batch.specs as lzk_batch
pub use Rattle.lzk_circbytes.specs as lzk_circbytes
pub use Rattle.lzk_circuit.specs as lzk_circuit
pub use Rattle.lzk_expr.specs as lzk_expr
pub use Rattle.lzk_level.specs as lzk_level
pub use Rattle.lzk_layout.specs as lzk_layout
pub use Rattle.lzk_verify.specs as lzk_verify
pub use Rattle.lzk_demo.specs as lzk_demo
pub use Rattle.lzk_sha_circuit.specs as lzk_sha_circuit
pub use Rattle.lzk_ligero_proof.specs as lzk_ligero_proof
pub use Rattle.lzk_ligero.specs as lzk_ligero
pub use Rattle.lzk_goldilocks.specs as lzk_goldilocks
pub use Rattle.lzk_gf128.specs as lzk_gf128
pub use Rattle.lzk_field.specs as lzk_field
