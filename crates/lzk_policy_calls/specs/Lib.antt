pub mod Policies
pub mod Room
pub mod Shows
pub mod Circuits
pub mod Digests
pub mod Publics
pub mod Given
pub mod Inputs
pub mod Telling
pub mod Outcomes
pub mod Exports
pub use Rattle.lzk_calls.specs as lzk_calls
pub use Rattle.lzk_policy_texts.specs as lzk_policy_texts
