pub mod Lines
pub mod Policies
pub use Rattle.lzk_expr.specs
