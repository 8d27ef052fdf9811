pub mod Game
pub mod Laws
pub mod Numbers
