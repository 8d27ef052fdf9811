pub mod Partials
pub mod LinesLeft
pub mod TextLaws
