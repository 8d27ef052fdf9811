pub mod Digits
pub mod Grammar
pub mod KeyViews
pub mod Keys
pub mod Table
pub mod Views
pub mod Words
