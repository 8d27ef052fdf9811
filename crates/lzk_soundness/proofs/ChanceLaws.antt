pub mod Alls
pub mod Counting
pub mod FewLaws
pub mod Lists
pub mod Sets
pub mod Splitting
