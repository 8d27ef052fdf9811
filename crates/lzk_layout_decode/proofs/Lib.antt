pub mod AnswerLaws
pub mod OpenedLaws
pub mod FirstFaultLaws
