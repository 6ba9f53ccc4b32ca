pub mod AnswerLemmas
pub mod SearchLemmas
pub mod CodedLemmas
pub mod FindLemmas
pub mod NumberLemmas
pub mod QuestionLemmas
pub mod RenumberLemmas
pub mod PrinterLemmas
