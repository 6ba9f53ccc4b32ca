pub mod AnswerLemmas
pub mod MatchLemmas
pub mod OrderLemmas
pub mod PageLemmas
pub mod QueryLemmas
pub mod RankLemmas
pub mod ReachLemmas
