pub mod PivotLemmas
pub mod RankingLemmas
pub mod SortKeyLemmas
pub mod SortingLemmas
