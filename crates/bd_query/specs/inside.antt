pub mod FilterMatch
