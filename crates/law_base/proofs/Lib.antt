pub mod WalkLemmas
pub mod RulesLemmas
pub mod CountingLemmas
pub mod LocalLemmas
pub mod PiecesLemmas
