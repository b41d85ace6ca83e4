pub mod Scripts
pub mod Playing
pub mod PrintLemmas
pub use Rattle.rbc_world.proofs as rbc_world_lemmas
