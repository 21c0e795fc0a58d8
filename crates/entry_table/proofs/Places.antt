-- Where the entry of an id stands among entries whose ids ascend.
pub use Rattle.cache_index.proofs.Places.{has-place}
