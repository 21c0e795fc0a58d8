pub mod PlainEntry
