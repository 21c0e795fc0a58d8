pub mod CatalogData
pub mod CatalogText
pub mod Readable
