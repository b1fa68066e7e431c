pub mod Chains
pub mod Triples
pub mod Surfaces
pub mod Counts
pub mod WordByWord
pub mod Heads
pub mod Pieces
pub mod VertexBytes
pub mod HeadLaws
pub mod Laws
pub mod Left
pub mod FieldLaws
pub mod RecordLaws
pub mod RecordOnly
pub mod ByteLaws
pub mod WordsFit
pub mod PieceLaws
mod Worked
mod WorkedRanges
pub mod Lengths
