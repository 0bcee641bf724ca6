pub mod RectLemmas
pub mod BufferLemmas
pub mod CellLemmas
pub mod StyleLemmas
pub mod VisitedLemmas
pub mod ShownLemmas
pub mod BufferRowsLemmas
pub mod CaptionLemmas
