pub mod Cells
pub mod Picture
pub mod Fits
pub mod Widths
pub mod Kept
pub mod Least
pub mod Shown
