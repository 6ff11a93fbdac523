-- Blocks: the frame of one and its judgement, and an image as a header, a list of blocks and an end.
pub mod Blocks
pub mod Frames
pub mod Judged
pub mod Images
pub mod Code
pub mod Laws
