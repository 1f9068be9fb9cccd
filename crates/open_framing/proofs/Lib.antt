pub mod Computing
pub mod PieceLemmas
pub mod FrameLemmas
pub mod LineLemmas
