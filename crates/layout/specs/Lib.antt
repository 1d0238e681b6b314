pub mod Measure
pub mod Tiles
pub mod Places
pub mod Offsets
pub mod Walk
pub mod ForC
pub mod Asked
pub mod Traces
