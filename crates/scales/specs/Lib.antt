pub mod Scales
pub mod ThreeScales
pub mod Laws
