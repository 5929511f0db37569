pub mod EitherWay
pub mod MixLevels
pub mod NarrowLevels
pub mod QuadLevels
pub mod UnmixLevels
