pub mod RecoverCall
pub mod StripesLaid
