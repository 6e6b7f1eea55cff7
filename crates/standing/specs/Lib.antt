pub mod Standing
pub mod StandingSound
pub mod LentMeaning
