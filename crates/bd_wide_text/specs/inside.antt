pub mod Limited
pub mod LaidOutAnew
