pub mod Common
pub mod bits
pub mod network
pub mod opening
pub mod routers
pub mod stuck
pub mod wiring
