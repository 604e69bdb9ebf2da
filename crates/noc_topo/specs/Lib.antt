pub mod Lists
pub mod Shape
pub mod Filled
pub mod Inside
pub mod Titles
