pub mod Deals
pub mod Serving
