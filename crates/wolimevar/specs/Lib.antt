pub mod Homes
pub mod Stores
pub mod StoreSeats
pub mod Splits
pub mod Sessions
pub mod Lenders
pub mod UnreadStores
