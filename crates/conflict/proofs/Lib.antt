pub mod RoomMapLemmas
pub mod EditionLemmas
pub mod LocationLemmas
pub mod MultisetLemmas
pub mod SortLemmas
pub mod CountLemmas
mod FewLemmas
