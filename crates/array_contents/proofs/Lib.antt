pub mod PassLaws
pub mod Wrapping
pub mod ColumnLaws
pub mod CellLaws
pub mod RoomLaws
pub mod PlaceLaws
pub mod ShareLaws
pub mod RankLaws
