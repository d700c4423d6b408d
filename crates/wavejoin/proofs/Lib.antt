pub mod FilesLaws
pub mod RoomLaws
