pub mod StorageLaws
