pub mod SavedVerdict
