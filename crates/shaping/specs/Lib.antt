pub mod RightAligned
