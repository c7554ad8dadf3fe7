pub mod Summary
