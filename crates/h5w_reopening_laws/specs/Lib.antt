pub mod Reopens
