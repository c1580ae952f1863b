pub mod BiMapReads
pub mod Keys
pub mod Refused
