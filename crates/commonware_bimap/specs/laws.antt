pub mod BiMapLaws
