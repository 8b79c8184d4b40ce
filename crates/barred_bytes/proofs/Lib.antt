pub mod BarredLaws
pub mod SeenLaws
