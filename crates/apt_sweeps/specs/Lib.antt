pub mod ArcSweeps
