-- What docs/TOUR.md shows, by the definitions alone.
pub mod Tour
