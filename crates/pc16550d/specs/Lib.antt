-- In the order to read them: the chip, the device beside it with the rows where they differ, whole runs of both, runs that drivers make,
-- what holds behind a first row.
pub mod Chip
pub mod Compare
pub mod Runs
pub mod Drivers
pub mod Behind
