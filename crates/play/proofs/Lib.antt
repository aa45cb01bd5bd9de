-- What a run's bytes mean and which runs have some, playing them one after the other, the words of the single calls, and which
-- bytes they say were accepted and delivered.
pub mod Decoding
pub mod Writing
pub mod Playing
pub mod Words
pub mod Accounted
pub mod Fitting
