-- In the order to read them: the original, ours beside it with the rows where they differ, a port that one saves and the other restores.
pub mod Original
pub mod Beside
pub mod Restored
