mod Counts
mod Playing
