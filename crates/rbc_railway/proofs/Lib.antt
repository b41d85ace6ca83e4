mod Moments
mod Trains
mod Leading
mod Moves
mod Safe
mod Verdicts
