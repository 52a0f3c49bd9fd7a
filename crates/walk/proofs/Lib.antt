mod Buffering
mod Counting
mod Cutting
mod Parts
mod Putting
mod Taking
mod Verdicts
mod Writing
