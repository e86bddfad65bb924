mod Progress
mod Pasts
mod Starts
mod Replays
