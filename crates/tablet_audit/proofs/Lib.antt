mod FirstFrames
mod Recordings
mod SharedFrames
