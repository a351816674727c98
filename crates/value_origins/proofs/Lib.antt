mod Idle
mod Noted
