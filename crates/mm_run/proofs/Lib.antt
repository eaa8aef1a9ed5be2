mod AnAnswer
mod AReport
mod FromSmall
mod OneAnswer
mod OneAnswerCause
mod OneAnswerSchedule
mod OneReport
mod Refused
pub mod Alike
pub mod Answered
pub mod Answering
pub mod Completing
pub mod Parting
pub mod ReadAgain
pub mod Reading
pub mod Replaying
pub mod Sound
pub mod Straight
pub mod Weaving
pub mod Wording
pub mod Writing
