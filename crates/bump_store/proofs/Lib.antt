mod Starts
mod LaneLemmas
mod SettlingLemmas
mod PassLemmas
mod FinishingLemmas
mod RunLemmas
mod MeetingLemmas
