pub mod HeadLaws
pub mod KindLaws
pub mod MeetingLaws
pub mod MeetingsTable
pub mod Tests
pub mod WordLaws
pub mod OneField
