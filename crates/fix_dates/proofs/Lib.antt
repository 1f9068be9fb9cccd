pub mod CalendarFacts
pub mod DigitFacts
pub mod DayFacts
pub mod ClockFacts
pub mod StampFacts
pub mod MonthFacts
pub mod OneText
pub mod KindFacts
