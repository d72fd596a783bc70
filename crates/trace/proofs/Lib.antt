pub mod CleanTexts
pub mod RunTexts
