pub mod PutTexts
pub mod Text
