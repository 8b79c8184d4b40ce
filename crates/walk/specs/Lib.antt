pub mod OpenTexts
