mod NameLaws
mod RangeLaws
