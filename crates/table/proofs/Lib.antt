mod CheckLaws
mod PartLaws
mod RuleLaws
mod WholeLaws
