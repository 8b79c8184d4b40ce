mod DotLaws
mod EnterLaws
mod MoveLaws
mod RowLaws
mod LimitLaws
mod StepLaws
mod LinkLaws
