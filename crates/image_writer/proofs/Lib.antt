mod FieldLaws
mod LinkLaws
mod CopyLaws
mod JoinLaws
mod TextLaws
mod ImageLaws
