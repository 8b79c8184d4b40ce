mod CountLaws
mod BuildLaws
