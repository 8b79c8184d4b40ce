-- One tree in two images: `SameTree` has the theorems, by `WalksAlike`; `SameTreeWitness` has an image of the bench tree that shares its texts (`SharedImage`), by `SameColumns`.
-- What is written reads back: `Written` has the theorems, by `Moved`, a tree whose texts lie as they are written, and `ReadsBack`, that it is what is read
-- back, which rests on `ImageCut`, `Columns` and `Joined`; `WrittenWitness` has parts that meet their premises (`WrittenParts`).
pub mod WalksAlike
pub mod SameTree
pub mod SameColumns
pub mod SharedImage
pub mod SameTreeWitness
pub mod Joined
pub mod Columns
pub mod Moved
pub mod ImageCut
pub mod ReadsBack
pub mod Written
pub mod WrittenParts
pub mod WrittenWitness
