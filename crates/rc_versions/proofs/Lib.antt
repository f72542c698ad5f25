mod HeadFacts
mod PageFacts
mod RowFacts
