pub mod KeptFacts
mod MarkFacts
mod ParcelFacts
