-- What is claimed of earlier lives.
pub mod Earlier
