-- What lines of a script print themselves.
pub mod Own
