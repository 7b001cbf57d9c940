pub mod lemmas
pub mod Numbers
