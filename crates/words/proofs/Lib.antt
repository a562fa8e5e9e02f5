-- The laws that the writer of several numbers cites.
pub mod Numbers
