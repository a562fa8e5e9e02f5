-- The laws that the functions cite.
mod KeyBounds
mod Keys
mod Numbers
mod PlainLines
mod Places
