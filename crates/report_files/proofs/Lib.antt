-- The law that the search cites.
mod Unlisted
