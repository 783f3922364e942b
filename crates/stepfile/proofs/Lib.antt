-- Where the first line feed stands.
mod Feeds
