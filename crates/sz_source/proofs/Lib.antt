mod Colons
mod Words
