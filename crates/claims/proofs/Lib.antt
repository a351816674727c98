mod Breaking
mod Counting
mod Words
