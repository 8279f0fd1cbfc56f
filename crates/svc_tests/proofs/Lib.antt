pub mod Asked
mod OneSender
mod Pair
mod TwoReaders
