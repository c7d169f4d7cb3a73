pub mod Tape
