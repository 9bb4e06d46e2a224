mod Lines
mod Telling
mod Whole
