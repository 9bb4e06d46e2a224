mod Searching
mod Restamping
mod StampWriting
