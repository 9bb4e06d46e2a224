pub mod ByteDigits
