-- Numbers in bytes.
pub mod BigEndian
