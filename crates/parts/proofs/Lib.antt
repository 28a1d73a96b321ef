-- For callers: what a scan says of the parts and of the fields, and fields of one byte.
pub mod PartLaws
pub mod OneByte
