-- The definitions of `sequence`: bytes of a fixed size, which are their own encoding, their order and their digits, and
-- numbers of 64 bits in eight bytes.
pub use Rattle.commonware_sequence.specs.FixedBytes.{IsOfSize, bytes_cmp, own_bytes, size_fault}
pub use Rattle.commonware_sequence.specs.Hex.{hex_digits, hex_text}
pub use Rattle.commonware_sequence.specs.U64.{IsU64, u64_bytes, u64_fault}
