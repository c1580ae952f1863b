-- An input that lists keys and then as many values.
use Rattle.std.specs.Prelude.{ℕ, List, length}
use Rattle.commonware_utils.specs.Codec.{Bounds, exactly, list_enc, IsAllowedList, IsListMemoryFree, IsWritableList}
use Rattle.commonware_utils.specs.Codec.{ListFault}
use Rattle.commonware_utils.specs.Codec.{IsAllowedSequence, IsWritableSequence, SequenceFault, sequence_enc}
use Rattle.commonware_utils.specs.Ordered.{AreAllowedValues}
use Rattle.judge_verdicts.specs.Readings.{Reading}

-- two lists one after the other, the second as long as the first
abbrev pub columns_of : Bounds ℕ → Reading → Reading → Reading
columns_of range key value = record {
  Value = List key.Value × List value.Value;
  enc = sequence_enc (list_enc key.enc) (list_enc value.enc);
  Writable = IsWritableSequence (IsWritableList key.Writable) (IsWritableList value.Writable);
  Allowed = IsAllowedSequence (IsAllowedList range key.Allowed) (AreAllowedValues value.Allowed);
  HasFault =
      SequenceFault (list_enc key.enc) (IsWritableList key.Writable) (IsAllowedList range key.Allowed)
      (ListFault key.enc key.Writable key.Allowed key.HasFault range)
      (λ keys. ListFault value.enc value.Writable value.Allowed value.HasFault (exactly (length keys)));
  MemoryFree = IsListMemoryFree key.HasFault key.MemoryFree range;
  items = λ columns. length columns.0;
}
