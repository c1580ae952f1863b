use Rattle.std.proofs.Common.{◌≡◌, ◌∙◌, ◌+◌, ◌≤◌, ◌++◌, ℕ, List, length, arith, ap, sym, length-append}
use Rattle.std.specs.List.{flat_map}
use Rattle.commonware_base.specs.Varint.{varint}
use Rattle.committee_certificates.specs.Certificates.{certificate_enc}
use Rattle.commonware_c.specs.Splices.{spliced}
use Rattle.commonware_c.proofs.EncodingLemmas.{before_signers, encoded_as, encoded_length}
use Rattle.commonware_c.proofs.Spliced.{length_on, spliced_on}
use Rattle.commonware_c.proofs.encoded.put_certificate.Goals as goal

pub put_bytes-count_at-requires : goal.put_bytes-count_at-requires
put_bytes-count_at-requires c =
    let v = c.args.value.now in
    let long = encoded_length v c.args.signers.now in
    let room = length_on 0 (varint (length v)) c.put_varint-value_at.new.out c.args.out.now (omega (arith, long, c.requires.enough)) c.put_varint-value_at.ensures.bytes in
    omega (arith, long, c.requires.enough, room, c.put_varint-value_at.ensures.place)

-- how many bytes there are up to the value's end, and up to the signers
module _ (v s : List ℕ) where
  to_value : length (varint (length v) ++ v) ≡ length (varint (length v)) + length v
  to_value = length-append (varint (length v)) v

  to_signers : length (before_signers v s) ≡ length (varint (length v)) + length v + length (varint (length s))
  to_signers = let n = length-append (varint (length v) ++ v) (varint (length s)) in omega (arith, n, to_value)

  -- the value is after its length
  valued : (out1 out2 room : List ℕ) (at : ℕ) → length (certificate_enc (v, s)) ≤ length room
      → at ≡ 0 + length (varint (length v)) → out1 ≡ spliced 0 (varint (length v)) room → out2 ≡ spliced at v out1
      → out2 ≡ spliced 0 (varint (length v) ++ v) room
  valued out1 out2 room at enough place written more =
      let long = encoded_length v s in
      more ∙ spliced_on 0 at (varint (length v)) v out1 room (omega (arith, long, enough)) place written

  -- and then the number of signers
  counted : (out2 out3 room : List ℕ) (at next : ℕ) → length (certificate_enc (v, s)) ≤ length room
      → at ≡ 0 + length (varint (length v)) → next ≡ at + length v → out2 ≡ spliced 0 (varint (length v) ++ v) room
      → out3 ≡ spliced next (varint (length s)) out2 → out3 ≡ spliced 0 (before_signers v s) room
  counted out2 out3 room at next enough place on written more =
      let long = encoded_length v s in
      more ∙ spliced_on 0 next (varint (length v) ++ v) (varint (length s)) out2 room
      (omega (arith, long, to_value, enough)) (omega (arith, to_value, place, on)) written

pub put_varint-signers_at-requires : goal.put_varint-signers_at-requires
put_varint-signers_at-requires c =
    let v = c.args.value.now in
    let s = c.args.signers.now in
    let long = encoded_length v s in
    let value_there = valued v s c.put_varint-value_at.new.out c.put_bytes-count_at.new.out c.args.out.now c.put_varint-value_at.result
    c.requires.enough c.put_varint-value_at.ensures.place c.put_varint-value_at.ensures.bytes c.put_bytes-count_at.ensures.bytes in
    let room = length_on 0 (varint (length v) ++ v) c.put_bytes-count_at.new.out c.args.out.now (omega (arith, long, to_value v s, c.requires.enough)) value_there in
    omega (arith, long, c.requires.enough, room, c.put_bytes-count_at.ensures.place, c.put_varint-value_at.ensures.place)

pub put_signers-requires : goal.put_signers-requires
put_signers-requires c =
    let v = c.args.value.now in
    let s = c.args.signers.now in
    let long = encoded_length v s in
    let value_there = valued v s c.put_varint-value_at.new.out c.put_bytes-count_at.new.out c.args.out.now c.put_varint-value_at.result
    c.requires.enough c.put_varint-value_at.ensures.place c.put_varint-value_at.ensures.bytes c.put_bytes-count_at.ensures.bytes in
    let count_there = counted v s c.put_bytes-count_at.new.out c.put_varint-signers_at.new.out c.args.out.now c.put_varint-value_at.result c.put_bytes-count_at.result
    c.requires.enough c.put_varint-value_at.ensures.place c.put_bytes-count_at.ensures.place value_there c.put_varint-signers_at.ensures.bytes in
    let room = length_on 0 (before_signers v s) c.put_varint-signers_at.new.out c.args.out.now (omega (arith, long, to_signers v s, c.requires.enough)) count_there in
    omega (arith, long, c.requires.enough, room, c.put_varint-signers_at.ensures.place, c.put_bytes-count_at.ensures.place, c.put_varint-value_at.ensures.place)

pub returns : goal.returns
returns c =
    let v = c.args.value.now in
    let s = c.args.signers.now in
    let long = encoded_length v s in
    let value_there = valued v s c.put_varint-value_at.new.out c.put_bytes-count_at.new.out c.args.out.now c.put_varint-value_at.result
    c.requires.enough c.put_varint-value_at.ensures.place c.put_varint-value_at.ensures.bytes c.put_bytes-count_at.ensures.bytes in
    let count_there = counted v s c.put_bytes-count_at.new.out c.put_varint-signers_at.new.out c.args.out.now c.put_varint-value_at.result c.put_bytes-count_at.result
    c.requires.enough c.put_varint-value_at.ensures.place c.put_bytes-count_at.ensures.place value_there c.put_varint-signers_at.ensures.bytes in
    c.put_signers.ensures
    ∙ spliced_on 0 c.put_varint-signers_at.result (before_signers v s) (flat_map varint s) c.put_varint-signers_at.new.out c.args.out.now
    (omega (arith, long, to_signers v s, c.requires.enough))
    (omega (arith, to_signers v s, c.put_varint-signers_at.ensures.place, c.put_bytes-count_at.ensures.place, c.put_varint-value_at.ensures.place)) count_there
    ∙ ap (λ t. spliced 0 t c.args.out.now) (sym (encoded_as v s))
