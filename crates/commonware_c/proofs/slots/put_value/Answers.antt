use Rattle.std.proofs.Common.{◌≡◌, ◌∙◌, ◌+◌, ◌≤◌, ◌++◌, ℕ, List, length, arith, length-append}
use Rattle.commonware_base.specs.Varint.{varint}
use Rattle.commonware_c.specs.Splices.{spliced}
use Rattle.commonware_c.proofs.Spliced.{length_on, spliced_on}
use Rattle.commonware_c.proofs.slots.put_value.Goals as goal

module _ (s d room : List ℕ) (enough : length ((varint (length s) ++ s) ++ d) ≤ length room) where
  -- how many bytes there are up to the decision
  to_decision : length (varint (length s)) + length s + length d ≤ length room
  to_decision =
      let front = length-append (varint (length s)) s in
      let all = length-append (varint (length s) ++ s) d in
      omega (arith, front, all, enough)

  -- the slot is after its length
  slot_there : (out1 out2 : List ℕ) (at : ℕ) → at ≡ 0 + length (varint (length s))
      → out1 ≡ spliced 0 (varint (length s)) room → out2 ≡ spliced at s out1
      → out2 ≡ spliced 0 (varint (length s) ++ s) room
  slot_there out1 out2 at place written more =
      more ∙ spliced_on 0 at (varint (length s)) s out1 room (omega (arith, to_decision)) place written

pub put_bytes-decision_at-requires : goal.put_bytes-decision_at-requires
put_bytes-decision_at-requires c =
    let s = c.args.slot.now in
    let all = to_decision s c.args.decision.now c.args.out.now c.requires.enough in
    let room = length_on 0 (varint (length s)) c.put_varint-slot_at.new.out c.args.out.now (omega (arith, all))
    c.put_varint-slot_at.ensures.bytes in
    omega (arith, all, room, c.put_varint-slot_at.ensures.place)

pub put_bytes-requires : goal.put_bytes-requires
put_bytes-requires c =
    let s = c.args.slot.now in
    let d = c.args.decision.now in
    let all = to_decision s d c.args.out.now c.requires.enough in
    let there = slot_there s d c.args.out.now c.requires.enough c.put_varint-slot_at.new.out
    c.put_bytes-decision_at.new.out c.put_varint-slot_at.result c.put_varint-slot_at.ensures.place
    c.put_varint-slot_at.ensures.bytes c.put_bytes-decision_at.ensures.bytes in
    let room = length_on 0 (varint (length s) ++ s) c.put_bytes-decision_at.new.out c.args.out.now
    (omega (arith, all, length-append (varint (length s)) s)) there in
    omega (arith, all, room, c.put_varint-slot_at.ensures.place, c.put_bytes-decision_at.ensures.place)

pub returns : goal.returns
returns c =
    let s = c.args.slot.now in
    let d = c.args.decision.now in
    let all = to_decision s d c.args.out.now c.requires.enough in
    let front = length-append (varint (length s)) s in
    let there = slot_there s d c.args.out.now c.requires.enough c.put_varint-slot_at.new.out
    c.put_bytes-decision_at.new.out c.put_varint-slot_at.result c.put_varint-slot_at.ensures.place
    c.put_varint-slot_at.ensures.bytes c.put_bytes-decision_at.ensures.bytes in
    c.put_bytes.ensures.bytes
    ∙ spliced_on 0 c.put_bytes-decision_at.result (varint (length s) ++ s) d c.put_bytes-decision_at.new.out
    c.args.out.now (omega (arith, all, front))
    (omega (arith, front, c.put_varint-slot_at.ensures.place, c.put_bytes-decision_at.ensures.place)) there
