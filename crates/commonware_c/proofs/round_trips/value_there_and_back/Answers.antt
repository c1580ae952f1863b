-- What is written is the value of the slot and of the decision, and of no others.
use Rattle.std.proofs.Common.{◌≡◌, ◌∙◌, inl, rules, sym}
use Rattle.std.specs.Cmp.Lexicographic.{bytes_decides}
use Rattle.commonware_c.proofs.ReadBack.{written_value}
use Rattle.commonware_c.proofs.round_trips.value_there_and_back.Goals as goal

pub returns-then-eq : goal.returns-then-eq
returns-then-eq c =
    let view = c.commonware_slot_value-written.result in
    let write = c.commonware_slot_value-written.ensures in
    let ok : view.status ≡ 0 = search rules in
    let same = c.in-Some.ensures.only c.args.slot.now c.args.decision.now
    (written_value c.args.slot.now c.args.decision.now c.args.room.now c.commonware_slot_value-written.new.out view.size
    (write.exactly.0 ok).0.0 (write.written ok) (write.size (inl ok)).0) in
    c.eq-then-eq.ensures ∙ (bytes_decides _ _).1 (sym same.1)

pub returns-else-eq : goal.returns-else-eq
returns-else-eq c =
    let view = c.commonware_slot_value-written.result in
    let write = c.commonware_slot_value-written.ensures in
    let ok : view.status ≡ 0 = search rules in
    let same = c.in-Some.ensures.only c.args.slot.now c.args.decision.now
    (written_value c.args.slot.now c.args.decision.now c.args.room.now c.commonware_slot_value-written.new.out view.size
    (write.exactly.0 ok).0.0 (write.written ok) (write.size (inl ok)).0) in
    c.eq.ensures ∙ (bytes_decides _ _).1 (sym same.0)
