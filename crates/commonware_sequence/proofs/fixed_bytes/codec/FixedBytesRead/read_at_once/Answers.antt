use Rattle.std.proofs.Common.{◌≡◌, ◌*◌, ◌<◌, ◌≤◌, length, arith, true, false, inl, inr}
use Rattle.std.proofs.lemmas.Bool.{cases_lt}
use Rattle.commonware_base.specs.laws.ItemsLaws.{each_allowed, items_lack, items_want}
use Rattle.commonware_base.specs.Source.{rest_of}
use Rattle.commonware_base.specs.laws.SourceLaws.{rest_bytes}
use Rattle.commonware_sequence.specs.laws.FixedBytesLaws.{fixed_laws}
use Rattle.commonware_sequence.specs.FixedBytes.{IsOfSize, own_bytes, size_fault}
use Rattle.commonware_sequence.proofs.fixed_bytes.codec.FixedBytesRead.read_at_once.Goals as goal

pub returns-in_default-clause-refused : goal.returns-in_default-clause-refused
returns-in_default-clause-refused g c =
    let rest = rest_of c.args.src.now in
    let fewer : length rest < c.args.count * g.row.N = elim (cases_lt (length rest) (c.args.count * g.row.N)) [
      | inl less ↦ less
      | inr more ↦ absurd (c.in_default.ensures (omega (arith, more, c.remaining-left.ensures, c.remaining-left.type_inv)))
    ] in
    items_lack own_bytes (IsOfSize g.row.N) (size_fault g.row.N) g.row.N (λ v w. w.count) (λ s f w. w) (fixed_laws g.row.N).accepted_or_faulty c.args.count rest (rest_bytes c.args.src.now) fewer

pub returns-then-left-room-clause-refused : goal.returns-then-left-room-clause-refused
returns-then-left-room-clause-refused g c =
    let rest = rest_of c.args.src.now in
    let fewer : length rest < c.args.count * g.row.N = omega (arith, c.if-left-room.true, c.remaining-left.ensures, c.in-Some.ensures) in
    items_lack own_bytes (IsOfSize g.row.N) (size_fault g.row.N) g.row.N (λ v w. w.count) (λ s f w. w) (fixed_laws g.row.N).accepted_or_faulty c.args.count rest (rest_bytes c.args.src.now) fewer

pub returns-in_default-with_capacity-clause-refused : goal.returns-in_default-with_capacity-clause-refused
returns-in_default-with_capacity-clause-refused g c =
    let rest = rest_of c.args.src.now in
    let enough : c.args.count * g.row.N ≤ length rest = omega (arith, c.if-left-room.false, c.remaining-left.ensures, c.in-Some.ensures) in
    items_want own_bytes (IsOfSize g.row.N) (size_fault g.row.N) g.row.N (λ v w. w.count) (λ s f w. w) (fixed_laws g.row.N).accepted_or_faulty c.args.count rest (rest_bytes c.args.src.now) (λ z. let never : false ≡ true = c.in_default-with_capacity.ensures.succeeds z in absurd (cc)) enough

pub returns-clause-allowed : goal.returns-clause-allowed
returns-clause-allowed g c = each_allowed c.loop.items.items
