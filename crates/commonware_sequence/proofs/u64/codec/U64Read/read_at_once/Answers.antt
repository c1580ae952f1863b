use Rattle.std.proofs.Common.{◌≡◌, ◌*◌, ◌<◌, ◌≤◌, length, arith, refl, true, false}
use Rattle.commonware_base.specs.laws.ItemsLaws.{each_allowed, items_lack, items_want}
use Rattle.commonware_base.specs.Source.{rest_of}
use Rattle.commonware_base.specs.laws.SourceLaws.{rest_bytes}
use Rattle.commonware_sequence.specs.U64.{u64_bytes, IsU64, u64_fault}
use Rattle.commonware_sequence.specs.laws.U64Laws.{u64_laws}
use Rattle.std.proofs.lemmas.Grind.{common_steps}
use Rattle.commonware_sequence.proofs.u64.codec.U64Read.read_at_once.Goals as goal

pub returns-then-remaining-count-clause-refused : goal.returns-then-remaining-count-clause-refused
returns-then-remaining-count-clause-refused g c =
    let fewer : length (rest_of c.args.src.now) < c.args.count * 8 = omega (arith, c.if-remaining-count.true, c.remaining.ensures) in
    items_lack u64_bytes IsU64 u64_fault 8 (λ v w. refl) (λ s f w. w) u64_laws.accepted_or_faulty c.args.count (rest_of c.args.src.now) (rest_bytes c.args.src.now) fewer

pub returns-in_default-clause-refused : goal.returns-in_default-clause-refused
returns-in_default-clause-refused g c =
    let enough : c.args.count * 8 ≤ length (rest_of c.args.src.now) = omega (arith, c.if-remaining-count.false, c.remaining.ensures) in
    items_want u64_bytes IsU64 u64_fault 8 (λ v w. refl) (λ s f w. w) u64_laws.accepted_or_faulty c.args.count (rest_of c.args.src.now) (rest_bytes c.args.src.now) (λ z. let never : false ≡ true = c.in_default.ensures.succeeds z in absurd (cc)) enough

pub returns-clause-allowed : goal.returns-clause-allowed
returns-clause-allowed g c = each_allowed c.loop.items.items

pub loop-preserved : goal.loop-preserved
loop-preserved g c = grind (arith, common_steps)
