use Rattle.std.proofs.Common.{◌≡◌, ◌<◌, ◌≤◌, length, take, refl, ap, sym, ◌∙◌, arith}
use Rattle.std.specs.List.{flat_map}
use Rattle.commonware_base.specs.Bytes.{byte, byte_fault}
use Rattle.commonware_base.specs.laws.ByteLaws.{byte_laws}
use Rattle.commonware_base.specs.laws.ItemsLaws.{each_allowed, items_lack, items_want}
use Rattle.commonware_base.specs.Source.{rest_of}
use Rattle.commonware_base.specs.laws.SourceLaws.{rest_bytes}
use Rattle.commonware_base.specs.Text.{IsByte}
use Rattle.commonware_base.proofs.ByteSteps.{byte_short, bytes_join}
use Rattle.commonware_base.proofs.SourceLemmas.{consumes_front}
use Rattle.std.proofs.lemmas.Grind.{common_steps}
use Rattle.commonware_base.proofs.codec.primitives.U8Read.read_at_once.Goals as goal

pub returns-then-lacks-clause-refused : goal.returns-then-lacks-clause-refused
returns-then-lacks-clause-refused g c =
    let fewer : length (rest_of c.args.src.now) < c.args.count = c.if-lacks.ensures.0 refl in
    items_lack byte IsByte byte_fault 1 (λ v w. refl) byte_short byte_laws.accepted_or_faulty c.args.count (rest_of c.args.src.now) (rest_bytes c.args.src.now) (omega (arith, fewer))

pub returns-in_default-clause-refused : goal.returns-in_default-clause-refused
returns-in_default-clause-refused g c =
    let not_fewer : ¬ (length (rest_of c.args.src.now) < c.args.count) = λ w. cc (c.if-lacks.ensures.1 w) in
    items_want byte IsByte byte_fault 1 (λ v w. refl) byte_short byte_laws.accepted_or_faulty c.args.count (rest_of c.args.src.now) (rest_bytes c.args.src.now) c.if-count-eq0.false (omega (arith, not_fewer))

pub returns-clause-consumed : goal.returns-clause-consumed
returns-clause-consumed g c =
    let not_fewer : ¬ (length (rest_of c.args.src.now) < c.args.count) = λ w. cc (c.if-lacks.ensures.1 w) in
    let enough : c.args.count ≤ length (rest_of c.args.src.now) = omega (arith, not_fewer) in
    let same : take c.args.count (rest_of c.args.src.now) ≡ flat_map byte c.in-Ok.items.items = ap (take c.args.count) (sym c.rest-rest.ensures) ∙ sym (bytes_join c.in-Ok.items.items ∙ c.in-Ok.ensures.items) in
    consumes_front c.args.src.now c.advance.new.self c.args.count _ c.advance.ensures.bytes c.advance.ensures.position enough same

pub returns-clause-allowed : goal.returns-clause-allowed
returns-clause-allowed g c = each_allowed c.in-Ok.items.items

pub returns-clause-writable : goal.returns-clause-writable
returns-clause-writable g c = grind (arith, common_steps)
