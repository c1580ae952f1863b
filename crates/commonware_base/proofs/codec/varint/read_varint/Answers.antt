use Rattle.std.proofs.Common.{◌≡◌, ℕ, ◌+◌, ◌≤◌, List, take, length, subst, ◌∙◌, ap, sym}
use Rattle.commonware_base.specs.declared.codec.source.Source.{Source}
use Rattle.commonware_base.specs.Source.{bytes_of, position_of, Consumes, rest_of}
use Rattle.commonware_base.specs.Varint.{IsVarint, varint}
use Rattle.commonware_base.proofs.SourceLemmas.{consumes_front}
use Rattle.commonware_base.specs.laws.VarintLaws.{varint_only}
use Rattle.commonware_base.proofs.codec.varint.read_varint.Goals as goal

-- an advance over the bytes of a number
over_varint : (old new : Source) (count number : ℕ) (bytes : List ℕ) → bytes ≡ rest_of old → count ≤ length bytes
    → IsVarint number (take count bytes) → bytes_of new ≡ bytes_of old → position_of new ≡ position_of old + count
    → Consumes old new (varint number)
over_varint old new count number bytes same within found kept moved =
    consumes_front old new count (varint number) kept moved (subst (λ r. count ≤ length r) same within)
    (ap (take count) (sym same) ∙ varint_only number (take count bytes) found)

pub returns-in-Some-clause-consumed : goal.returns-in-Some-clause-consumed
returns-in-Some-clause-consumed c =
    over_varint c.args.src.now c.advance.new.self c.in-Some.count c.in-Some.number c.rest-rest.result.now
    c.rest-rest.ensures c.in-Some.ensures.within c.in-Some.ensures.found c.advance.ensures.bytes
    c.advance.ensures.position

pub returns-clause-consumed : goal.returns-clause-consumed
returns-clause-consumed c =
    over_varint c.args.src.now c.advance-2.new.self c.in_ok-count.count c.groups_value-number.result
    c.rest-rest.result.now c.rest-rest.ensures c.in_ok-count.ensures.within
    (subst (λ n. IsVarint n (take c.in_ok-count.count c.rest-rest.result.now)) (sym c.groups_value-number.ensures)
    c.in_ok-count.ensures.found) c.advance-2.ensures.bytes c.advance-2.ensures.position
