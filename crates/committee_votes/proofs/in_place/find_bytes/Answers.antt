use Rattle.std.proofs.Common.{refl, arith, sym, subst, take}
use Rattle.committee_votes.proofs.FoundVote.{AreFound, bytes_found, bytes_lack, bytes_outside}
use Rattle.committee_votes.proofs.in_place.find_bytes.Goals as goal

pub returns-then-not-contains-clause-refused : goal.returns-then-not-contains-clause-refused
returns-then-not-contains-clause-refused c =
    bytes_outside c.args.range c.in_ok-length.length c.args.src.now c.read_varint.new.src c.in_ok-length.ensures.fits
    c.in_ok-length.ensures.consumed (λ w. cc (c.if-not-contains.ensures.1 w))

pub returns-then-remaining-length-clause-refused : goal.returns-then-remaining-length-clause-refused
returns-then-remaining-length-clause-refused c =
    bytes_lack c.args.range c.in_ok-length.length c.args.src.now c.read_varint.new.src c.in_ok-length.ensures.fits
    c.in_ok-length.ensures.consumed (c.if-not-contains.ensures.0 refl)
    (omega (arith, c.remaining.ensures, c.if-remaining-length.true))

pub returns-clause-accepted : goal.returns-clause-accepted
returns-clause-accepted c =
    subst (λ r. AreFound c.args.range c.args.src.now (take c.in_ok-length.length r) c.advance.new.self)
    (sym c.rest.ensures)
    (bytes_found c.args.range c.in_ok-length.length c.args.src.now c.read_varint.new.src c.in_ok-length.ensures.fits
    c.in_ok-length.ensures.consumed (c.if-not-contains.ensures.0 refl)
    (omega (arith, c.remaining.ensures, c.if-remaining-length.false)) c.advance.new.self c.advance.ensures.bytes
    c.advance.ensures.position)
