use Rattle.std.proofs.Common.{◌≡◌, refl, arith, subst}
use Rattle.commonware_base.proofs.Errors.{err_along}
use Rattle.committee_certificates.proofs.Counted.{CountedSoFar, counted_all, counted_faulty, counted_more, counted_none}
use Rattle.committee_certificates.proofs.Counted.{counted_outside, counted_unsorted}
use Rattle.committee_certificates.proofs.in_place.find_signers.Goals as goal

pub returns-then-not-contains-clause-refused : goal.returns-then-not-contains-clause-refused
returns-then-not-contains-clause-refused c =
    counted_outside c.args.range c.in_ok-count.count c.args.src.now c.read_varint.new.src c.in_ok-count.ensures.fits
    (λ w. cc (c.if-not-contains.ensures.1 w)) c.in_ok-count.ensures.consumed

pub loop-init : goal.loop-init
loop-init c =
    counted_none c.args.range c.in_ok-count.count c.args.src.now c.read_varint.new.src c.in_ok-count.ensures.fits
    (c.if-not-contains.ensures.0 refl) c.in_ok-count.ensures.consumed

pub returns-in_err-index-clause-refused : goal.returns-in_err-index-clause-refused
returns-in_err-index-clause-refused c =
    err_along c.from_residual-in_err-index.result c.in_err-index.field-0.0 _ c.from_residual-in_err-index.ensures.1
    (counted_faulty c.args.range c.in_ok-count.count c.args.src.now c.loop.counter c.loop.past c.loop.rising c.loop.here
    c.loop.invariant c.in_err-index.field-0.0 c.loop-test.true c.in_err-index.ensures.refused)

pub loop-preserved : goal.loop-preserved
loop-preserved c =
    rw c.from-past.ensures
    (counted_more c.args.range c.in_ok-count.count c.args.src.now c.loop.counter c.loop.past c.loop.rising c.loop.here
    c.loop.invariant c.read_varint-in-loop.new.src c.in_ok-index.index c.is_still_rising-rising.result
    c.in_ok-index.ensures.fits c.in_ok-index.ensures.consumed c.is_still_rising-rising.ensures)

pub returns-then-not-rising-clause-refused : goal.returns-then-not-rising-clause-refused
returns-then-not-rising-clause-refused c =
    let n : c.loop.counter ≡ c.in_ok-count.count = omega arith in
    counted_unsorted c.args.range c.in_ok-count.count c.args.src.now c.loop.past c.loop.rising c.loop.here
    (subst (λ k. CountedSoFar c.args.range c.in_ok-count.count k c.args.src.now c.loop.here c.loop.past c.loop.rising) n
    c.loop.invariant) (λ e. cc (e, c.if-not-rising.true))

pub returns-clause-accepted : goal.returns-clause-accepted
returns-clause-accepted c =
    let n : c.loop.counter ≡ c.in_ok-count.count = omega arith in
    counted_all c.args.range c.in_ok-count.count c.args.src.now c.loop.past c.loop.rising c.loop.here
    (subst (λ k. CountedSoFar c.args.range c.in_ok-count.count k c.args.src.now c.loop.here c.loop.past c.loop.rising) n
    c.loop.invariant) (cc (c.if-not-rising.false)) c.read_varint.new.src c.in_ok-count.ensures.consumed
