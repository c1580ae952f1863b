use Rattle.std.proofs.Common.{◌≡◌, ◌∙◌, ◌+◌, ◌%◌, ◌≤◌, ◌<◌, ◌++◌, ◌∷◌, [], ℕ, List, length, slice_set, arith, ap, sym, length-append}
use Rattle.commonware_base.specs.Varint.{groups, varint}
use Rattle.commonware_base.specs.laws.VarintLaws.{Goes, goes_start, goes_step, goes_end, groups_not_empty}
use Rattle.commonware_c.specs.Splices.{spliced}
use Rattle.commonware_c.proofs.Spliced.{length_on, spliced_none, spliced_on, spliced_one}
use Rattle.commonware_c.proofs.rooms.put_varint.Goals as goal

-- one more byte is written after those that encode the number so far
step : (number left at next b : ℕ) (sofar out room : List ℕ) → at + length (varint number) ≤ length room
    → next ≡ at + length sofar → out ≡ spliced at sofar room → Goes number left sofar
    → slice_set out next b ≡ spliced at (sofar ++ b ∷ []) room
step number left at next b sofar out room enough place written goes =
    let more = groups_not_empty goes.more left in
    let whole : length (varint number) ≡ length sofar + length (groups goes.more left) = ap length goes.text ∙ length-append sofar (groups goes.more left) in
    let fits : at + length sofar ≤ length room = omega (arith, enough, whole) in
    let inside : next < length out = omega (arith, place, length_on at sofar out room fits written, enough, whole, more) in
    spliced_one next out b inside ∙ spliced_on at next sofar (b ∷ []) out room fits place written

pub loop-left-init : goal.loop-left-init
loop-left-init c =
    ([], omega arith, sym (spliced_none c.args.at c.args.out.now), goes_start c.args.number c.ranges.number.fits)

pub loop-left-preserved : goal.loop-left-preserved
loop-left-preserved c =
    let s = c.loop-left.invariant.0 in
    let b = c.loop-left.left % 128 + 128 in (
      s ++ b ∷ [],
      omega (arith, c.loop-left.invariant.1, length-append s (b ∷ [])),
      step c.args.number c.loop-left.left c.args.at c.loop-left.next b s c.loop-left.out c.args.out.now c.requires
          c.loop-left.invariant.1 c.loop-left.invariant.2 c.loop-left.invariant.3,
      goes_step c.args.number c.loop-left.left s c.loop-left.invariant.3 c.loop-left-test.true,
    )

pub returns-clause-bytes : goal.returns-clause-bytes
returns-clause-bytes c =
    let s = c.loop-left.invariant.0 in
    step c.args.number c.loop-left.left c.args.at c.loop-left.next c.loop-left.left s c.loop-left.out c.args.out.now c.requires
    c.loop-left.invariant.1 c.loop-left.invariant.2 c.loop-left.invariant.3
    ∙ ap (λ t. spliced c.args.at t c.args.out.now) (sym (goes_end c.args.number c.loop-left.left s c.loop-left.invariant.3 c.loop-left-test.false))
