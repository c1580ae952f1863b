use Rattle.std.proofs.Common.{◌≡◌, Some, ap, sym, subst, ◌∙◌}
use Rattle.judge_questions.specs.Ranges.{IsLower, IsUpper}
use Rattle.judge_questions.proofs.RangeLemmas.{no_range, parts, same_range}
use Rattle.judge_questions.proofs.ranges.read_limit.Goals as goal

pub returns-in_err-at-clause-given : goal.returns-in_err-at-clause-given
returns-in_err-at-clause-given c = λ range h. absurd (no_range c.args.word.now range (sym c.in_err-at.ensures) h)

pub returns-in_err-end-clause-given : goal.returns-in_err-end-clause-given
returns-in_err-end-clause-given c = λ range h.
    let p = parts c.args.word.now range c.in_ok-at.at h (sym c.in_ok-at.ensures) in
    absurd (c.in_err-end.ensures p.end (c.split_at.ensures.back ∙ p.dots))

pub returns-in_err-lower-clause-given : goal.returns-in_err-lower-clause-given
returns-in_err-lower-clause-given c = λ range h.
    let p = parts c.args.word.now range c.in_ok-at.at h (sym c.in_ok-at.ensures) in
    let read = c.in_err-lower.ensures.given range.lower (subst (λ w. IsLower w range.lower) (sym c.split_at.ensures.front) p.above) in
    absurd (cc)

pub returns-in_err-upper-clause-given : goal.returns-in_err-upper-clause-given
returns-in_err-upper-clause-given c = λ range h.
    let p = parts c.args.word.now range c.in_ok-at.at h (sym c.in_ok-at.ensures) in
    let dots = sym c.in_ok-end.ensures ∙ c.split_at.ensures.back ∙ p.dots in
    let same : p.end ≡ c.in_ok-end.end.now = cc in
    let read = c.in_err-upper.ensures.given range.upper (subst (λ w. IsUpper w range.upper) same p.below) in
    absurd (cc)

pub returns-clause-given : goal.returns-clause-given
returns-clause-given c = λ range h.
    let p = parts c.args.word.now range c.in_ok-at.at h (sym c.in_ok-at.ensures) in
    let dots = sym c.in_ok-end.ensures ∙ c.split_at.ensures.back ∙ p.dots in
    let same : p.end ≡ c.in_ok-end.end.now = cc in
    let lower = c.in_ok-lower.ensures.given range.lower (subst (λ w. IsLower w range.lower) (sym c.split_at.ensures.front) p.above) in
    let upper = c.in_ok-upper.ensures.given range.upper (subst (λ w. IsUpper w range.upper) same p.below) in
    let is_lower : c.new.result.lower ≡ range.lower = cc c.new.ensures.lower in
    let is_upper : c.new.result.upper ≡ range.upper = cc c.new.ensures.upper in
    ap Some (same_range c.new.result range is_lower is_upper)
