use Rattle.std.proofs.Common.{◌∙◌, ◌≡◌, arith, sym, subst₂, nat_cmp}
use Rattle.std.specs.Cmp.Lexicographic.{slice_cmp}
use Rattle.commonware_sequence.proofs.BigEndian.{same_word, word_decides, word_on}
use Rattle.commonware_sequence.proofs.order.order_by_numbers.Goals as goal

pub returns-then-a-b-clause-none : goal.returns-then-a-b-clause-none
returns-then-a-b-clause-none c =
    word_on c.args.at c.args.mine.now c.args.others.now c.requires.mine c.requires.others
    (λ k. omega (arith, c.type_inv.mine k)) (λ k. omega (arith, c.type_inv.others k)) c.requires.same
    (sym c.requires.number ∙ c.if-a-b.true ∙ c.requires.other_number)

pub returns-clause-some : goal.returns-clause-some
returns-clause-some c =
    c.cmp.ensures ∙ subst₂ (λ a b. nat_cmp a b ≡ slice_cmp nat_cmp c.args.mine.now c.args.others.now)
    (sym c.requires.number) (sym c.requires.other_number)
    (word_decides c.args.at c.args.mine.now c.args.others.now c.requires.mine c.requires.others
    (λ k. omega (arith, c.type_inv.mine k)) (λ k. omega (arith, c.type_inv.others k)) c.requires.same
    (λ e. c.if-a-b.false (c.requires.number ∙ e ∙ sym c.requires.other_number)))

pub returns-clause-apart : goal.returns-clause-apart
returns-clause-apart c = λ same.
    c.if-a-b.false (c.requires.number ∙ same_word c.args.at c.args.mine.now c.args.others.now same ∙ sym c.requires.other_number)
