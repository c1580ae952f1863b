use Rattle.std.proofs.Common.{◌-◌, ◌≤◌, [], ◌∷◌, ◌++◌, get_or, length, arith, take, drop, subst, sym, ap, ◌∙◌, append_assoc}
use Rattle.judge_questions.specs.Hex.{IsHex}
use Rattle.judge_questions.proofs.HexLemmas.{hex_more, hex_rest, long_hex, no_byte, text_is_hex, two_front, one_left}
use Rattle.judge_questions.proofs.AllocationFailure.{at_error}
use Rattle.std.proofs.lemmas.Grind.{common_steps}
use Rattle.judge_questions.proofs.hex.read_text.Goals as goal

pub loop-rest-preserved : goal.loop-rest-preserved
loop-rest-preserved g c =
    let (done, split, hex) = c.loop-rest.invariant in
    let rest = c.loop-rest.rest.now in
    let high = get_or rest 0 0 in
    let low = get_or rest 1 0 in (
      done ++ (high ∷ low ∷ []),
      split ∙ ap (λ t. done ++ t) (two_front rest c.in-len2-up.len_at_least) ∙ sym (append_assoc done (high ∷ low ∷ []) (take (length rest - 2) (drop 2 rest))),
      subst (IsHex (done ++ (high ∷ low ∷ []))) (sym c.in_ok-push.ensures.appended) (hex_more done c.loop-rest.bytes high low c.in-Some.byte hex c.in-Some.ensures.byte),
    )

pub returns-in_default-read_byte-clause-read : goal.returns-in_default-read_byte-clause-read
returns-in_default-read_byte-clause-read g c = λ bytes h.
    let (done, split, hex) = c.loop-rest.invariant in
    let rest = c.loop-rest.rest.now in
    let digits = text_is_hex c.args.word.now bytes (λ e. cc (c.if-are_same.ensures.1 e)) h in
    let more = hex_rest done rest c.loop-rest.bytes bytes hex (subst (λ w. IsHex w bytes) split digits) in
    no_byte rest more.0 c.in-len2-up.len_at_least more.1 c.in_default-read_byte.ensures.other

pub returns-else-is_empty-2-clause-read : goal.returns-else-is_empty-2-clause-read
returns-else-is_empty-2-clause-read g c = λ bytes h.
    let (done, split, hex) = c.loop-rest.invariant in
    let rest = c.loop-rest.rest.now in
    let digits = text_is_hex c.args.word.now bytes (λ e. cc (c.if-are_same.ensures.1 e)) h in
    let more = hex_rest done rest c.loop-rest.bytes bytes hex (subst (λ w. IsHex w bytes) split digits) in
    let some : 1 ≤ length rest = grind arith in
    one_left rest more.0 some c.in_default.len_below more.1

pub returns-in_err-push-clause-memory : goal.returns-in_err-push-clause-memory
returns-in_err-push-clause-memory g c =
    let (done, split, hex) = c.loop-rest.invariant in
    at_error c.from_residual.result _ (long_hex c.args.word.now done c.loop-rest.rest.now c.loop-rest.bytes split hex c.in_err-push.ensures.memory c.in-len2-up.len_at_least)

pub returns-then-is_empty-2-clause-read : goal.returns-then-is_empty-2-clause-read
returns-then-is_empty-2-clause-read g c = grind (arith, common_steps)
