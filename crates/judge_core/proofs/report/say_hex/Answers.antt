use Rattle.std.proofs.Common.{◌/◌, [], ◌∷◌, get_or, ap, ◌∙◌}
use Rattle.std.specs.Char.{digit_char}
use Rattle.commonware_utils.specs.Sequence.{hex_digits}
use Rattle.judge_core.proofs.Saying.{says_more}
use Rattle.judge_core.proofs.report.say_hex.Goals as goal

pub loop-byte-preserved : goal.loop-byte-preserved
loop-byte-preserved g c =
    let byte = get_or c.args.bytes.now c.loop-byte.byte-index 0 in
    let is = ap (λ d. d ∷ c.digit-in-loop-byte.result ∷ []) c.digit.ensures ∙ ap (λ d. digit_char (byte / 16) ∷ d ∷ []) c.digit-in-loop-byte.ensures in (
      c.in_ok-say_bytes.ensures.sound ∙ c.loop-byte.invariant.0,
      says_more hex_digits c.args.bytes.now c.loop-byte.byte-index 0 _ _ _ c.args.room.now c.loop-byte.room c.say_bytes.new.room _ c.loop-byte-test.true is c.loop-byte.invariant.1 c.in_ok-say_bytes.ensures.said,
    )
